use Rattle.std.proofs.Common.{[], ap, ◌∙◌}
use Rattle.media_build.specs.Parts.{LoadFilesView, with_file}
use Rattle.media_build.proofs.OwnLines.{unread_more}
use Rattle.media_build.proofs.source_files.unread_files.Goals as goal

pub loop-line-preserved : goal.loop-line-preserved
loop-line-preserved c =
    let line = c.line-item.result in
    rw c.new.ensures at c.in_ok-files.ensures ∙ (ap (λ (files : LoadFilesView). with_file files line.statement []) c.loop-line.invariant
    ∙ unread_more c.args.own.now c.loop-line.line-index line c.loop-line-test.true c.line-item.is)
