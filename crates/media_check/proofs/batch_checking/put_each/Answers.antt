use Rattle.std.proofs.Common.{◌++◌, List, ap, ◌∙◌}
use Rattle.indexmap.specs.IndexSet.{contains}
use Rattle.load_base.specs.Bytes.{same_bytes}
use Rattle.media_check.specs.Findings.{batch_findings}
use Rattle.media_check.specs.Kept.{files_view}
use Rattle.media_check.specs.Sets.{set_view}
use Rattle.media_check.specs.declared.finding.Finding.{Finding}
use Rattle.media_check.proofs.BatchFindings.{entry_is_found}
use Rattle.media_check.proofs.FindingLists.{found_more}
use Rattle.media_check.proofs.KeptBatches.{kept_at}
use Rattle.media_check.proofs.batch_checking.put_each.Goals as goal

pub loop-index-preserved : goal.loop-index-preserved
loop-index-preserved c =
    let set = set_view c.args.set.now in
    let entries = c.args.entries.now in
    let i = c.loop-index.index in
    let entry = c.index-entries-index.result in
    let at = rw c.as_slice-kept.ensures at c.index-kept-index.is in
    let is = kept_at (files_view c.args.set.now.files.entries) entries c.args.set.now.batches.kept.items i entry c.index-kept-index.result c.requires c.loop-index-test.true c.index-entries-index.is at in
    found_more (batch_findings set (contains same_bytes c.args.parts.now)) c.args.out.now.items c.loop-index.out.items c.put_entry.new.out.items entries i entry c.loop-index-test.true c.index-entries-index.is
    c.loop-index.invariant
    (c.in_ok-put_entry.ensures ∙ ap (λ (l : List Finding). c.loop-index.out.items ++ l) (entry_is_found set (contains same_bytes c.args.parts.now) entry c.index-kept-index.result is))
