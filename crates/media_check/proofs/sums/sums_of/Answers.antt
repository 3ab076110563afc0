use Rattle.std.proofs.Common.{sym, ◌∙◌, append-nil}
use Rattle.std.specs.Map.Iter.{deref}
use Rattle.std.proofs.lemmas.Map.Iter.{rest_all}
use Rattle.media_check.proofs.Lookups.{sums_as_seen}
use Rattle.media_check.proofs.sums.sums_of.Goals as goal

pub returns : goal.returns
returns c =
    let none = rest_all deref c.loop-file.file-iterator c.next.new.self c.next.result c.in-None.is c.next.ensures.steps in
    sym (append-nil c.loop-file.sums.items) ∙ (rw none at c.loop-file.invariant) ∙ sums_as_seen c.args.set.now.files.entries
