use Rattle.std.proofs.Common.{◌∙◌}
use Rattle.media_check.proofs.KeptBatches.{found_by_part}
use Rattle.media_check.proofs.batches.KeptBatches.find.Goals as goal

pub returns-in-Some : goal.returns-in-Some
returns-in-Some c =
    λ files entries are first.
    let kept = c.args.self.now.kept.items in
    let found = c.in-Some.ensures.value in
    (rw c.as_slice.ensures at c.read_at.ensures) ∙ found_by_part files entries kept c.args.self.now.first.entries c.args.part.now c.in-Some.index.now found are first
