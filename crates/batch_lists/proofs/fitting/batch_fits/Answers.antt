use Rattle.batch_lists.proofs.BatchSizes.{fits_by_counts}
use Rattle.batch_lists.proofs.fitting.batch_fits.Goals as goal

pub returns-then-is_count : goal.returns-then-is_count
returns-then-is_count c =
    let counted = rw c.as_slice-targets.ensures at (c.is_count.ensures.0 c.if-is_count.true) in
    let all = rw c.as_slice-targets.ensures at c.are_targets.ensures in
    let by = fits_by_counts c.args.batch.now c.as_slice-part.ensures.is_part_number in
    (λ so. by.0 (counted, all.0 so), λ is. all.1 (by.1 is).1)
