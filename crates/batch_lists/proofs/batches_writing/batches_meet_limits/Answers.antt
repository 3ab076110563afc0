use Rattle.batch_lists.proofs.BatchesFit.{batches_short}
use Rattle.batch_lists.proofs.batches_writing.batches_meet_limits.Goals as goal

pub returns-then-are_batches : goal.returns-then-are_batches
returns-then-are_batches c =
    let each = c.are_batches.ensures.0 c.if-are_batches.true in (
      λ new. record { count = c.if-batches-gt-MOST_ENTRIES.false; each = each; distances = batches_short c.args.members c.args.batches.now each; names = c.are_new.ensures.0 new },
      λ all. c.are_new.ensures.1 all.names,
    )
