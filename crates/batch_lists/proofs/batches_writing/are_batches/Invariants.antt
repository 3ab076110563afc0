use Rattle.std.proofs.Common.{take}
use Rattle.std.specs.List.{AllByRecursion}
use Rattle.batch_lists.specs.Batches.{IsListedBatch}
use Rattle.batch_lists.proofs.batches_writing.are_batches.Given as goal

abbrev pub invariant-loop-batch : goal.invariant-loop-batch
invariant-loop-batch l = AllByRecursion (IsListedBatch l.members) (take l.batch-index l.batches)
