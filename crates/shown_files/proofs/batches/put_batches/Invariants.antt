use Rattle.std.proofs.Common.{◌≡◌, ◌++◌, take}
use Rattle.std.specs.List.{flat_map}
use Rattle.shown_files.specs.BatchText.{listed_batch_line}
use Rattle.shown_files.proofs.batches.put_batches.Given as goal

abbrev pub invariant-loop-batch : goal.invariant-loop-batch
invariant-loop-batch l = l.out.items ≡ l.fn.out.items ++ flat_map listed_batch_line (take l.batch-index l.batches)
