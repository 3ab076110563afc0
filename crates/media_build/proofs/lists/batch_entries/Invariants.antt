use Rattle.std.proofs.Common.{◌≡◌, ◌++◌, length, map}
use Rattle.media_build.specs.RecipeSets.{batch_entry, batches_of}
use Rattle.media_build.proofs.lists.batch_entries.Given as goal

abbrev pub invariant-loop-batch : goal.invariant-loop-batch
invariant-loop-batch l = l.entries.items ++ map batch_entry l.batches ≡ map batch_entry (batches_of l.lines)

abbrev pub decreases-loop-batch : goal.decreases-loop-batch
decreases-loop-batch l = length l.batches
