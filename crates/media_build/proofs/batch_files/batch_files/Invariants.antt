use Rattle.std.proofs.Common.{length}
use Rattle.std.specs.Prelude.{map}
use Rattle.media_build.specs.NoFindings.{body_view}
use Rattle.media_build.proofs.BatchesSoFar.{BatchesSoFar}
use Rattle.media_build.proofs.batch_files.batch_files.Given as goal

abbrev pub invariant-loop-batch : goal.invariant-loop-batch
invariant-loop-batch l = BatchesSoFar l.lines l.batches (map body_view l.files.items) l.length

abbrev pub decreases-loop-batch : goal.decreases-loop-batch
decreases-loop-batch l = length l.batches
