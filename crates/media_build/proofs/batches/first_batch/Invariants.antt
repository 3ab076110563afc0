use Rattle.std.proofs.Common.{◌≡◌, drop}
use Rattle.media_build.specs.RecipeSets.{batches_of}
use Rattle.media_build.proofs.batches.first_batch.Given as goal

-- no batch begins at a line so far
abbrev pub invariant-loop-index : goal.invariant-loop-index
invariant-loop-index l = batches_of (drop l.index l.lines) ≡ batches_of l.lines
