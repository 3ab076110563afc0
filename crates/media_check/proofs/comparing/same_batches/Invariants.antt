use Rattle.std.proofs.Common.{◌≡◌, drop}
use Rattle.std.specs.Cmp.Lexicographic.{pointwise}
use Rattle.media_check.specs.Findings.{same_batch as same_batch_of}
use Rattle.media_check.proofs.comparing.same_batches.Given as goal

abbrev pub invariant-loop-index : goal.invariant-loop-index
invariant-loop-index l = pointwise same_batch_of l.one l.other ≡ pointwise same_batch_of (drop l.index l.one) (drop l.index l.other)
