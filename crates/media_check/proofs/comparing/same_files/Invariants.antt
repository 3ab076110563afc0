use Rattle.std.proofs.Common.{◌≡◌, drop}
use Rattle.std.specs.Cmp.Lexicographic.{pointwise}
use Rattle.media_check.specs.Findings.{same_file as same_file_of}
use Rattle.media_check.proofs.comparing.same_files.Given as goal

abbrev pub invariant-loop-index : goal.invariant-loop-index
invariant-loop-index l = pointwise same_file_of l.one l.other ≡ pointwise same_file_of (drop l.index l.one) (drop l.index l.other)
