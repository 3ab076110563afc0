use Rattle.std.proofs.Common.{◌≡◌, ◌++◌}
use Rattle.std.specs.Prelude.{map}
use Rattle.std.specs.HashMap.{values}
use Rattle.media_check.proofs.Lookups.{kept_sum}
use Rattle.media_check.proofs.sums.sums_of.Given as goal

abbrev pub invariant-loop-file : goal.invariant-loop-file
invariant-loop-file l = l.sums.items ++ map kept_sum l.file-iterator ≡ map kept_sum (values l.set.files)
