use Rattle.std.proofs.Common.{take}
use Rattle.std.specs.List.{All}
use Rattle.part_number.specs.PartNumber.{IsPartNumberText}
use Rattle.batch_lists.proofs.fitting.are_parts.Given as goal

abbrev pub invariant-loop-part : goal.invariant-loop-part
invariant-loop-part l = All (λ part. IsPartNumberText part) (take l.part-index l.parts)
