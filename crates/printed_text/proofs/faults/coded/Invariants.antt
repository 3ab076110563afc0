use Rattle.std.proofs.Common.{◌≡◌, ◌++◌, take}
use Rattle.std.specs.List.{flat_map}
use Rattle.printed_text.specs.FaultTexts.{number_text}
use Rattle.printed_text.proofs.faults.coded.Given as goal

abbrev pub invariant-loop-number : goal.invariant-loop-number
invariant-loop-number l = l.out.items ≡ l.fn.code ++ flat_map number_text (take l.number-index l.numbers)
