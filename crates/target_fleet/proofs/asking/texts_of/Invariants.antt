use Rattle.std.proofs.Common.{◌≡◌, take}
use Rattle.target_fleet.proofs.asking.texts_of.Given as goal

abbrev pub invariant-loop-part : goal.invariant-loop-part
invariant-loop-part l = l.texts.items ≡ take l.part-index l.parts
