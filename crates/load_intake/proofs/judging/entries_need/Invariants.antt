use Rattle.std.proofs.Common.{◌≡◌, ◌*◌, ◌^◌, ◌≤◌, take}
use Rattle.load_intake.specs.Needs.{entries_need}
use Rattle.load_intake.proofs.judging.entries_need.Given as goal

abbrev pub invariant-loop-entry : goal.invariant-loop-entry
invariant-loop-entry l = (l.need ≡ entries_need (take l.entry-index l.entries)) × (l.need ≤ l.entry-index * 2 ^ 33)
