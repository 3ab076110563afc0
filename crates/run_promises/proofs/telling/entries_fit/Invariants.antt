use Rattle.std.proofs.Common.{take}
use Rattle.std.specs.List.{AllByRecursion}
use Rattle.run_promises.specs.TellableSets.{IsTellableLoad}
use Rattle.run_promises.proofs.telling.entries_fit.Given as goal

abbrev pub invariant-loop-entry : goal.invariant-loop-entry
invariant-loop-entry l = AllByRecursion IsTellableLoad (take l.entry-index l.entries)
