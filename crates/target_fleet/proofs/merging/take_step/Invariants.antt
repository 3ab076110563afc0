use Rattle.target_fleet.proofs.TakenLines.{TakenSoFar}
use Rattle.target_fleet.proofs.merging.take_step.Given as goal

abbrev pub invariant-lines : goal.invariant-lines
invariant-lines l = TakenSoFar l.unit l.counter l.fn.trace.items l.trace.items l.fn.lines.items l.lines.items
