use Rattle.std.proofs.Common.{◌≡◌, length}
use Rattle.target_fleet.proofs.MergedSteps.{TakenOf}
use Rattle.target_fleet.proofs.SteppedSoFar.{AreTakenOff}
use Rattle.target_fleet.proofs.merging.take_steps.Given as goal

abbrev pub invariant-steps : goal.invariant-steps
invariant-steps l = record {
  same : length l.traces ≡ length l.fn.traces;
  off : AreTakenOff l.fn.order l.order l.counter;
  of : TakenOf l.fn.order l.fn.traces l.traces l.counter l.fn.lines.items l.lines.items;
}
