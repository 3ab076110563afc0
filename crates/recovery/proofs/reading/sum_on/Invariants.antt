use Rattle.std.proofs.Common.{◌≤◌, ◌-◌}
use Rattle.recovery.specs.Parts.{IsSumAt}
use Rattle.recovery.proofs.DiskReads.{Looked}
use Rattle.recovery.proofs.reading.sum_on.Given as goal

abbrev pub invariant-loop-done : goal.invariant-loop-done
invariant-loop-done g l = record {
  looked : Looked (g.K.Disk.state l.fn.disk) (g.K.Disk.state l.disk);
  within : l.done ≤ l.count;
  sum : IsSumAt (g.K.Disk.state l.fn.disk).reads l.at l.done l.sum;
}

abbrev pub decreases-loop-done : goal.decreases-loop-done
decreases-loop-done g l = l.count - l.done
