use Rattle.std.proofs.Common.{◌≤◌, ◌-◌}
use Rattle.bank_store.proofs.Reading.{ReadSoFar}
use Rattle.bank_store.proofs.known.read_all.Given as goal

abbrev pub invariant-loop-done : goal.invariant-loop-done
invariant-loop-done g l = record {
  read : ReadSoFar (g.K.Disk.state l.fn.disk) (g.K.Disk.state l.disk) l.at l.done l.bytes;
  within : l.done ≤ l.count;
}

abbrev pub decreases-loop-done : goal.decreases-loop-done
decreases-loop-done g l = l.count - l.done
