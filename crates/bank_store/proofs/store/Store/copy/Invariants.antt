use Rattle.std.proofs.Common.{◌≤◌, ◌-◌}
use Rattle.bank_store.proofs.Copying.{Copied}
use Rattle.bank_store.proofs.store.Store.copy.Given as goal

abbrev pub invariant-loop-done : goal.invariant-loop-done
invariant-loop-done g l = record {
  copied : Copied l.self (g.K.Disk.state l.fn.disk) (g.K.Disk.state l.disk) l.from l.to l.done;
  within : l.done ≤ l.count;
}

abbrev pub decreases-loop-done : goal.decreases-loop-done
decreases-loop-done g l = l.count - l.done
