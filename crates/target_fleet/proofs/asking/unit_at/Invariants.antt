use Rattle.std.proofs.Common.{◌≡◌, ◌≤◌, ◌-◌, length}
use Rattle.target_fleet.specs.Asking.{least_unit_from}
use Rattle.target_fleet.specs.AskingCalls.{places_in}
use Rattle.target_fleet.proofs.LeastUnits.{least_left}
use Rattle.target_fleet.proofs.asking.unit_at.Given as goal

-- no unit so far is there
abbrev pub invariant-loop-index : goal.invariant-loop-index
invariant-loop-index g l = record {
  within : l.index ≤ length l.drivers;
  left : least_unit_from 1 l.hw l.pos (places_in l.drivers) ≡ least_left l.hw l.pos l.drivers l.index;
}

abbrev pub decreases-loop-index : goal.decreases-loop-index
decreases-loop-index g l = length l.drivers - l.index
