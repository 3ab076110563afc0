use Rattle.std.proofs.Common.{◌≡◌, ◌≤◌, ◌-◌, Bool, length}
use Rattle.fleet_trace.specs.FleetFollowing.{fleet_tick}
use Rattle.fleet_link.specs.FleetMail.{FleetMailView, fleet_scene_in}
use Rattle.fleet_link.specs.FleetPlans.{turns_in, waits_in}
use Rattle.fleet_link.proofs.FleetTurns.{ticked_from}
use Rattle.fleet_link.proofs.fleet_turn.first_tick.Given as goal

-- no unit so far has a side that waits
abbrev pub invariant-loop-at : goal.invariant-loop-at
invariant-loop-at l = record {
  within : l.at ≤ length l.waits;
  left : (mail : FleetMailView) (may_ask : Bool) → fleet_tick (fleet_scene_in mail (length l.waits) (waits_in l.waits) may_ask) (turns_in l.firsts) ≡ ticked_from mail may_ask l.waits l.firsts l.at;
}

abbrev pub decreases-loop-at : goal.decreases-loop-at
decreases-loop-at l = length l.waits - l.at
