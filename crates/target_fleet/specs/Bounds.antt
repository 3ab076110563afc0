-- How long the last `finish` of a fleet's script may go on (docs/EXCHANGE.md, "Fleets").
use Rattle.std.specs.Prelude.{ℕ, ◌+◌, ◌*◌, ◌≤◌, List, length}
use Rattle.exchange_trace.specs.Posts.{undelivered_after}
use Rattle.finish_ends.specs.Finishes.{most_of_finish}
use Rattle.fleet_trace.specs.FleetFinishes.{ReachesFleetFinish}
use Rattle.fleet_trace.specs.FleetFollowing.{FleetAsking, FollowsFleet}
use Rattle.fleet_trace.specs.FleetLines.{FleetLine}
use Rattle.fleet_trace.specs.FleetTraces.{StepOfFleet, steps_of_unit}
use Rattle.replay_rules.specs.BothEnds.{Setting}
use Rattle.replay_rules.specs.Changes.{AllCarryBytes}
use Rattle.replay_rules.specs.Promises.{IsTrace}
use Rattle.target_fleet.specs.Runs.{fleet_waiting}

-- A unit of a fleet that comes to the last `finish` of its script has no more happenings in it than a `finish` of its own has,
-- and two more for each datagram that is undelivered at the unit as it begins. What befell other units is no matter.
abbrev pub FinishEndsAtUnit : (units : ℕ) → (sets : ℕ → Setting) → FleetAsking → List FleetLine → List StepOfFleet → (unit : ℕ) → Type 0
FinishEndsAtUnit units sets asks script steps unit =
    FollowsFleet units (fleet_waiting units sets) asks script steps → IsTrace (sets unit) (steps_of_unit unit steps) → AllCarryBytes (steps_of_unit unit steps)
    → 1 ≤ unit → unit ≤ units → (whole : ReachesFleetFinish units (fleet_waiting units sets) asks script steps)
    → length (steps_of_unit unit whole.more) ≤ most_of_finish + 2 * length (undelivered_after (steps_of_unit unit whole.before))
