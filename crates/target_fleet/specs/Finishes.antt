-- A unit of a fleet that is left to the last `finish` of the fleet's script (docs/EXCHANGE.md, "Fleets").
use Rattle.std.specs.Prelude.{◌≡◌, ℕ, ◌≤◌, List, ◌∷◌, Option, Some}
use Rattle.accept_rules.specs.Permissions.{AcceptsPermitted}
use Rattle.disk_layout.specs.Holds.{StandingView}
use Rattle.fleet_trace.specs.FleetFinishes.{ReachesFleetFinish}
use Rattle.fleet_trace.specs.FleetFollowing.{FleetAsking, FollowsFleet}
use Rattle.fleet_trace.specs.FleetLines.{FleetLine}
use Rattle.fleet_trace.specs.FleetTraces.{StepOfFleet, ended_step, steps_of_unit}
use Rattle.replay_rules.specs.BothEnds.{Setting, target_at}
use Rattle.replay_rules.specs.FaultFree.{IsFaultFree}
use Rattle.replay_rules.specs.Histories.{active_by}
use Rattle.replay_rules.specs.Promises.{NoneGoesDown}
use Rattle.replay_rules.specs.Runs.{IsWithinMargin}
use Rattle.run_promises.specs.Listing.{StandingFits}
use Rattle.run_promises.specs.Promises.{CanBeTold, KeepsPromises}
use Rattle.session_completion.specs.FinishedRuns.{IsComplete}
use Rattle.session_rules.specs.Loader.{EndedSession}
use Rattle.target_fleet.specs.Runs.{fleet_waiting}

-- A fleet's whole trace comes to where the last `finish` of its script is left. The unit's own steps before that are fault-free
-- and within the margin, and in the `finish` its target doesn't go down. What befell other units is no matter.
pub record IsLeftAtUnit (units : ℕ) (sets : ℕ → Setting) (asks : FleetAsking) (script : List FleetLine) (steps : List StepOfFleet) (unit : ℕ) : Type 0 where
  pub whole : ReachesFleetFinish units (fleet_waiting units sets) asks script steps
  pub least : 1 ≤ unit
  pub most : unit ≤ units
  pub free : IsFaultFree (sets unit) (steps_of_unit unit whole.before)
  pub margin : IsWithinMargin (sets unit) (steps_of_unit unit whole.before)
  pub stays_up : NoneGoesDown (ended_step ∷ steps_of_unit unit whole.more)

-- Such a unit is complete: its upload is completed, all is quiet there, its target is up, and what was recovered has the loads
-- that were asked for, and then those that are kept.
abbrev pub CompletesAtUnit : (units : ℕ) → (sets : ℕ → Setting) → FleetAsking → List FleetLine → List StepOfFleet → (unit : ℕ) → List EndedSession → Option StandingView → Type 0
CompletesAtUnit units sets asks script steps unit sessions standing =
    FollowsFleet units (fleet_waiting units sets) asks script steps → KeepsPromises (sets unit) (steps_of_unit unit steps) sessions standing
    → AcceptsPermitted (sets unit).accepts → CanBeTold (sets unit).media → StandingFits (sets unit).start → (left : IsLeftAtUnit units sets asks script steps unit)
    → (last : StandingView) → standing ≡ Some last → last ≡ active_by (target_at (sets unit) (steps_of_unit unit steps)) (Some last)
    → IsComplete (sets unit) (steps_of_unit unit left.whole.before) left.free (steps_of_unit unit steps) last
