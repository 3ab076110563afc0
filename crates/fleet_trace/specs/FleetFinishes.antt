-- A fleet's script that is left to a last `finish` (docs/FORMATS.md, "Script of a fleet").
use Rattle.std.specs.Prelude.{◌≡◌, ℕ, List, [], ◌∷◌, ◌++◌, Bool, Option, Some, None, ⊤}
use Rattle.exchange_trace.specs.declared.trace.Side.{Side}
use Rattle.exchange_trace.specs.Following.{FollowsScript, plan_after, plan_of}
use Rattle.exchange_trace.specs.Happenings.{Ticked}
use Rattle.exchange_trace.specs.Lines.{Finish}
use Rattle.exchange_trace.specs.Steps.{Step}
use Rattle.fleet_trace.specs.FleetTraces.{FleetHappeningView, At_unit, StepOfFleet, Of_all, ended_step}
use Rattle.fleet_trace.specs.FleetPosts.{given_in_fleet, undelivered_places}
use Rattle.fleet_trace.specs.FleetLines.{FleetLine, Finish_all}
use Rattle.fleet_trace.specs.FleetFollowing.{FleetAsking, FleetPlan, FleetScene, FleetTurn, FleetWaiting, TickTurns, UnitTick}
use Rattle.fleet_trace.specs.FleetFollowing.{fleet_begins, fleet_goes_on, fleet_plan_after, fleet_scene_after}
use Rattle.fleet_trace.specs.FleetFollowing.{fleet_tick, least_fleet_delivery}
use Rattle.fleet_trace.specs.OwnScripts.{own_script}

-- ---- a last `finish` is left

-- each of these lines gives nothing in this scene, where it would begin before the later ones
abbrev pub AllFleetLinesGiveNothing : FleetScene → List FleetLine → (later : List FleetLine) → Type 0
AllFleetLinesGiveNothing s [] later = ⊤
AllFleetLinesGiveNothing s (line ∷ idle) later =
    (◌≡◌ {A = Option FleetTurn} (fleet_begins s line (idle ++ later)) None) × AllFleetLinesGiveNothing s idle later

-- what is left of the line that is followed gives nothing
abbrev pub LineGivesNothing : FleetScene → FleetPlan → Type 0
LineGivesNothing s p = ◌≡◌ {A = Option FleetTurn} (fleet_goes_on s p.rest p.lines) None

-- After these steps the next turn is that of the script's last line, a `finish`: what is left of the line that is
-- followed gives nothing more, and neither do the lines before the last.
pub record FleetFinishIsLeft (units : ℕ) (waiting : FleetWaiting) (asks : FleetAsking) (script : List FleetLine)
    (steps : List StepOfFleet) : Type 0 where
  pub idle : List FleetLine
  pub lines : (fleet_plan_after units waiting asks script steps).lines ≡ idle ++ Finish_all ∷ []
  pub over : LineGivesNothing (fleet_scene_after units waiting asks steps) (fleet_plan_after units waiting asks script steps)
  pub give_nothing : AllFleetLinesGiveNothing (fleet_scene_after units waiting asks steps) idle (Finish_all ∷ [])

-- The last `finish` was left in a whole trace after the older of its steps; the newer ones come then, and at last the end.
pub record ReachesFleetFinish (units : ℕ) (waiting : FleetWaiting) (asks : FleetAsking) (script : List FleetLine)
    (steps : List StepOfFleet) : Type 0 where
  pub before : List StepOfFleet
  pub more : List StepOfFleet
  pub split : steps ≡ Of_all ∷ more ++ before
  pub left : FleetFinishIsLeft units waiting asks script before

-- ---- and is followed

-- What a `finish` gives in this scene: the fleet's least undelivered datagram is delivered; where none is undelivered,
-- the least unit that has a side that waits is ticked.
pub data IsOfFleetFinish (s : FleetScene) : FleetHappeningView → Type 0 where
  least_is_delivered : (h : FleetHappeningView) → least_fleet_delivery s ≡ Some h → IsOfFleetFinish s h
  side_is_ticked : (firsts : TickTurns) (t : UnitTick) → undelivered_places s.posted s.happenings ≡ []
      → fleet_tick s firsts ≡ Some t → IsOfFleetFinish s (At_unit t.unit (Ticked t.side))

-- In each of these steps, which follow others, such a thing happens.
abbrev pub AllOfFleetFinish : (units : ℕ) → FleetWaiting → FleetAsking → (more before : List StepOfFleet) → Type 0
AllOfFleetFinish units waiting asks [] before = ⊤
AllOfFleetFinish units waiting asks (s ∷ more) before =
    IsOfFleetFinish (fleet_scene_after units waiting asks (more ++ before)) (given_in_fleet s)
    × AllOfFleetFinish units waiting asks more before

-- ---- at each unit

-- A unit's whole trace follows a script of its own, whose last line is `finish`. Of that only the `finish` is left after
-- the older steps; the newer ones come then, and at last the end.
pub record IsLeftToOwnFinish (waiting : Side → List Step → Bool) (before more steps : List Step) : Type 0 where
  pub split : steps ≡ ended_step ∷ more ++ before
  pub follows : FollowsScript waiting (own_script before ++ Finish ∷ []) steps
  pub left : plan_after waiting (own_script before ++ Finish ∷ []) before ≡ plan_of (Finish ∷ [])
