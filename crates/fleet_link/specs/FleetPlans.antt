-- A fleet's script that is being followed, as the code keeps it.
use Rattle.std.specs.Prelude.{◌≡◌, ℕ, ◌+◌, ◌-◌, ◌≤◌, ◌==◌, List, length, drop, slice_get, Bool, false, Option, Some, None, option_map, if◌then◌else◌, IfSome}
use Rattle.std.specs.List.{slice_index_or}
use Rattle.exchange_trace.specs.declared.trace.Side.{Side}
use Rattle.exchange_trace.specs.declared.trace.Side.TheVariants as sides
use Rattle.fleet_trace.specs.FleetTraces.{FleetHappeningView, At_unit, Batch_begun, Next_asked, All_ended, fleet_happening_view}
use Rattle.fleet_trace.specs.FleetFollowing as following
use Rattle.fleet_trace.specs.FleetFollowing.{FleetPlan, FleetScene, TickTurns, UnitTick, fleet_turn}
use Rattle.exchange_trace.specs.Lines.{Line}
use Rattle.fleet_trace.specs.FleetLines as spec
use Rattle.link_net.specs.Plans.{TakesMemory}
use Rattle.link_net.specs.declared.link.Waits.{Waits}
use Rattle.fleet_link.specs.declared.fleet_line.FleetLine.{FleetLine}
use Rattle.fleet_link.specs.declared.fleet_turn.FleetRest.{FleetRest}
use Rattle.fleet_link.specs.declared.fleet_turn.FleetRest.TheVariants as rests
use Rattle.fleet_link.specs.declared.fleet_turn.FinishOf.{FinishOf}
use Rattle.fleet_link.specs.declared.fleet_turn.FinishOf.TheVariants as finishes
use Rattle.fleet_link.specs.declared.fleet_turn.FleetTick.{FleetTick}
use Rattle.fleet_link.specs.declared.fleet_turn.FleetTurn.{FleetTurn}
use Rattle.fleet_link.specs.Lines.{AreAtUnits, fleet_line_views}
use Rattle.fleet_link.specs.FleetMail.{FleetMailView, NamesPlaced, fleet_scene_in}

-- ---- as the code keeps it

-- whether a side of a unit has a live session, of these from unit 1 on; no unit has number 0
abbrev pub waits_in : List Waits → (unit : ℕ) → Side → Bool
waits_in waits unit side = if unit == 0 then false else of (slice_get waits (unit - 1)) side
  where
    of : Option Waits → Side → Bool
    of (Some w) sides.Loader = w.loader
    of (Some w) sides.Target = w.target
    of None side = false

-- for each unit whose turn it is to be ticked, from unit 1 on; no unit has number 0
abbrev pub turns_in : List Side → TickTurns
turns_in firsts unit = if unit == 0 then sides.Loader else slice_index_or firsts (unit - 1) sides.Loader

abbrev pub tick_view : FleetTick → UnitTick
tick_view ticked = record { unit = ticked.index + 1; side = ticked.side }

abbrev pub fleet_rest_view : FleetRest → following.FleetRest
fleet_rest_view rests.Nothing = following.Line_is_done
fleet_rest_view (rests.Deliveries left) = following.Deliveries_left left
fleet_rest_view (rests.Finishing firsts) = following.Finish_goes_on (turns_in firsts)
fleet_rest_view (rests.BatchFinishing firsts) = following.Batch_finishes (turns_in firsts)

-- what is left of a script, of which the line at this offset comes next
abbrev pub fleet_plan_at : FleetRest → List FleetLine → ℕ → FleetPlan
fleet_plan_at rest lines next = record { rest = fleet_rest_view rest; lines = fleet_line_views (drop next lines) }

-- the turn, where these lines come later
abbrev pub fleet_turn_view : List spec.FleetLine → FleetTurn → following.FleetTurn
fleet_turn_view later t = fleet_turn (fleet_happening_view t.given) (fleet_rest_view t.rest) later

-- what following the script sees, where these sides have a live session, of as many units, and an upload may be asked or not
abbrev pub seen_with : FleetMailView → List Waits → (may_ask : Bool) → FleetScene
seen_with mail waits may_ask = fleet_scene_in mail (length waits) (waits_in waits) may_ask

-- the lines from this offset on are of a fleet of as many units, which are eight at most
pub record IsOfUnits (lines : List FleetLine) (next : ℕ) (waits : List Waits) : Type 0 where
  pub within : next ≤ length lines
  pub units : length waits ≤ 8
  pub each : AreAtUnits (length waits) (fleet_line_views lines)

-- ---- what a line gives

-- what a line of a target gives at a unit
abbrev pub gives_at_unit : FleetScene → (unit : ℕ) → Line → List spec.FleetLine → Option following.FleetTurn
gives_at_unit s unit line later = following.turn_leaving following.Line_is_done later (following.given_by_line s unit line)

-- what is left of a `finish`
abbrev pub finishes_of : FinishOf → following.Finishes
finishes_of finishes.Line = following.Finish_goes_on
finishes_of finishes.Batch = following.Batch_finishes

-- what it gives next, by whose turn it is at each unit
abbrev pub gives_of_finish : FleetScene → FinishOf → TickTurns → List spec.FleetLine → Option following.FleetTurn
gives_of_finish s of firsts later = following.fleet_finishing s (finishes_of of) firsts later (following.least_fleet_delivery s)

-- What was found is the turn that is said, whatever lines come later, and names only what was posted.
pub record IsFleetTurn (mail : FleetMailView) (found : Option FleetTurn) (said : List spec.FleetLine → Option following.FleetTurn) : Type 0 where
  pub turn : (later : List spec.FleetLine) → option_map (fleet_turn_view later) found ≡ said later
  pub named : IfSome found (λ t. NamesPlaced mail (fleet_happening_view t.given))

-- Giving it takes memory, since it has a copy of what its line carries.
abbrev pub FleetTakesMemory : FleetHappeningView → Type 0
FleetTakesMemory (At_unit unit h) = TakesMemory h
FleetTakesMemory (Batch_begun part) = ⊥
FleetTakesMemory Next_asked = ⊥
FleetTakesMemory All_ended = ⊥

abbrev pub FleetTurnTakesMemory : Option following.FleetTurn → Type 0
FleetTurnTakesMemory None = ⊥
FleetTurnTakesMemory (Some t) = FleetTakesMemory t.given

-- The line gives such a happening, whatever lines come later.
abbrev pub FleetLineTakesMemory : (List spec.FleetLine → Option following.FleetTurn) → Type 0
FleetLineTakesMemory said = (later : List spec.FleetLine) → FleetTurnTakesMemory (said later)
