-- A fleet's trace, taken line by line from those of its units (docs/EXCHANGE.md, "Fleets").
use Rattle.std.specs.Prelude.{◌≡◌, ℕ, ◌+◌, ◌-◌, ◌≤◌, List, [], ◌∷◌, ◌++◌, fold, length, map, reverse, slice_get, Option, Some, None, Bool, true, false, ◌==◌, if◌then◌else◌, ⊤}
use Rattle.exchange_trace.specs.Posts.{posted_in}
use Rattle.exchange_trace.specs.Steps.{Step, steps_of}
use Rattle.exchange_trace.specs.declared.trace.TraceStep.{TraceStep}
use Rattle.exchange_trace.specs.declared.trace.TraceStep.TheVariants as trace_lines
use Rattle.fleet_trace.specs.FleetTraces.{HasNotEnded, Of_all, Of_unit, StepOfFleet, fleet_steps_of, so_far, steps_of_unit, with_fleet_line}
use Rattle.fleet_trace.specs.Merging.{Batch_came, Stepped, StepsOfUnits, Unit_stepped, merged, stepping_order, times_stepped}
use Rattle.fleet_trace.specs.declared.trace.FleetStep.{FleetStep}
use Rattle.fleet_trace.specs.declared.trace.FleetStep.TheVariants as fleet_lines
use Rattle.load_base.specs.Listed.{Listed}
use Rattle.replay_turns.specs.Orders.{IsInOrder, lines_of_step}
use Rattle.target_fleet.specs.Units.{ChangesAt}
use Rattle.target_fleet.specs.Orders.{IsFleetInOrder, SeenInFleet, Seen_at, lines_of_fleet, seen_in_fleet}

-- each that is a unit is one of so many
abbrev pub AreUnits : (units : ℕ) → List Stepped → Type 0
AreUnits units order = (k unit : ℕ) (asked : Bool) → slice_get order k ≡ Some (Unit_stepped asked unit) → (1 ≤ unit) × (unit ≤ units)

-- of a step of a unit, that it is one of so many
abbrev pub IsUnitOf : (units : ℕ) → Stepped → Type 0
IsUnitOf units (Unit_stepped asked unit) = (1 ≤ unit) × (unit ≤ units)
IsUnitOf units (Batch_came part) = ⊤

-- each unit's trace, from unit 1 on, has its own steps of these, and their lines stand in order
abbrev pub HaveOwnSteps : List (Listed TraceStep) → List StepOfFleet → Type 0
HaveOwnSteps traces steps = (i : ℕ) (trace : Listed TraceStep) → slice_get traces i ≡ Some trace → (steps_of trace.items ≡ steps_of_unit (i + 1) steps) × IsInOrder trace.items

-- the steps after these, where lines of the fleet's trace come, of which the newest stands first, after one that asks or not
abbrev pub fleet_steps_after : (asked : Bool) → (before : List StepOfFleet) → (lines : List FleetStep) → List StepOfFleet
fleet_steps_after asked before lines = (fold with_fleet_line (so_far asked before) (reverse lines)).steps

abbrev pub fleet_steps_on : (before : List StepOfFleet) → (lines : List FleetStep) → List StepOfFleet
fleet_steps_on before lines = fleet_steps_after false before lines

-- the lines of these steps, and then lines of the fleet's trace, of which the newest stands first
abbrev pub fleet_lines_on : (before : List StepOfFleet) → (lines : List FleetStep) → List SeenInFleet
fleet_lines_on before lines = lines_of_fleet before ++ map seen_in_fleet (reverse lines)

-- a line of a trace begins a step
abbrev pub begins_step : TraceStep → Bool
begins_step (trace_lines.Given h) = true
begins_step line = false

-- Where a unit's trace has a newest step, it has the older ones left, and the fleet's lines are those of that step, and then
-- what they were.
pub record TakesNewest (unit : ℕ) (trace trace_then : List TraceStep) (lines lines_then : List FleetStep) : Type 0 where
  pub left : (s : Step) (earlier : List Step) → steps_of trace ≡ s ∷ earlier → steps_of trace_then ≡ earlier
  pub taken : (s : Step) (earlier : List Step) (asked : Bool) (before : List StepOfFleet) → steps_of trace ≡ s ∷ earlier
      → fleet_steps_after asked before lines_then ≡ fleet_steps_on (Of_unit asked unit s ∷ before) lines
  pub ordered : (s : Step) (earlier : List Step) (before : List SeenInFleet) → steps_of trace ≡ s ∷ earlier → IsInOrder trace
      → IsInOrder trace_then
      × (before ++ map seen_in_fleet (reverse lines_then) ≡ (before ++ map (Seen_at unit) (lines_of_step s)) ++ map seen_in_fleet (reverse lines))

-- the line that stands before those of a step whose upload was asked
abbrev pub asked_lines : (asked : Bool) → List FleetStep
asked_lines true = fleet_lines.AskNext ∷ []
asked_lines false = []

-- The newest step of a unit is taken off its trace, and before it stands that its upload was asked.
pub record TakesUnit (asked : Bool) (unit : ℕ) (traces traces_then : List (Listed TraceStep)) (lines lines_then : List FleetStep) : Type 0 where
  pub trace : Listed TraceStep
  pub trace_then : Listed TraceStep
  pub changes : ChangesAt (unit - 1) trace trace_then traces traces_then
  pub mid : List FleetStep
  pub takes : TakesNewest unit trace.items trace_then.items lines mid
  pub lines_are : lines_then ≡ mid ++ asked_lines asked

-- The newest step of a fleet, which was of this, is taken off.
abbrev pub TakesOff : Stepped → (traces traces_then : List (Listed TraceStep)) → (lines lines_then : List FleetStep) → Type 0
TakesOff (Unit_stepped asked unit) traces traces_then lines lines_then = TakesUnit asked unit traces traces_then lines lines_then
TakesOff (Batch_came part) traces traces_then lines lines_then = (traces_then ≡ traces) × (lines_then ≡ lines ++ fleet_lines.Batch part ∷ [])

-- Where the units stepped in this order, and have their own steps of these, the fleet's lines are those of all these steps, and
-- then what they were.
abbrev pub TakesAll : (order : List Stepped) → List (Listed TraceStep) → (lines lines_then : List FleetStep) → Type 0
TakesAll order traces lines lines_then =
    (steps : List StepOfFleet) → HasNotEnded steps → order ≡ reverse (stepping_order steps) → HaveOwnSteps traces steps
    → (fleet_steps_on [] lines_then ≡ fleet_steps_on steps lines) × (fleet_lines_on [] lines_then ≡ fleet_lines_on steps lines)

-- so the fleet's trace is these steps and then its end, in order
abbrev pub MergesAll : (order : List Stepped) → List (Listed TraceStep) → (trace : List FleetStep) → Type 0
MergesAll order traces trace =
    (steps : List StepOfFleet) → HasNotEnded steps → order ≡ reverse (stepping_order steps) → HaveOwnSteps traces steps
    → (fleet_steps_of trace ≡ Of_all ∷ steps) × IsFleetInOrder trace

-- ---- kept by units

-- the steps of a trace, if there is one
abbrev pub steps_told : Option (Listed TraceStep) → List Step
steps_told None = []
steps_told (Some trace) = steps_of trace.items

-- each unit's own steps, by the traces of the units from 1 on
abbrev pub own_steps : List (Listed TraceStep) → StepsOfUnits
own_steps traces unit = steps_told (if unit == 0 then None else slice_get traces (unit - 1))

-- the steps of a fleet whose units stepped in this order, and its end
abbrev pub steps_to_end : (order : List Stepped) → List (Listed TraceStep) → List StepOfFleet
steps_to_end order traces = Of_all ∷ merged (reverse order) (own_steps traces)

-- The order names each unit as often as its trace has steps, and no other, and the lines of each trace stand in order.
pub record KeepsSteps (order : List Stepped) (traces : List (Listed TraceStep)) : Type 0 where
  pub units : AreUnits (length traces) order
  pub named : (unit : ℕ) → times_stepped unit (reverse order) ≡ length (own_steps traces unit)
  pub ordered : (i : ℕ) (trace : Listed TraceStep) → slice_get traces i ≡ Some trace → IsInOrder trace.items

-- Each unit's trace has so many posts, of eight units at most.
pub record CountsPosts (traces : List (Listed TraceStep)) (counts : List ℕ) : Type 0 where
  pub few : length traces ≤ 8
  pub counted : (i : ℕ) (trace : Listed TraceStep) → slice_get traces i ≡ Some trace → slice_get counts i ≡ Some (length (posted_in (steps_of trace.items)))
