-- In which order the lines of a fleet's trace stand (docs/EXCHANGE.md, "Fleets").
use Rattle.std.specs.Prelude.{◌≡◌, ℕ, List, [], ◌∷◌, ◌++◌, map, Bool, true, false}
use Rattle.fleet_trace.specs.FleetTraces.{Of_all, Of_batch, Of_unit, StepOfFleet, fleet_steps_of}
use Rattle.fleet_trace.specs.declared.trace.FleetStep.{FleetStep}
use Rattle.fleet_trace.specs.declared.trace.FleetStep.TheVariants as fleet_lines
use Rattle.replay_turns.specs.Orders.{SeenLine, lines_of_step, seen_line}

-- a line of a fleet's trace, with lists as they are seen
pub data SeenInFleet : Type 0 where
  Seen_at : (unit : ℕ) → SeenLine → SeenInFleet
  Seen_batch : (part : List ℕ) → SeenInFleet
  Seen_ask : SeenInFleet
  Seen_end : SeenInFleet

abbrev pub seen_in_fleet : FleetStep → SeenInFleet
seen_in_fleet (fleet_lines.At unit line) = Seen_at unit (seen_line line)
seen_in_fleet (fleet_lines.Batch part) = Seen_batch part
seen_in_fleet fleet_lines.AskNext = Seen_ask
seen_in_fleet fleet_lines.End = Seen_end

-- that an upload was asked stands before the step that starts it
abbrev pub asked_line : (asked : Bool) → List SeenInFleet
asked_line true = Seen_ask ∷ []
asked_line false = []

-- the lines of a step, each with its unit
abbrev pub lines_of_fleet_step : StepOfFleet → List SeenInFleet
lines_of_fleet_step (Of_unit asked unit s) = asked_line asked ++ map (Seen_at unit) (lines_of_step s)
lines_of_fleet_step (Of_batch part) = Seen_batch part ∷ []
lines_of_fleet_step Of_all = Seen_end ∷ []

-- the lines of all steps, those of the oldest first
abbrev pub lines_of_fleet : List StepOfFleet → List SeenInFleet
lines_of_fleet [] = []
lines_of_fleet (s ∷ earlier) = lines_of_fleet earlier ++ lines_of_fleet_step s

-- A fleet's trace is exactly the lines of its steps in this order, each with the unit of its step. So nothing that a unit posted
-- or noted stands in another's step.
abbrev pub IsFleetInOrder : List FleetStep → Type 0
IsFleetInOrder trace = map seen_in_fleet trace ≡ lines_of_fleet (fleet_steps_of trace)
