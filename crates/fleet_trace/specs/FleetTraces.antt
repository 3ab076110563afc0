-- A fleet's trace as its steps, and what of them is one unit's (docs/EXCHANGE.md, "Fleets" and "Batches"). Units are counted
-- from 1.
use Rattle.std.specs.Prelude.{ℕ, List, [], ◌∷◌, ◌++◌, map, fold, Bool, true, false, ◌==◌, if◌then◌else◌, ⊤}
use Rattle.std.specs.List.{AllByRecursion}
use Rattle.exchange_trace.specs.declared.trace.TraceStep.{TraceStep}
use Rattle.exchange_trace.specs.declared.trace.TraceStep.TheVariants as lines
use Rattle.exchange_trace.specs.Happenings.{HappeningView, Ended, happening_view}
use Rattle.exchange_trace.specs.Steps.{Step, with_line}
use Rattle.fleet_trace.specs.declared.trace.FleetHappening.{FleetHappening}
use Rattle.fleet_trace.specs.declared.trace.FleetHappening.TheVariants as happenings
use Rattle.fleet_trace.specs.declared.trace.FleetStep.{FleetStep}
use Rattle.fleet_trace.specs.declared.trace.FleetStep.TheVariants as fleet_lines

-- ---- happenings

-- what happens in a fleet
pub data FleetHappeningView : Type 0 where
  At_unit : (unit : ℕ) → HappeningView → FleetHappeningView  -- at this unit
  Batch_begun : (part : List ℕ) → FleetHappeningView  -- the batch with this part number becomes the running one
  Next_asked : FleetHappeningView  -- the upload to the next target of the running batch is asked
  All_ended : FleetHappeningView  -- nothing happens any more at any unit

abbrev pub fleet_happening_view : FleetHappening → FleetHappeningView
fleet_happening_view (happenings.At unit h) = At_unit unit (happening_view h)
fleet_happening_view (happenings.Batch part) = Batch_begun part
fleet_happening_view happenings.AskNext = Next_asked
fleet_happening_view happenings.End = All_ended

-- ---- steps

-- a step of one unit, or one of none
pub data StepOfFleet : Type 0 where
  Of_unit : (asked : Bool) → (unit : ℕ) → Step → StepOfFleet  -- the upload that starts in it may have been asked
  Of_batch : (part : List ℕ) → StepOfFleet  -- the batch with this part number becomes the running one
  Of_all : StepOfFleet  -- the end of the whole fleet

-- the steps of the lines so far, the newest first, and whether the next one starts an upload that was asked
pub record StepsSoFar : Type 0 where
  pub steps : List StepOfFleet
  pub asked : Bool

abbrev pub so_far : (asked : Bool) → List StepOfFleet → StepsSoFar
so_far asked steps = record { steps = steps; asked = asked }

-- what is posted or noted at a unit belongs to the newest step, if that is one of this unit, and else to none
abbrev pub in_newest_step : List StepOfFleet → (unit : ℕ) → TraceStep → List StepOfFleet
in_newest_step [] unit line = []
in_newest_step (Of_unit asked whose s ∷ earlier) unit line = (if whose == unit then map (Of_unit asked whose) (with_line (s ∷ []) line) else Of_unit asked whose s ∷ []) ++ earlier
in_newest_step (Of_batch part ∷ earlier) unit line = Of_batch part ∷ earlier
in_newest_step (Of_all ∷ earlier) unit line = Of_all ∷ earlier

-- a happening begins a step of its unit
abbrev pub with_line_of_unit : StepsSoFar → (unit : ℕ) → TraceStep → StepsSoFar
with_line_of_unit before unit (lines.Given h) =
    so_far false (Of_unit before.asked unit (record { given = happening_view h; posts = []; notes = [] }) ∷ before.steps)
with_line_of_unit before unit line = so_far before.asked (in_newest_step before.steps unit line)

-- the steps, with one line of the fleet's trace more
abbrev pub with_fleet_line : StepsSoFar → FleetStep → StepsSoFar
with_fleet_line before (fleet_lines.At unit line) = with_line_of_unit before unit line
with_fleet_line before (fleet_lines.Batch part) = so_far false (Of_batch part ∷ before.steps)
with_fleet_line before fleet_lines.AskNext = so_far true before.steps
with_fleet_line before fleet_lines.End = so_far false (Of_all ∷ before.steps)

-- The steps of a fleet's trace, the newest first.
unfoldable pub fleet_steps_of : List FleetStep → List StepOfFleet
fleet_steps_of trace = (fold with_fleet_line (so_far false []) trace).steps

-- ---- one unit

-- the end of the fleet, as each unit sees it
abbrev pub ended_step : Step
ended_step = record { given = Ended; posts = []; notes = [] }

-- a step before others of one unit, where it is one of that unit
abbrev pub before_own : (unit : ℕ) → StepOfFleet → List Step → List Step
before_own unit (Of_unit asked whose s) earlier = if whose == unit then s ∷ earlier else earlier
before_own unit (Of_batch part) earlier = earlier
before_own unit Of_all earlier = ended_step ∷ earlier

-- The steps that name this unit, in their order, and the end.
abbrev pub steps_of_unit : (unit : ℕ) → List StepOfFleet → List Step
steps_of_unit unit [] = []
steps_of_unit unit (s ∷ earlier) = before_own unit s (steps_of_unit unit earlier)

-- the step isn't the end
abbrev pub IsBeforeEnd : StepOfFleet → Type 0
IsBeforeEnd (Of_unit asked unit s) = ⊤
IsBeforeEnd (Of_batch part) = ⊤
IsBeforeEnd Of_all = ⊥

-- the fleet hasn't ended
abbrev pub HasNotEnded : List StepOfFleet → Type 0
HasNotEnded steps = AllByRecursion IsBeforeEnd steps
