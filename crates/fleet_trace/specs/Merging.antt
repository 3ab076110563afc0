-- A fleet's steps, made of the order in which its units stepped and of each unit's own steps. Lists of steps have the
-- newest first, and so has the order.
use Rattle.std.specs.Prelude.{ℕ, List, [], ◌∷◌, Bool, false, ◌==◌, count_by, if◌then◌else◌}
use Rattle.exchange_trace.specs.Steps.{Step}
use Rattle.fleet_trace.specs.FleetTraces.{StepOfFleet, Of_unit, Of_batch, Of_all}

-- each unit's own steps
abbrev pub StepsOfUnits : Type 0
StepsOfUnits = (unit : ℕ) → List Step

-- what a step was of: a unit, of which an upload may have been asked in it, or a batch that became the running one
pub data Stepped : Type 0 where
  Unit_stepped : (asked : Bool) → (unit : ℕ) → Stepped
  Batch_came : (part : List ℕ) → Stepped

-- What the steps were of, one after the other. The end is of nothing.
abbrev pub stepping_order : List StepOfFleet → List Stepped
stepping_order [] = []
stepping_order (Of_unit asked unit s ∷ earlier) = Unit_stepped asked unit ∷ stepping_order earlier
stepping_order (Of_batch part ∷ earlier) = Batch_came part ∷ stepping_order earlier
stepping_order (Of_all ∷ earlier) = stepping_order earlier

abbrev pub is_of_unit : (unit : ℕ) → Stepped → Bool
is_of_unit unit (Unit_stepped asked whose) = whose == unit
is_of_unit unit (Batch_came part) = false

-- how often an order names a unit
abbrev pub times_stepped : (unit : ℕ) → (order : List Stepped) → ℕ
times_stepped unit order = count_by (is_of_unit unit) order

-- all but the newest
abbrev pub but_newest : List Step → List Step
but_newest [] = []
but_newest (s ∷ earlier) = earlier

-- what is left of each unit's steps without the newest of one unit
abbrev pub without_newest : (unit : ℕ) → StepsOfUnits → StepsOfUnits
without_newest unit own whose = if unit == whose then but_newest (own whose) else own whose

-- the newest of a unit's steps before other steps of the fleet, if there is one
abbrev pub newest_before : (asked : Bool) → (unit : ℕ) → List Step → List StepOfFleet → List StepOfFleet
newest_before asked unit [] earlier = earlier
newest_before asked unit (s ∷ own) earlier = Of_unit asked unit s ∷ earlier

-- The fleet's steps: where the order names a unit, the newest of its steps that are left.
abbrev pub merged : (order : List Stepped) → StepsOfUnits → List StepOfFleet
merged [] own = []
merged (Unit_stepped asked unit ∷ order) own = newest_before asked unit (own unit) (merged order (without_newest unit own))
merged (Batch_came part ∷ order) own = Of_batch part ∷ merged order own
