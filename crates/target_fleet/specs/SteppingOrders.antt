-- What the steps of a fleet were of, as the code has it (docs/EXCHANGE.md, "Fleets").
use Rattle.std.specs.Prelude.{◌≡◌, ℕ, ◌+◌, List, [], ◌∷◌, length, Bool, true, false}
use Rattle.fleet_trace.specs.Merging as spec
use Rattle.target_fleet.specs.declared.stepped.KeptStep.{KeptStep}
use Rattle.target_fleet.specs.declared.stepped.KeptStep.TheVariants as kept
use Rattle.target_fleet.specs.declared.stepped.Stepped.{Stepped}
use Rattle.target_fleet.specs.declared.stepped.Stepped.TheVariants as steps

abbrev pub stepped_view : Stepped → spec.Stepped
stepped_view (steps.Unit unit asked) = spec.Unit_stepped asked unit
stepped_view (steps.Batch part) = spec.Batch_came part

-- what each step was of, where these became the running batch, in their order
abbrev pub steps_kept : List KeptStep → (batches : List (List ℕ)) → List spec.Stepped
steps_kept [] batches = []
steps_kept (kept.Unit unit ∷ later) batches = spec.Unit_stepped false unit ∷ steps_kept later batches
steps_kept (kept.Asked unit ∷ later) batches = spec.Unit_stepped true unit ∷ steps_kept later batches
steps_kept (kept.Batch ∷ later) [] = spec.Batch_came [] ∷ steps_kept later []
steps_kept (kept.Batch ∷ later) (part ∷ batches) = spec.Batch_came part ∷ steps_kept later batches

-- in how many steps a batch became the running one
abbrev pub batches_in : List KeptStep → ℕ
batches_in [] = 0
batches_in (kept.Unit unit ∷ later) = batches_in later
batches_in (kept.Asked unit ∷ later) = batches_in later
batches_in (kept.Batch ∷ later) = batches_in later + 1

-- there is a batch for each of these steps
abbrev pub NamesBatches : List KeptStep → (batches : List (List ℕ)) → Type 0
NamesBatches steps batches = batches_in steps ≡ length batches

-- it is kept of a step of this unit
abbrev pub IsStepOf : (asked : Bool) → (unit : ℕ) → KeptStep → Type 0
IsStepOf true unit step = step ≡ kept.Asked unit
IsStepOf false unit step = step ≡ kept.Unit unit
