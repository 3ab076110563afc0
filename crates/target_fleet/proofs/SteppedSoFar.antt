-- The order of steps as it is kept: how many there are, and one more or one less.
use Rattle.std.proofs.Common.{◌≡◌, ℕ, ◌+◌, List, [], ◌∷◌, ◌++◌, length, Bool, true, false, refl, sym, ap, ap₂, ◌∙◌, subst, arith, length-append, append-nil, append_assoc, ◌-◌, ◌<◌, Some, OnOk, OnErr, IsOk, Result, Ok, Err}
use Rattle.std.specs.Prelude.{slice_get}
use Rattle.fleet_trace.specs.Merging as spec
use Rattle.target_fleet.specs.SteppingOrders.{IsStepOf, NamesBatches, batches_in, steps_kept}
use Rattle.target_fleet.specs.declared.stepped.KeptStep.{KeptStep}
use Rattle.target_fleet.specs.declared.stepped.KeptStep.TheVariants as kept

pub steps_many : (steps : List KeptStep) (batches : List (List ℕ)) → length (steps_kept steps batches) ≡ length steps
steps_many [] batches = refl
steps_many (kept.Unit unit ∷ later) batches = omega (arith, steps_many later batches)
steps_many (kept.Asked unit ∷ later) batches = omega (arith, steps_many later batches)
steps_many (kept.Batch ∷ later) [] = omega (arith, steps_many later [])
steps_many (kept.Batch ∷ later) (part ∷ batches) = omega (arith, steps_many later batches)

-- ---- a step of a unit more

unit_last : (unit : ℕ) (steps : List KeptStep) (batches : List (List ℕ)) → steps_kept (steps ++ kept.Unit unit ∷ []) batches ≡ steps_kept steps batches ++ spec.Unit_stepped false unit ∷ []
unit_last unit [] batches = refl
unit_last unit (kept.Unit other ∷ later) batches = ap (λ l. spec.Unit_stepped false other ∷ l) (unit_last unit later batches)
unit_last unit (kept.Asked other ∷ later) batches = ap (λ l. spec.Unit_stepped true other ∷ l) (unit_last unit later batches)
unit_last unit (kept.Batch ∷ later) [] = ap (λ l. spec.Batch_came [] ∷ l) (unit_last unit later [])
unit_last unit (kept.Batch ∷ later) (part ∷ batches) = ap (λ l. spec.Batch_came part ∷ l) (unit_last unit later batches)

asked_last : (unit : ℕ) (steps : List KeptStep) (batches : List (List ℕ)) → steps_kept (steps ++ kept.Asked unit ∷ []) batches ≡ steps_kept steps batches ++ spec.Unit_stepped true unit ∷ []
asked_last unit [] batches = refl
asked_last unit (kept.Unit other ∷ later) batches = ap (λ l. spec.Unit_stepped false other ∷ l) (asked_last unit later batches)
asked_last unit (kept.Asked other ∷ later) batches = ap (λ l. spec.Unit_stepped true other ∷ l) (asked_last unit later batches)
asked_last unit (kept.Batch ∷ later) [] = ap (λ l. spec.Batch_came [] ∷ l) (asked_last unit later [])
asked_last unit (kept.Batch ∷ later) (part ∷ batches) = ap (λ l. spec.Batch_came part ∷ l) (asked_last unit later batches)

pub one_unit_more : (asked : Bool) (unit : ℕ) (step : KeptStep) (steps : List KeptStep) (batches : List (List ℕ)) → IsStepOf asked unit step
    → steps_kept (steps ++ step ∷ []) batches ≡ steps_kept steps batches ++ spec.Unit_stepped asked unit ∷ []
one_unit_more true unit step steps batches is = subst (λ s. steps_kept (steps ++ s ∷ []) batches ≡ steps_kept steps batches ++ spec.Unit_stepped true unit ∷ []) (sym is) (asked_last unit steps batches)
one_unit_more false unit step steps batches is = subst (λ s. steps_kept (steps ++ s ∷ []) batches ≡ steps_kept steps batches ++ spec.Unit_stepped false unit ∷ []) (sym is) (unit_last unit steps batches)

-- ---- a batch more

batch_last : (part : List ℕ) (steps : List KeptStep) (batches : List (List ℕ)) → NamesBatches steps batches
    → steps_kept (steps ++ kept.Batch ∷ []) (batches ++ part ∷ []) ≡ steps_kept steps batches ++ spec.Batch_came part ∷ []
batch_last part [] [] names = refl
batch_last part [] (first ∷ batches) names = absurd (omega (arith, names))
batch_last part (kept.Unit other ∷ later) batches names = ap (λ l. spec.Unit_stepped false other ∷ l) (batch_last part later batches names)
batch_last part (kept.Asked other ∷ later) batches names = ap (λ l. spec.Unit_stepped true other ∷ l) (batch_last part later batches names)
batch_last part (kept.Batch ∷ later) [] names = absurd (omega (arith, names))
batch_last part (kept.Batch ∷ later) (first ∷ batches) names = ap (λ l. spec.Batch_came first ∷ l) (batch_last part later batches (omega (arith, names)))

pub one_batch_more : (part : List ℕ) (steps : List KeptStep) (batches : List (List ℕ)) → NamesBatches steps batches
    → steps_kept (steps ++ kept.Batch ∷ []) (batches ++ part ∷ []) ≡ steps_kept steps batches ++ spec.Batch_came part ∷ []
one_batch_more = batch_last

-- ---- how many batches

unit_counts : (step : KeptStep) (steps : List KeptStep) → batches_in (steps ++ step ∷ []) ≡ batches_in steps + batches_in (step ∷ [])
unit_counts step [] = omega arith
unit_counts step (kept.Unit unit ∷ later) = unit_counts step later
unit_counts step (kept.Asked unit ∷ later) = unit_counts step later
unit_counts step (kept.Batch ∷ later) = omega (arith, unit_counts step later)

pub counts_more : (step : KeptStep) (steps : List KeptStep) → batches_in (steps ++ step ∷ []) ≡ batches_in steps + batches_in (step ∷ [])
counts_more = unit_counts

pub unit_is_no_batch : (asked : Bool) (unit : ℕ) (step : KeptStep) → IsStepOf asked unit step → batches_in (step ∷ []) ≡ 0
unit_is_no_batch true unit step is = ap (λ s. batches_in (s ∷ [])) is
unit_is_no_batch false unit step is = ap (λ s. batches_in (s ∷ [])) is

-- ---- the newest taken off

pub newest_unit : (asked : Bool) (unit : ℕ) (steps rest : List KeptStep) (step : KeptStep) (batches : List (List ℕ)) → steps ≡ rest ++ step ∷ [] → IsStepOf asked unit step
    → NamesBatches steps batches → (steps_kept steps batches ≡ steps_kept rest batches ++ spec.Unit_stepped asked unit ∷ []) × NamesBatches rest batches
newest_unit asked unit steps rest step batches splits is names = (
  ap (λ l. steps_kept l batches) splits ∙ one_unit_more asked unit step rest batches is,
  let many = ap batches_in splits ∙ counts_more step rest in omega (arith, many, names, unit_is_no_batch asked unit step is),
)

pub newest_batch : (part : List ℕ) (steps rest : List KeptStep) (step : KeptStep) (batches before : List (List ℕ)) → steps ≡ rest ++ step ∷ [] → step ≡ kept.Batch
    → batches ≡ before ++ part ∷ [] → NamesBatches steps batches
    → (steps_kept steps batches ≡ steps_kept rest before ++ spec.Batch_came part ∷ []) × NamesBatches rest before
newest_batch part steps rest step batches before splits is named names =
    let whole : steps ≡ rest ++ kept.Batch ∷ [] = splits ∙ ap (λ s. rest ++ s ∷ []) is in
    let many = ap batches_in whole ∙ counts_more kept.Batch rest in
    let left : NamesBatches rest before = omega (arith, many, names, ap length named, length-append before (part ∷ [])) in (
      ap₂ steps_kept whole named ∙ one_batch_more part rest before left,
      left,
    )

pub some_batch : (steps rest : List KeptStep) (step : KeptStep) (batches : List (List ℕ)) → steps ≡ rest ++ step ∷ [] → step ≡ kept.Batch → NamesBatches steps batches → batches ≡ [] → ⊥
some_batch steps rest step batches splits is names none =
    let many = ap batches_in (splits ∙ ap (λ s. rest ++ s ∷ []) is) ∙ counts_more kept.Batch rest in omega (arith, many, names, ap length none)

pub none_at_all : (steps : List KeptStep) (batches : List (List ℕ)) → length steps ≡ 0 → steps_kept steps batches ≡ []
none_at_all [] batches none = refl
none_at_all (step ∷ steps) batches none = absurd (omega (arith, none))

-- ---- as a call answers it

pub unit_named : {T F : Type 0} (pushed : Result T F) (asked : Bool) (unit : ℕ) (step : KeptStep) (steps then : List KeptStep) (batches : List (List ℕ)) → IsStepOf asked unit step
    → OnOk pushed (then ≡ steps ++ step ∷ []) → OnErr pushed (then ≡ steps) → NamesBatches steps batches → NamesBatches then batches
unit_named (Ok x) asked unit step steps then batches is ok err names =
    let many = ap batches_in ok ∙ counts_more step steps in omega (arith, many, names, unit_is_no_batch asked unit step is)
unit_named (Err x) asked unit step steps then batches is ok err names = ap batches_in err ∙ names

pub unit_ordered : {T F : Type 0} (pushed : Result T F) (asked : Bool) (unit : ℕ) (step : KeptStep) (steps then : List KeptStep) (batches : List (List ℕ)) (order : List spec.Stepped)
    → steps_kept steps batches ≡ order → IsStepOf asked unit step → OnOk pushed (then ≡ steps ++ step ∷ []) → OnOk pushed (steps_kept then batches ≡ order ++ spec.Unit_stepped asked unit ∷ [])
unit_ordered (Ok x) asked unit step steps then batches order seen is ok =
    ap (λ l. steps_kept l batches) ok ∙ one_unit_more asked unit step steps batches is ∙ ap (λ l. l ++ spec.Unit_stepped asked unit ∷ []) seen
unit_ordered (Err x) asked unit step steps then batches order seen is ok = tt

pub batch_named : {T F : Type 0} (pushed : Result T F) (part : List ℕ) (steps then : List KeptStep) (batches batches_then : List (List ℕ)) → IsOk pushed → batches_then ≡ batches ++ part ∷ []
    → OnOk pushed (then ≡ steps ++ kept.Batch ∷ []) → NamesBatches steps batches → NamesBatches then batches_then
batch_named (Ok x) part steps then batches batches_then done named ok names =
    let many = ap batches_in ok ∙ counts_more kept.Batch steps in omega (arith, many, names, ap length named, length-append batches (part ∷ []))
batch_named (Err x) part steps then batches batches_then done named ok names = absurd cc

pub batch_ordered : {T F : Type 0} (pushed : Result T F) (part : List ℕ) (steps then : List KeptStep) (batches batches_then : List (List ℕ)) (order : List spec.Stepped)
    → steps_kept steps batches ≡ order → batches_then ≡ batches ++ part ∷ [] → NamesBatches steps batches → OnOk pushed (then ≡ steps ++ kept.Batch ∷ [])
    → OnOk pushed (steps_kept then batches_then ≡ order ++ spec.Batch_came part ∷ [])
batch_ordered (Ok x) part steps then batches batches_then order seen named names ok =
    ap₂ steps_kept ok named ∙ one_batch_more part steps batches names ∙ ap (λ l. l ++ spec.Batch_came part ∷ []) seen
batch_ordered (Err x) part steps then batches batches_then order seen named names ok = tt

-- ---- what was taken off

-- The steps after those that are left were taken off, so many.
pub record AreTakenOff (order left : List spec.Stepped) (taken : ℕ) : Type 0 where
  pub newer : List spec.Stepped
  pub split : order ≡ left ++ newer
  pub count : length newer ≡ taken

pub none_taken_off : (order : List spec.Stepped) → AreTakenOff order order 0
none_taken_off order = record { newer = []; split = sym (append-nil order); count = refl }

split_before : (order left then : List spec.Stepped) (taken : ℕ) (step : spec.Stepped) (off : AreTakenOff order left taken) → left ≡ then ++ step ∷ [] → order ≡ then ++ step ∷ off.newer
split_before order left then taken step off newest = off.split ∙ (ap (λ l. l ++ off.newer) newest ∙ append_assoc then (step ∷ []) off.newer)

pub one_taken_off : (order left then : List spec.Stepped) (taken : ℕ) (step : spec.Stepped) → AreTakenOff order left taken → left ≡ then ++ step ∷ [] → AreTakenOff order then (taken + 1)
one_taken_off order left then taken step off newest = record {
  newer = step ∷ off.newer;
  split = split_before order left then taken step off newest;
  count = let newer : length (step ∷ off.newer) ≡ 1 + length off.newer = omega arith in omega (arith, newer, off.count);
}

at_length : (before : List spec.Stepped) (step : spec.Stepped) (after : List spec.Stepped) → slice_get (before ++ step ∷ after) (length before) ≡ Some step
at_length [] step after = refl
at_length (first ∷ before) step after = at_length before step after

-- the one that is taken off next is the step of its index
pub taken_is_read : (order left then : List spec.Stepped) (taken : ℕ) (step : spec.Stepped) → AreTakenOff order left taken → left ≡ then ++ step ∷ []
    → slice_get order (length order - 1 - taken) ≡ Some step
taken_is_read order left then taken step off newest =
    let whole : order ≡ then ++ step ∷ off.newer = split_before order left then taken step off newest in
    let many : length order ≡ length then + length (step ∷ off.newer) = ap length whole ∙ length-append then (step ∷ off.newer) in
    let index : length order - 1 - taken ≡ length then = omega (arith, many, off.count) in
    ap₂ slice_get whole index ∙ at_length then step off.newer

pub fewer_taken : (order left then : List spec.Stepped) (taken : ℕ) (step : spec.Stepped) → AreTakenOff order left taken → left ≡ then ++ step ∷ [] → taken < length order
fewer_taken order left then taken step off newest =
    let whole : order ≡ then ++ step ∷ off.newer = split_before order left then taken step off newest in
    let many : length order ≡ length then + length (step ∷ off.newer) = ap length whole ∙ length-append then (step ∷ off.newer) in omega (arith, many, off.count)

pub all_taken_off : (order left : List spec.Stepped) (taken : ℕ) → AreTakenOff order left taken → left ≡ [] → taken ≡ length order
all_taken_off order left taken off none = sym off.count ∙ sym (ap length (off.split ∙ ap (λ l. l ++ off.newer) none))
