-- A fleet's steps, kept as the traces of its units.
use Rattle.std.proofs.Common.{◌≡◌, ℕ, suc, ◌+◌, ◌-◌, ◌≤◌, Bool, true, false, cond, List, [], ◌∷◌, length, Option, Some, None, append-nil, eqb-true, ne_eqb, arith, refl, sym, ap, ◌∙◌}
use Rattle.std.specs.Prelude.{reverse, slice_get, ◌==◌}
use Rattle.std.proofs.lemmas.Bool.{eqb-false}
use Rattle.std.proofs.lemmas.List.{length-reverse, reverse-reverse}
use Rattle.std.proofs.lemmas.List.Sums.{sum_by-cons}
use Rattle.std.proofs.lemmas.Option.{slice_get_within}
use Rattle.exchange_trace.specs.Posts.{posted_in}
use Rattle.exchange_trace.specs.Steps.{Step, steps_of}
use Rattle.exchange_trace.specs.declared.trace.TraceStep.{TraceStep}
use Rattle.fleet_trace.specs.FleetTraces.{HasNotEnded, Of_all, Of_batch, Of_unit, StepOfFleet, fleet_steps_of, steps_of_unit}
use Rattle.fleet_trace.specs.Merging.{Batch_came, Stepped, Unit_stepped, is_of_unit, merged, stepping_order, times_stepped}
use Rattle.fleet_trace.specs.declared.trace.FleetStep.{FleetStep}
use Rattle.fleet_trace.proofs.Merging.{merged_again, merged_goes, order_of_merged, own_of_merged, same_merged}
use Rattle.load_base.specs.Listed.{Listed}
use Rattle.target_fleet.specs.FleetTexts.{posted_at}
use Rattle.target_fleet.specs.Merges.{AreUnits, HaveOwnSteps, KeepsSteps, MergesAll, own_steps, steps_to_end, steps_told}
use Rattle.target_fleet.specs.Orders.{IsFleetInOrder}
use Rattle.target_fleet.proofs.FirstBoots.{there_is}
use Rattle.target_fleet.proofs.MergedSteps.{read_from_back}

-- ---- the order

-- it names a unit as often as that has steps
named_as_often : (unit : ℕ) (steps : List StepOfFleet) → HasNotEnded steps → times_stepped unit (stepping_order steps) ≡ length (steps_of_unit unit steps)
named_as_often unit [] goes = refl
named_as_often unit (Of_all ∷ earlier) goes = absurd goes.0
named_as_often unit (Of_batch part ∷ earlier) goes =
    let once : times_stepped unit (Batch_came part ∷ stepping_order earlier) ≡ 0 + times_stepped unit (stepping_order earlier) = sum_by-cons (λ (n : Stepped). cond (is_of_unit unit n) 1 0) (Batch_came part) (stepping_order earlier) in
    let before = named_as_often unit earlier goes.1 in
    omega (arith, once, before)
named_as_often unit (Of_unit asked whose s ∷ earlier) goes =
    sum_by-cons (λ (n : Stepped). cond (is_of_unit unit n) 1 0) (Unit_stepped asked whose) (stepping_order earlier) ∙ by (named_as_often unit earlier goes.1) (whose == unit)
  where
    by : times_stepped unit (stepping_order earlier) ≡ length (steps_of_unit unit earlier) → (b : Bool)
        → cond b 1 0 + times_stepped unit (stepping_order earlier) ≡ length (cond b (s ∷ steps_of_unit unit earlier) (steps_of_unit unit earlier))
    by before true = omega (arith, before)
    by before false = omega (arith, before)

-- where a unit has a step, the order names it
abbrev NamedAt : (unit : ℕ) → List Stepped → Type 0
NamedAt unit order = (k : ℕ) × (asked : Bool) × (slice_get order k ≡ Some (Unit_stepped asked unit))

named_there : (unit : ℕ) (steps : List StepOfFleet) → HasNotEnded steps → (s : Step) (rest : List Step) → steps_of_unit unit steps ≡ s ∷ rest → NamedAt unit (stepping_order steps)
named_there unit [] goes s rest e = absurd cc
named_there unit (Of_all ∷ earlier) goes s rest e = absurd goes.0
named_there unit (Of_batch part ∷ earlier) goes s rest e = let found = named_there unit earlier goes.1 s rest e in (suc found.0, found.1, found.2)
named_there unit (Of_unit asked whose z ∷ earlier) goes s rest e = by (named_there unit earlier goes.1 s rest) (whose == unit) refl e
  where
    by : (steps_of_unit unit earlier ≡ s ∷ rest → NamedAt unit (stepping_order earlier)) → (b : Bool) → (whose == unit) ≡ b
        → cond b (z ∷ steps_of_unit unit earlier) (steps_of_unit unit earlier) ≡ s ∷ rest → NamedAt unit (Unit_stepped asked whose ∷ stepping_order earlier)
    by before true same e = (0, asked, ap (λ (n : ℕ). Some (Unit_stepped asked n)) (eqb-true whose unit same))
    by before false apart e = let found = before e in (suc found.0, found.1, found.2)

-- ---- own steps

own_by : (traces : List (Listed TraceStep)) (unit : ℕ) (b : Bool) → (unit == 0) ≡ b → own_steps traces unit ≡ steps_told (cond b None (slice_get traces (unit - 1)))
own_by traces unit b is = ap (λ (b : Bool). steps_told (cond b None (slice_get traces (unit - 1)))) is

own_of_trace : (traces : List (Listed TraceStep)) (i : ℕ) (trace : Listed TraceStep) → slice_get traces i ≡ Some trace → own_steps traces (i + 1) ≡ steps_of trace.items
own_of_trace traces i trace there =
    let index : i + 1 - 1 ≡ i = omega arith in
    own_by traces (i + 1) false (ne_eqb (i + 1) 0 (λ none. omega (arith, none))) ∙ ap steps_told (ap (slice_get traces) index ∙ there)

-- ---- a fleet that ran

module _ (steps : List StepOfFleet) (goes : HasNotEnded steps) (order : List Stepped) (order_is : order ≡ reverse (stepping_order steps)) (traces : List (Listed TraceStep)) (units : AreUnits (length traces) order) (own : HaveOwnSteps traces steps) where
  turned : reverse order ≡ stepping_order steps
  turned = ap reverse order_is ∙ reverse-reverse (stepping_order steps)

  named_in_order : (unit : ℕ) → NamedAt unit (stepping_order steps) → (1 ≤ unit) × (unit ≤ length traces)
  named_in_order unit named =
      let within = slice_get_within (stepping_order steps) named.0 (Unit_stepped named.1 unit) named.2 in
      let many : length order ≡ length (stepping_order steps) = ap length order_is ∙ length-reverse (stepping_order steps) in
      let there = there_is order (length order - 1 - named.0) (omega (arith, within, many)) in
      let read = read_from_back order (stepping_order steps) named.0 there.0 order_is (omega (arith, within, many)) there.1 in
      let is : there.0 ≡ Unit_stepped named.1 unit = let both = sym read ∙ named.2 in cc in
      units (length order - 1 - named.0) unit named.1 (there.1 ∙ ap Some is)

  none_own : (unit : ℕ) → ((1 ≤ unit) × (unit ≤ length traces) → ⊥) → steps_of_unit unit steps ≡ []
  none_own unit out = by (steps_of_unit unit steps) refl
    where
      by : (all : List Step) → steps_of_unit unit steps ≡ all → all ≡ []
      by [] is = refl
      by (s ∷ rest) is = let found = named_there unit steps goes s rest is in absurd (out (named_in_order unit found))

  own_is : (unit : ℕ) → own_steps traces unit ≡ steps_of_unit unit steps
  own_is unit = by (unit == 0) refl
    where
      of : (o : Option (Listed TraceStep)) → slice_get traces (unit - 1) ≡ o → 1 ≤ unit → steps_told o ≡ steps_of_unit unit steps
      of (Some trace) there above = let number : unit - 1 + 1 ≡ unit = omega (arith, above) in (own (unit - 1) trace there).0 ∙ ap (λ (n : ℕ). steps_of_unit n steps) number
      of None none above =
          sym (none_own unit (λ within.
          let some = there_is traces (unit - 1) (omega (arith, above, within.1)) in
          let both = sym none ∙ some.1 in cc))

      by : (b : Bool) → (unit == 0) ≡ b → own_steps traces unit ≡ steps_of_unit unit steps
      by true zero = own_by traces unit true zero ∙ sym (none_own unit (λ within. let is = eqb-true unit 0 zero in omega (arith, is, within.0)))
      by false apart = own_by traces unit false apart ∙ of (slice_get traces (unit - 1)) refl (let no = eqb-false unit 0 apart in omega (arith, no))

  pub steps_kept : KeepsSteps order traces
  steps_kept = record {
    units = units;
    named = λ unit. ap (times_stepped unit) turned ∙ (named_as_often unit steps goes ∙ ap length (sym (own_is unit)));
    ordered = λ i trace there. (own i trace there).1;
  }

  pub ran_to_end : steps_to_end order traces ≡ Of_all ∷ steps
  ran_to_end =
      ap (λ (earlier : List StepOfFleet). Of_all ∷ earlier)
      (ap (λ (named : List Stepped). merged named (own_steps traces)) turned
      ∙ (same_merged (stepping_order steps) (own_steps traces) (λ unit. steps_of_unit unit steps) own_is ∙ merged_again steps goes))

-- ---- what is kept of it

module _ (order : List Stepped) (traces : List (Listed TraceStep)) (kept : KeepsSteps order traces) where
  abbrev steps : List StepOfFleet
  steps = merged (reverse order) (own_steps traces)

  posts_kept : (unit : ℕ) → posted_at unit (steps_to_end order traces) ≡ length (posted_in (own_steps traces unit))
  posts_kept unit =
      ap length (append-nil (posted_in (steps_of_unit unit steps))) ∙ ap (λ (own : List Step). length (posted_in own)) (own_of_merged (reverse order) (own_steps traces) unit (kept.named unit))

  pub posts_of_trace : (unit : ℕ) (trace : Listed TraceStep) → 1 ≤ unit → slice_get traces (unit - 1) ≡ Some trace
      → length (posted_in (steps_of trace.items)) ≡ posted_at unit (steps_to_end order traces)
  posts_of_trace unit trace above there =
      let number : unit - 1 + 1 ≡ unit = omega (arith, above) in
      ap (λ (own : List Step). length (posted_in own)) (sym (own_of_trace traces (unit - 1) trace there) ∙ ap (own_steps traces) number) ∙ sym (posts_kept unit)

  pub no_posts : (unit : ℕ) → ((1 ≤ unit) × (unit ≤ length traces) → ⊥) → 0 ≡ posted_at unit (steps_to_end order traces)
  no_posts unit out = sym (posts_kept unit ∙ ap (λ (own : List Step). length (posted_in own)) (by (unit == 0) refl))
    where
      of : (o : Option (Listed TraceStep)) → slice_get traces (unit - 1) ≡ o → 1 ≤ unit → steps_told o ≡ []
      of None none above = refl
      of (Some trace) there above = let within = slice_get_within traces (unit - 1) trace there in absurd (out (above, omega (arith, within, above)))

      by : (b : Bool) → (unit == 0) ≡ b → own_steps traces unit ≡ []
      by true zero = own_by traces unit true zero
      by false apart = own_by traces unit false apart ∙ of (slice_get traces (unit - 1)) refl (let no = eqb-false unit 0 apart in omega (arith, no))

  pub lines_kept : (lines : List FleetStep) → MergesAll order traces lines → (fleet_steps_of lines ≡ steps_to_end order traces) × IsFleetInOrder lines
  lines_kept lines merges =
      merges steps (merged_goes (reverse order) (own_steps traces)) (sym (ap reverse (order_of_merged (reverse order) (own_steps traces) kept.named) ∙ reverse-reverse order))
      (λ i trace there. (sym (own_of_trace traces i trace there) ∙ sym (own_of_merged (reverse order) (own_steps traces) (i + 1) (kept.named (i + 1))), kept.ordered i trace there))
