-- A fleet's steps are known by the order in which its units stepped and by each unit's own steps.
use Rattle.std.proofs.Common.{◌≡◌, ◌≢◌, ℕ, ◌+◌, Bool, true, false, cond, List, [], ◌∷◌, length, eq-eqb, ne_eqb, eqb-true, arith, refl, sym, ap, subst, ◌∙◌}
use Rattle.std.specs.Prelude.{◌==◌}
use Rattle.std.proofs.lemmas.Bool.{eqb-false}
use Rattle.std.proofs.lemmas.List.Sums.{sum_by-cons}
use Rattle.exchange_trace.specs.Steps.{Step}
use Rattle.fleet_trace.specs.FleetTraces.{HasNotEnded, Of_all, Of_batch, Of_unit, StepOfFleet, steps_of_unit}
use Rattle.fleet_trace.specs.Merging.{Batch_came, Stepped, StepsOfUnits, Unit_stepped, but_newest, is_of_unit, merged, newest_before, stepping_order, times_stepped, without_newest}

-- units that have the same steps
abbrev HaveSame : StepsOfUnits → StepsOfUnits → Type 0
HaveSame own others = (unit : ℕ) → own unit ≡ others unit

-- ---- what is merged goes by the steps that units have

same_but_newest : (unit : ℕ) (own others : StepsOfUnits) → HaveSame own others → HaveSame (without_newest unit own) (without_newest unit others)
same_but_newest unit own others same whose = ap (λ (steps : List Step). cond (unit == whose) (but_newest steps) steps) (same whose)

pub same_merged : (order : List Stepped) (own others : StepsOfUnits) → ((unit : ℕ) → own unit ≡ others unit) → merged order own ≡ merged order others
same_merged [] own others same = refl
same_merged (Batch_came part ∷ order) own others same = ap (λ (steps : List StepOfFleet). Of_batch part ∷ steps) (same_merged order own others same)
same_merged (Unit_stepped asked unit ∷ order) own others same =
    ap (λ (steps : List Step). newest_before asked unit steps (merged order (without_newest unit own))) (same unit)
    ∙ ap (λ (steps : List StepOfFleet). newest_before asked unit (others unit) steps)
    (same_merged order (without_newest unit own) (without_newest unit others) (same_but_newest unit own others same))

-- ---- one more step

-- without the newest step of one unit, units have what they had before it
left_without : (unit : ℕ) (s : Step) (before after : StepsOfUnits) → after unit ≡ s ∷ before unit
    → ((whose : ℕ) → whose ≢ unit → after whose ≡ before whose) → HaveSame (without_newest unit after) before
left_without unit s before after steps stays whose = by (unit == whose) refl
  where
    by : (b : Bool) → (unit == whose) ≡ b → cond b (but_newest (after whose)) (after whose) ≡ before whose
    by true same = subst (λ (n : ℕ). but_newest (after n) ≡ before n) (eqb-true unit whose same) (ap but_newest steps)
    by false apart = stays whose (λ e. eqb-false unit whose apart (sym e))

pub one_more_merged : (order : List Stepped) (asked : Bool) (unit : ℕ) (s : Step) (before after : StepsOfUnits) → after unit ≡ s ∷ before unit
    → ((whose : ℕ) → whose ≢ unit → after whose ≡ before whose) → merged (Unit_stepped asked unit ∷ order) after ≡ Of_unit asked unit s ∷ merged order before
one_more_merged order asked unit s before after steps stays =
    ap (λ (own : List Step). newest_before asked unit own (merged order (without_newest unit after))) steps
    ∙ ap (λ (earlier : List StepOfFleet). Of_unit asked unit s ∷ earlier)
    (same_merged order (without_newest unit after) before (left_without unit s before after steps stays))

-- ---- the steps, merged again

own_step_by : (asked : Bool) (unit whose : ℕ) (b : Bool) → (whose == unit) ≡ b → (s : Step) (rest : List StepOfFleet)
    → steps_of_unit unit (Of_unit asked whose s ∷ rest) ≡ cond b (s ∷ steps_of_unit unit rest) (steps_of_unit unit rest)
own_step_by asked unit whose b is s rest = ap (λ (b : Bool). cond b (s ∷ steps_of_unit unit rest) (steps_of_unit unit rest)) is

pub merged_again : (steps : List StepOfFleet) → HasNotEnded steps → merged (stepping_order steps) (λ unit. steps_of_unit unit steps) ≡ steps
merged_again [] goes = refl
merged_again (Of_all ∷ earlier) goes = absurd goes.0
merged_again (Of_batch part ∷ earlier) goes = ap (λ (steps : List StepOfFleet). Of_batch part ∷ steps) (merged_again earlier goes.1)
merged_again (Of_unit asked unit s ∷ earlier) goes =
    one_more_merged (stepping_order earlier) asked unit s (λ whose. steps_of_unit whose earlier) (λ whose. steps_of_unit whose (Of_unit asked unit s ∷ earlier))
    (own_step_by asked unit unit true (eq-eqb unit unit refl) s earlier)
    (λ whose apart. own_step_by asked whose unit false (ne_eqb unit whose (λ e. apart (sym e))) s earlier)
    ∙ ap (λ (steps : List StepOfFleet). Of_unit asked unit s ∷ steps) (merged_again earlier goes.1)

pub known_steps : (steps others : List StepOfFleet) → HasNotEnded steps → HasNotEnded others → stepping_order steps ≡ stepping_order others
    → ((unit : ℕ) → steps_of_unit unit steps ≡ steps_of_unit unit others) → steps ≡ others
known_steps steps others goes others_go order same =
    sym (merged_again steps goes)
    ∙ (ap (λ (units : List Stepped). merged units (λ unit. steps_of_unit unit steps)) order
    ∙ (same_merged (stepping_order others) (λ unit. steps_of_unit unit steps) (λ unit. steps_of_unit unit others) same ∙ merged_again others others_go))

-- ---- a unit's steps of what is merged

pub merged_goes : (order : List Stepped) (own : StepsOfUnits) → HasNotEnded (merged order own)
merged_goes [] own = tt
merged_goes (Batch_came part ∷ order) own = (tt, merged_goes order own)
merged_goes (Unit_stepped asked unit ∷ order) own = by (own unit) (merged_goes order (without_newest unit own))
  where
    by : (steps : List Step) → HasNotEnded (merged order (without_newest unit own)) → HasNotEnded (newest_before asked unit steps (merged order (without_newest unit own)))
    by [] goes = goes
    by (s ∷ earlier) goes = (tt, goes)

none_but_newest : (n : ℕ) (steps : List Step) → 1 + n ≡ length steps → n ≡ length (but_newest steps)
none_but_newest n [] e = absurd (let no : ⊥ = omega (arith, e) in no)
none_but_newest n (s ∷ earlier) e = omega (arith, e)

named_once_more : (asked : Bool) (whose unit : ℕ) (order : List Stepped) → times_stepped unit (Unit_stepped asked whose ∷ order) ≡ cond (whose == unit) 1 0 + times_stepped unit order
named_once_more asked whose unit order = sum_by-cons (λ (n : Stepped). cond (is_of_unit unit n) 1 0) (Unit_stepped asked whose) order

not_named : (part : List ℕ) (unit : ℕ) (order : List Stepped) → times_stepped unit (Batch_came part ∷ order) ≡ times_stepped unit order
not_named part unit order =
    let e : times_stepped unit (Batch_came part ∷ order) ≡ 0 + times_stepped unit order = sum_by-cons (λ (n : Stepped). cond (is_of_unit unit n) 1 0) (Batch_came part) order in
    omega (arith, e)

-- what is left of a unit's steps is as many as the rest of the order names
left_named : (asked : Bool) (whose unit : ℕ) (order : List Stepped) (own : StepsOfUnits) → times_stepped unit (Unit_stepped asked whose ∷ order) ≡ length (own unit)
    → times_stepped unit order ≡ length (without_newest whose own unit)
left_named asked whose unit order own named = by (whose == unit) (sym (named_once_more asked whose unit order) ∙ named)
  where
    by : (b : Bool) → cond b 1 0 + times_stepped unit order ≡ length (own unit) → times_stepped unit order ≡ length (cond b (but_newest (own unit)) (own unit))
    by true e = none_but_newest (times_stepped unit order) (own unit) e
    by false e = omega (arith, e)

no_steps : (own : List Step) → 0 ≡ length own → [] ≡ own
no_steps [] e = refl
no_steps (s ∷ own) e = absurd cc

pub own_of_merged : (order : List Stepped) (own : StepsOfUnits) (unit : ℕ) → times_stepped unit order ≡ length (own unit) → steps_of_unit unit (merged order own) ≡ own unit
own_of_merged [] own unit e = no_steps (own unit) e
own_of_merged (Batch_came part ∷ order) own unit e = own_of_merged order own unit (sym (not_named part unit order) ∙ e)
own_of_merged (Unit_stepped asked whose ∷ order) own unit e =
    by (whose == unit) refl (own whose) refl (sym (named_once_more asked whose unit order) ∙ e) (own_of_merged order (without_newest whose own) unit (left_named asked whose unit order own e))
  where
    by : (b : Bool) → (whose == unit) ≡ b → (steps : List Step) → own whose ≡ steps → cond b 1 0 + times_stepped unit order ≡ length (own unit)
        → steps_of_unit unit (merged order (without_newest whose own)) ≡ cond b (but_newest (own unit)) (own unit)
        → steps_of_unit unit (newest_before asked whose steps (merged order (without_newest whose own))) ≡ own unit
    by true same [] is e others =
        let none = e ∙ ap (λ (steps : List Step). length steps) (subst (λ (n : ℕ). own n ≡ []) (eqb-true whose unit same) is) in
        absurd (let no : ⊥ = omega (arith, none) in no)
    by true same (s ∷ earlier) is e others =
        let all : own unit ≡ s ∷ earlier = subst (λ (n : ℕ). own n ≡ s ∷ earlier) (eqb-true whose unit same) is in
        own_step_by asked unit whose true same s (merged order (without_newest whose own))
        ∙ (ap (λ (steps : List Step). s ∷ steps) (others ∙ ap but_newest all) ∙ sym all)
    by false apart [] is e others = others
    by false apart (s ∷ earlier) is e others = own_step_by asked unit whose false apart s (merged order (without_newest whose own)) ∙ others

pub order_of_merged : (order : List Stepped) (own : StepsOfUnits) → ((unit : ℕ) → times_stepped unit order ≡ length (own unit)) → stepping_order (merged order own) ≡ order
order_of_merged [] own named = refl
order_of_merged (Batch_came part ∷ order) own named =
    ap (λ (units : List Stepped). Batch_came part ∷ units) (order_of_merged order own (λ unit. sym (not_named part unit order) ∙ named unit))
order_of_merged (Unit_stepped asked unit ∷ order) own named =
    by (own unit) refl (order_of_merged order (without_newest unit own) (λ whose. left_named asked unit whose order own (named whose)))
  where
    by : (steps : List Step) → own unit ≡ steps → stepping_order (merged order (without_newest unit own)) ≡ order
        → stepping_order (newest_before asked unit steps (merged order (without_newest unit own))) ≡ Unit_stepped asked unit ∷ order
    by [] is others =
        let named_here = ap (λ (b : Bool). cond b 1 0 + times_stepped unit order) (sym (eq-eqb unit unit refl)) ∙ (sym (named_once_more asked unit unit order) ∙ named unit ∙ ap (λ (steps : List Step). length steps) is) in
        absurd (let no : ⊥ = omega (arith, named_here) in no)
    by (s ∷ earlier) is others = ap (λ (units : List Stepped). Unit_stepped asked unit ∷ units) others
