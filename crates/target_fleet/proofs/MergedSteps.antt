-- The steps of a fleet, taken off the traces of its units one by one, the newest first.
use Rattle.std.proofs.Common.{◌≡◌, ◌≢◌, ◌⊎◌, inl, inr, ℕ, suc, ◌+◌, ◌-◌, ◌<◌, ◌≤◌, Bool, true, false, List, [], ◌∷◌, ◌++◌, length, Some, append_assoc, append-nil, arith, refl, sym, ap, subst, ◌∙◌, zero}
use Rattle.std.specs.Prelude.{fold, map, reverse, slice_get, slice_index_or}
use Rattle.std.proofs.lemmas.List.{get_or-reverse, length-append, length-reverse, reverse-append}
use Rattle.std.proofs.lemmas.Option.{slice_get-get_or}
use Rattle.exchange_trace.specs.Steps.{Step, steps_of}
use Rattle.exchange_trace.specs.declared.trace.TraceStep.{TraceStep}
use Rattle.fleet_trace.specs.FleetTraces.{HasNotEnded, Of_all, Of_batch, Of_unit, StepOfFleet, fleet_steps_of, so_far, steps_of_unit, with_fleet_line}
use Rattle.fleet_trace.specs.Merging.{Batch_came, Stepped, Unit_stepped, stepping_order}
use Rattle.fleet_trace.specs.declared.trace.FleetStep.{FleetStep}
use Rattle.fleet_trace.specs.declared.trace.FleetStep.TheVariants as fleet_lines
use Rattle.load_base.specs.Listed.{Listed}
use Rattle.replay_turns.specs.Orders.{IsInOrder, lines_of_step}
use Rattle.target_fleet.specs.Merges.{AreUnits, HaveOwnSteps, IsUnitOf, TakesAll, TakesOff, TakesUnit, asked_lines, fleet_lines_on, fleet_steps_after, fleet_steps_on}
use Rattle.target_fleet.specs.Orders.{IsFleetInOrder, SeenInFleet, Seen_at, Seen_batch, asked_line, lines_of_fleet, seen_in_fleet}
use Rattle.target_fleet.proofs.Indexed.{changed_read, set_length}
use Rattle.target_fleet.proofs.StepsInFleet.{step_of_other, step_of_own}

-- ---- which step is the next

-- so many steps were taken, and these are left of the units' traces
pub record StepsLeft (steps : List StepOfFleet) (taken : ℕ) (traces : List (Listed TraceStep)) (lines lines_then : List FleetStep) : Type 0 where
  pub newer : List StepOfFleet
  pub older : List StepOfFleet
  pub split : steps ≡ newer ++ older
  pub count : taken ≡ length newer
  pub own : HaveOwnSteps traces older
  pub lines_are : fleet_steps_on older lines_then ≡ fleet_steps_on steps lines
  pub ordered : fleet_lines_on older lines_then ≡ fleet_lines_on steps lines

-- whatever the fleet's steps are, which stepped in this order and have these traces at first
abbrev pub TakenOf : (order : List Stepped) → (traces traces_then : List (Listed TraceStep)) → (taken : ℕ) → (lines lines_then : List FleetStep) → Type 0
TakenOf order traces traces_then taken lines lines_then =
    (steps : List StepOfFleet) → HasNotEnded steps → order ≡ reverse (stepping_order steps) → HaveOwnSteps traces steps → StepsLeft steps taken traces_then lines lines_then

pub none_taken : (order : List Stepped) (traces : List (Listed TraceStep)) (lines : List FleetStep) → TakenOf order traces traces 0 lines lines
none_taken order traces lines steps goes is own = record { newer = []; older = steps; split = refl; count = refl; own = own; lines_are = refl; ordered = refl }

-- ---- the order

as_many : (steps : List StepOfFleet) → HasNotEnded steps → length (stepping_order steps) ≡ length steps
as_many [] goes = refl
as_many (Of_all ∷ earlier) goes = absurd goes.0
as_many (Of_batch part ∷ earlier) goes = ap suc (as_many earlier goes.1)
as_many (Of_unit asked unit s ∷ earlier) goes = ap suc (as_many earlier goes.1)

-- it is a step of this
abbrev IsStepOf : Stepped → StepOfFleet → Type 0
IsStepOf (Unit_stepped asked unit) step = (s : Step) × (step ≡ Of_unit asked unit s)
IsStepOf (Batch_came part) step = step ≡ Of_batch part

-- what is named at the place of the newest of the older steps is what that step was of
named_next : (newer older : List StepOfFleet) (stepped : Stepped) → HasNotEnded (newer ++ older) → slice_get (stepping_order (newer ++ older)) (length newer) ≡ Some stepped
    → (step : StepOfFleet) × (earlier : List StepOfFleet) × (older ≡ step ∷ earlier) × IsStepOf stepped step
named_next [] [] stepped goes e = absurd cc
named_next [] (Of_all ∷ earlier) stepped goes e = absurd goes.0
named_next [] (Of_batch part ∷ earlier) stepped goes e =
    (Of_batch part, earlier, refl, (let same : Batch_came part ≡ stepped = cc in subst (λ (x : Stepped). IsStepOf x (Of_batch part)) same refl))
named_next [] (Of_unit asked whose s ∷ earlier) stepped goes e =
    (Of_unit asked whose s, earlier, refl, (let same : Unit_stepped asked whose ≡ stepped = cc in subst (λ (x : Stepped). IsStepOf x (Of_unit asked whose s)) same (s, refl)))
named_next (Of_all ∷ newer) older stepped goes e = absurd goes.0
named_next (Of_batch part ∷ newer) older stepped goes e = named_next newer older stepped goes.1 e
named_next (Of_unit asked whose s ∷ newer) older stepped goes e = named_next newer older stepped goes.1 e

-- the order is read from its back
pub read_from_back : (order named : List Stepped) (taken : ℕ) (stepped : Stepped) → order ≡ reverse named → taken < length order → slice_get order (length order - 1 - taken) ≡ Some stepped → slice_get named taken ≡ Some stepped
read_from_back order named taken stepped is within read =
    let many : length order ≡ length named = ap length is ∙ length-reverse named in
    let there : length order - 1 - taken < length named = omega (arith, many, within) in
    let place : length named - 1 - (length order - 1 - taken) ≡ taken = omega (arith, many, within) in
    let here : slice_get order (length order - 1 - taken) ≡ Some (slice_index_or order (length order - 1 - taken) stepped) = slice_get-get_or order (length order - 1 - taken) stepped (omega (arith, within)) in
    let same : slice_index_or order (length order - 1 - taken) stepped ≡ stepped = cc in
    slice_get-get_or named taken stepped (omega (arith, many, within))
    ∙ ap Some (sym (ap (λ (all : List Stepped). slice_index_or all (length order - 1 - taken) stepped) is ∙ (get_or-reverse named (length order - 1 - taken) stepped there ∙ ap (λ (k : ℕ). slice_index_or named k stepped) place)) ∙ same)

-- ---- lines before others

-- the oldest of the lines asks, or none does
asked_on : (asked : Bool) (earlier : List StepOfFleet) (lines : List FleetStep) → fleet_steps_on earlier (lines ++ asked_lines asked) ≡ fleet_steps_after asked earlier lines
asked_on false earlier lines = ap (fleet_steps_on earlier) (append-nil lines)
asked_on true earlier lines = ap (λ (all : List FleetStep). (fold with_fleet_line (so_far false earlier) all).steps) (reverse-append lines (fleet_lines.AskNext ∷ []))

asked_seen : (asked : Bool) (before : List SeenInFleet) (lines : List FleetStep)
    → before ++ map seen_in_fleet (reverse (lines ++ asked_lines asked)) ≡ (before ++ asked_line asked) ++ map seen_in_fleet (reverse lines)
asked_seen false before lines =
    ap (λ (all : List FleetStep). before ++ map seen_in_fleet (reverse all)) (append-nil lines)
    ∙ ap (λ (all : List SeenInFleet). all ++ map seen_in_fleet (reverse lines)) (sym (append-nil before))
asked_seen true before lines =
    ap (λ (all : List FleetStep). before ++ map seen_in_fleet all) (reverse-append lines (fleet_lines.AskNext ∷ []))
    ∙ sym (append_assoc before (asked_line true) (map seen_in_fleet (reverse lines)))

batch_on : (part : List ℕ) (earlier : List StepOfFleet) (lines : List FleetStep) → fleet_steps_on earlier (lines ++ fleet_lines.Batch part ∷ []) ≡ fleet_steps_on (Of_batch part ∷ earlier) lines
batch_on part earlier lines = ap (λ (all : List FleetStep). (fold with_fleet_line (so_far false earlier) all).steps) (reverse-append lines (fleet_lines.Batch part ∷ []))

batch_seen : (part : List ℕ) (before : List SeenInFleet) (lines : List FleetStep)
    → before ++ map seen_in_fleet (reverse (lines ++ fleet_lines.Batch part ∷ [])) ≡ (before ++ Seen_batch part ∷ []) ++ map seen_in_fleet (reverse lines)
batch_seen part before lines =
    ap (λ (all : List FleetStep). before ++ map seen_in_fleet all) (reverse-append lines (fleet_lines.Batch part ∷ []))
    ∙ sym (append_assoc before (Seen_batch part ∷ []) (map seen_in_fleet (reverse lines)))

-- ---- one step more

module _ (traces : List (Listed TraceStep)) (taken : ℕ) (lines lines_then : List FleetStep) (steps : List StepOfFleet) (left : StepsLeft steps taken traces lines lines_then) (traces_then : List (Listed TraceStep)) (lines_now : List FleetStep) (earlier : List StepOfFleet) where
  counted : (step : StepOfFleet) → taken + 1 ≡ length (left.newer ++ step ∷ [])
  counted step = let more = length-append left.newer (step ∷ []) in let count = left.count in omega (arith, more, count)

  split_on : (step : StepOfFleet) → left.older ≡ step ∷ earlier → steps ≡ (left.newer ++ step ∷ []) ++ earlier
  split_on step is = left.split ∙ (ap (λ (older : List StepOfFleet). left.newer ++ older) is ∙ sym (append_assoc left.newer (step ∷ []) earlier))

  -- that of a unit is taken
  module _ (asked : Bool) (unit : ℕ) (above : 1 ≤ unit) (s : Step) (is : left.older ≡ Of_unit asked unit s ∷ earlier) (takes : TakesUnit asked unit traces traces_then lines_then lines_now) where
    its_number : unit - 1 + 1 ≡ unit
    its_number = omega (arith, above)

    here : steps_of takes.trace.items ≡ s ∷ steps_of_unit unit earlier
    here = (left.own (unit - 1) takes.trace takes.changes.there).0 ∙ (ap (λ (n : ℕ). steps_of_unit n left.older) its_number ∙ (ap (steps_of_unit unit) is ∙ step_of_own asked unit s earlier))

    in_order : IsInOrder takes.trace.items
    in_order = (left.own (unit - 1) takes.trace takes.changes.there).1

    own_then : HaveOwnSteps traces_then earlier
    own_then i some e = by (changed_read (unit - 1) takes.trace takes.trace_then traces traces_then takes.changes i some e)
      where
        by : ((i ≡ unit - 1) × (some ≡ takes.trace_then)) ⊎ ((i ≢ unit - 1) × (slice_get traces i ≡ Some some)) → (steps_of some.items ≡ steps_of_unit (i + 1) earlier) × IsInOrder some.items
        by (inl (index, same)) =
            let number : i + 1 ≡ unit = omega (arith, index, above) in (
              ap (λ (t : Listed TraceStep). steps_of t.items) same ∙ (takes.takes.left s (steps_of_unit unit earlier) here ∙ ap (λ (n : ℕ). steps_of_unit n earlier) (sym number)),
              subst (λ (t : Listed TraceStep). IsInOrder t.items) (sym same) (takes.takes.ordered s (steps_of_unit unit earlier) [] here in_order).0,
            )
        by (inr (other, there)) =
            ((left.own i some there).0 ∙ (ap (steps_of_unit (i + 1)) is ∙ step_of_other asked (i + 1) unit s earlier (λ same. other (omega (arith, same)))), (left.own i some there).1)

    seen_then : fleet_lines_on earlier lines_now ≡ fleet_lines_on (Of_unit asked unit s ∷ earlier) lines_then
    seen_then =
        ap (fleet_lines_on earlier) takes.lines_are
        ∙ (asked_seen asked (lines_of_fleet earlier) takes.mid
        ∙ ((takes.takes.ordered s (steps_of_unit unit earlier) (lines_of_fleet earlier ++ asked_line asked) here in_order).1
        ∙ ap (λ (all : List SeenInFleet). all ++ map seen_in_fleet (reverse lines_then)) (append_assoc (lines_of_fleet earlier) (asked_line asked) (map (Seen_at unit) (lines_of_step s)))))

    pub unit_taken : StepsLeft steps (taken + 1) traces_then lines lines_now
    unit_taken = record {
      newer = left.newer ++ Of_unit asked unit s ∷ [];
      older = earlier;
      split = split_on (Of_unit asked unit s) is;
      count = counted (Of_unit asked unit s);
      own = own_then;
      lines_are = ap (fleet_steps_on earlier) takes.lines_are
          ∙ (asked_on asked earlier takes.mid
          ∙ (takes.takes.taken s (steps_of_unit unit earlier) asked earlier here
          ∙ (ap (λ (older : List StepOfFleet). fleet_steps_on older lines_then) (sym is) ∙ left.lines_are)));
      ordered = seen_then ∙ (ap (λ (older : List StepOfFleet). fleet_lines_on older lines_then) (sym is) ∙ left.ordered);
    }

  -- that of a batch is taken
  pub batch_taken : (part : List ℕ) → left.older ≡ Of_batch part ∷ earlier → traces_then ≡ traces → lines_now ≡ lines_then ++ fleet_lines.Batch part ∷ [] → StepsLeft steps (taken + 1) traces_then lines lines_now
  batch_taken part is same now = record {
    newer = left.newer ++ Of_batch part ∷ [];
    older = earlier;
    split = split_on (Of_batch part) is;
    count = counted (Of_batch part);
    own = λ i some e.
        let was = left.own i some (ap (λ (all : List (Listed TraceStep)). slice_get all i) (sym same) ∙ e) in
        (was.0 ∙ ap (steps_of_unit (i + 1)) is, was.1);
    lines_are = ap (fleet_steps_on earlier) now ∙ (batch_on part earlier lines_then ∙ (ap (λ (older : List StepOfFleet). fleet_steps_on older lines_then) (sym is) ∙ left.lines_are));
    ordered = ap (fleet_lines_on earlier) now ∙ (batch_seen part (lines_of_fleet earlier) lines_then ∙ (ap (λ (older : List StepOfFleet). fleet_lines_on older lines_then) (sym is) ∙ left.ordered));
  }

-- what a step of this one is, its unit is counted from 1
abbrev pub IsAbove : Stepped → Type 0
IsAbove (Unit_stepped asked unit) = 1 ≤ unit
IsAbove (Batch_came part) = Unit {0}

pub unit_of : (units : ℕ) (order : List Stepped) (k : ℕ) (stepped : Stepped) → AreUnits units order → slice_get order k ≡ Some stepped → IsUnitOf units stepped
unit_of units order k (Unit_stepped asked unit) each e = each k unit asked e
unit_of units order k (Batch_came part) each e = tt

pub mapped_there : {A B : Type 0} (f : A → B) (xs : List A) (k : ℕ) (x : A) → slice_get xs k ≡ Some x → slice_get (map f xs) k ≡ Some (f x)
mapped_there f [] k x e = absurd cc
mapped_there f (y ∷ xs) zero x e = let same : y ≡ x = cc in ap (λ z. Some (f z)) same
mapped_there f (y ∷ xs) (suc k) x e = mapped_there f xs k x e

pub takes_off_length : (stepped : Stepped) (traces traces_then : List (Listed TraceStep)) (lines lines_then : List FleetStep) → TakesOff stepped traces traces_then lines lines_then → length traces_then ≡ length traces
takes_off_length (Unit_stepped asked unit) traces traces_then lines lines_then takes = ap length takes.changes.kept ∙ set_length traces (unit - 1) takes.trace_then
takes_off_length (Batch_came part) traces traces_then lines lines_then takes = ap length takes.0

pub above_of : (units : ℕ) (stepped : Stepped) → IsUnitOf units stepped → IsAbove stepped
above_of units (Unit_stepped asked unit) is = is.0
above_of units (Batch_came part) is = tt

module _ (order : List Stepped) (traces traces_old : List (Listed TraceStep)) (taken : ℕ) (lines lines_then : List FleetStep) (so_far_taken : TakenOf order traces traces_old taken lines lines_then) (within : taken < length order)
    (traces_then : List (Listed TraceStep)) (lines_now : List FleetStep) where
  by_step : (stepped : Stepped) → IsAbove stepped → TakesOff stepped traces_old traces_then lines_then lines_now
      → (steps : List StepOfFleet) (left : StepsLeft steps taken traces_old lines lines_then) (step : StepOfFleet) (earlier : List StepOfFleet) → left.older ≡ step ∷ earlier → IsStepOf stepped step
      → StepsLeft steps (taken + 1) traces_then lines lines_now
  by_step (Unit_stepped asked unit) above takes steps left step earlier older (s, is) =
      unit_taken traces_old taken lines lines_then steps left traces_then lines_now earlier asked unit above s (older ∙ ap (λ (x : StepOfFleet). x ∷ earlier) is) takes
  by_step (Batch_came part) above takes steps left step earlier older is =
      batch_taken traces_old taken lines lines_then steps left traces_then lines_now earlier part (older ∙ ap (λ (x : StepOfFleet). x ∷ earlier) is) takes.0 takes.1

  pub one_taken : (stepped : Stepped) → IsAbove stepped → slice_get order (length order - 1 - taken) ≡ Some stepped → TakesOff stepped traces_old traces_then lines_then lines_now → TakenOf order traces traces_then (taken + 1) lines lines_now
  one_taken stepped above read takes steps goes is own =
      let left = so_far_taken steps goes is own in
      let named = read_from_back order (stepping_order steps) taken stepped is within read in
      let next = named_next left.newer left.older stepped (subst (λ (all : List StepOfFleet). HasNotEnded all) left.split goes)
      (subst (λ (n : ℕ). slice_get (stepping_order (left.newer ++ left.older)) n ≡ Some stepped) left.count (subst (λ (all : List StepOfFleet). slice_get (stepping_order all) taken ≡ Some stepped) left.split named)) in
      by_step stepped above takes steps left next.0 next.1 next.2 next.3

-- all were taken
pub all_taken : (order : List Stepped) (traces traces_then : List (Listed TraceStep)) (lines lines_then : List FleetStep) → TakenOf order traces traces_then (length order) lines lines_then → TakesAll order traces lines lines_then
all_taken order traces traces_then lines lines_then taken_all steps goes is own =
    let left = taken_all steps goes is own in
    let all : length (left.newer ++ left.older) ≡ length left.newer =
    ap length (sym left.split) ∙ (sym (as_many steps goes) ∙ (sym (ap length is ∙ length-reverse (stepping_order steps)) ∙ left.count)) in
    subst (λ (older : List StepOfFleet). (fleet_steps_on older lines_then ≡ fleet_steps_on steps lines) × (fleet_lines_on older lines_then ≡ fleet_lines_on steps lines)) (none left.older (let both = length-append left.newer left.older in omega (arith, both, all))) (left.lines_are, left.ordered)
  where
    none : (some : List StepOfFleet) → length some ≡ 0 → some ≡ []
    none [] e = refl
    none (s ∷ some) e = absurd (let no : ⊥ = omega (arith, e) in no)

-- the lines, turned round
pub merged_then_ended : (steps : List StepOfFleet) (none ended lines trace : List FleetStep) → none ≡ [] → ended ≡ none ++ fleet_lines.End ∷ [] → trace ≡ reverse lines
    → (fleet_steps_on [] lines ≡ fleet_steps_on steps ended) × (fleet_lines_on [] lines ≡ fleet_lines_on steps ended) → (fleet_steps_of trace ≡ Of_all ∷ steps) × IsFleetInOrder trace
unfolding fleet_steps_of
merged_then_ended steps none ended lines trace empty one is merged = (whole, ap (map seen_in_fleet) is ∙ (merged.1 ∙ (ap (fleet_lines_on steps) only ∙ ap lines_of_fleet (sym whole))))
  where
    only : ended ≡ fleet_lines.End ∷ []
    only = one ∙ ap (λ (all : List FleetStep). all ++ fleet_lines.End ∷ []) empty

    whole : (fold with_fleet_line (so_far false []) trace).steps ≡ Of_all ∷ steps
    whole = ap (λ (all : List FleetStep). (fold with_fleet_line (so_far false []) all).steps) is ∙ (merged.0 ∙ ap (λ (all : List FleetStep). fleet_steps_on steps all) only)
