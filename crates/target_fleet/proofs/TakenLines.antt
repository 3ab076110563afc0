-- Lines that are taken off a unit's trace, the newest first.
use Rattle.std.proofs.Common.{Bool, subst, ◌≡◌, ℕ, ◌+◌, true, false, List, [], ◌∷◌, ◌++◌, length, append_assoc, append-nil, eq-eqb, arith, refl, sym, ap, ◌∙◌}
use Rattle.std.specs.Prelude.{fold, map, reverse}
use Rattle.std.specs.List.{AllByRecursion}
use Rattle.std.proofs.lemmas.Grind.{reverse_onto}
use Rattle.std.proofs.lemmas.List.{length-append, map-append, reverse-append, reverse-reverse}
use Rattle.std.proofs.lemmas.List.Sums.{fold-append}
use Rattle.exchange_trace.specs.Happenings.{DatagramView, HappeningView, datagram_view, happening_view}
use Rattle.exchange_trace.specs.Steps.{Boot_refused, Came_up, Note, Step, Went_down, steps_of, with_line}
use Rattle.exchange_trace.specs.declared.trace.Happening.{Happening}
use Rattle.exchange_trace.specs.declared.trace.TraceStep.{TraceStep}
use Rattle.exchange_trace.specs.declared.trace.TraceStep.TheVariants as trace_lines
use Rattle.fleet_trace.specs.FleetTraces.{Of_unit, StepOfFleet, StepsSoFar, so_far, with_fleet_line}
use Rattle.fleet_trace.specs.declared.trace.FleetStep.{FleetStep}
use Rattle.fleet_trace.specs.declared.trace.FleetStep.TheVariants as fleet_lines
use Rattle.replay_turns.specs.Orders.{Happens, IsInOrder, Notes, Posts, SeenLine, lines_of, lines_of_step, seen_line}
use Rattle.target_fleet.specs.Merges.{TakesNewest, begins_step}
use Rattle.target_fleet.specs.Orders.{SeenInFleet, Seen_at, seen_in_fleet}

-- ---- lines of one step

-- a line that belongs to the step before it
abbrev IsOfStep : TraceStep → Type 0
IsOfStep line = begins_step line ≡ false

-- a step with one such line more
abbrev with_more : Step → TraceStep → Step
with_more s (trace_lines.Posted d) = record { given = s.given; posts = s.posts ++ datagram_view d ∷ []; notes = s.notes }
with_more s (trace_lines.Given h) = s
with_more s trace_lines.Down = record { given = s.given; posts = s.posts; notes = s.notes ++ Went_down ∷ [] }
with_more s (trace_lines.Up first_port sequence) = record { given = s.given; posts = s.posts; notes = s.notes ++ Came_up first_port sequence ∷ [] }
with_more s (trace_lines.BootRefused fault) = record { given = s.given; posts = s.posts; notes = s.notes ++ Boot_refused fault ∷ [] }

one_more : (line : TraceStep) → IsOfStep line → (s : Step) (earlier : List Step) → with_line (s ∷ earlier) line ≡ with_more s line ∷ earlier
one_more (trace_lines.Posted d) is s earlier = refl
one_more (trace_lines.Given h) is s earlier = absurd cc
one_more trace_lines.Down is s earlier = refl
one_more (trace_lines.Up first_port sequence) is s earlier = refl
one_more (trace_lines.BootRefused fault) is s earlier = refl

fleet_one_more : (asked : Bool) (unit : ℕ) (line : TraceStep) → IsOfStep line → (s : Step) (before : List StepOfFleet)
    → with_fleet_line (so_far false (Of_unit asked unit s ∷ before)) (fleet_lines.At unit line) ≡ so_far false (Of_unit asked unit (with_more s line) ∷ before)
fleet_one_more asked unit (trace_lines.Posted d) is s before = rw (eq-eqb unit unit refl) refl
fleet_one_more asked unit (trace_lines.Given h) is s before = absurd cc
fleet_one_more asked unit trace_lines.Down is s before = rw (eq-eqb unit unit refl) refl
fleet_one_more asked unit (trace_lines.Up first_port sequence) is s before = rw (eq-eqb unit unit refl) refl
fleet_one_more asked unit (trace_lines.BootRefused fault) is s before = rw (eq-eqb unit unit refl) refl

-- with all of them
abbrev with_rest : Step → List TraceStep → Step
with_rest s [] = s
with_rest s (line ∷ rest) = with_rest (with_more s line) rest

rest_added : (rest : List TraceStep) → AllByRecursion IsOfStep rest → (s : Step) (earlier : List Step) → fold with_line (s ∷ earlier) rest ≡ with_rest s rest ∷ earlier
rest_added [] all s earlier = refl
rest_added (line ∷ rest) (is, all) s earlier = ap (λ (steps : List Step). fold with_line steps rest) (one_more line is s earlier) ∙ rest_added rest all (with_more s line) earlier

fleet_rest_added : (asked : Bool) (unit : ℕ) (rest : List TraceStep) → AllByRecursion IsOfStep rest → (s : Step) (before : List StepOfFleet)
    → fold with_fleet_line (so_far false (Of_unit asked unit s ∷ before)) (map (fleet_lines.At unit) rest) ≡ so_far false (Of_unit asked unit (with_rest s rest) ∷ before)
fleet_rest_added asked unit [] all s before = refl
fleet_rest_added asked unit (line ∷ rest) (is, all) s before =
    ap (λ (steps : StepsSoFar). fold with_fleet_line steps (map (fleet_lines.At unit) rest)) (fleet_one_more asked unit line is s before) ∙ fleet_rest_added asked unit rest all (with_more s line) before

none_alone : (rest : List TraceStep) → AllByRecursion IsOfStep rest → fold with_line [] rest ≡ []
none_alone [] all = refl
none_alone (trace_lines.Posted d ∷ rest) (is, all) = none_alone rest all
none_alone (trace_lines.Given h ∷ rest) (is, all) = absurd cc
none_alone (trace_lines.Down ∷ rest) (is, all) = none_alone rest all
none_alone (trace_lines.Up first_port sequence ∷ rest) (is, all) = none_alone rest all
none_alone (trace_lines.BootRefused fault ∷ rest) (is, all) = none_alone rest all

-- ---- in order

-- the lines of a step but the first
abbrev lines_after : Step → List SeenLine
lines_after s = map (λ (d : DatagramView). Posts d) s.posts ++ map (λ (n : Note). Notes n) s.notes

abbrev happens_not : SeenLine → Bool
happens_not (Happens h) = false
happens_not line = true

abbrev NothingHappens : List SeenLine → Type 0
NothingHappens lines = AllByRecursion (λ (line : SeenLine). happens_not line ≡ true) lines

rest_happens_not : (rest : List TraceStep) → AllByRecursion IsOfStep rest → NothingHappens (map seen_line rest)
rest_happens_not [] all = tt
rest_happens_not (trace_lines.Posted d ∷ rest) (is, all) = (refl, rest_happens_not rest all)
rest_happens_not (trace_lines.Given h ∷ rest) (is, all) = absurd cc
rest_happens_not (trace_lines.Down ∷ rest) (is, all) = (refl, rest_happens_not rest all)
rest_happens_not (trace_lines.Up first_port sequence ∷ rest) (is, all) = (refl, rest_happens_not rest all)
rest_happens_not (trace_lines.BootRefused fault ∷ rest) (is, all) = (refl, rest_happens_not rest all)

step_happens_once : (s : Step) → NothingHappens (lines_after s)
step_happens_once s = posts s.posts
  where
    notes : (ns : List Note) → NothingHappens (map (λ (n : Note). Notes n) ns)
    notes [] = tt
    notes (n ∷ ns) = (refl, notes ns)

    posts : (ds : List DatagramView) → NothingHappens (map (λ (d : DatagramView). Posts d) ds ++ map (λ (n : Note). Notes n) s.notes)
    posts [] = notes s.notes
    posts (d ∷ ds) = (refl, posts ds)

happens_in : (xs : List SeenLine) (h : HappeningView) (rest : List SeenLine) → NothingHappens (xs ++ Happens h ∷ rest) → ⊥
happens_in [] h rest none = let no : false ≡ true = none.0 in cc
happens_in (x ∷ xs) h rest none = happens_in xs h rest none.1

-- what stands before and after the last happening
same_parts : (xs ys : List SeenLine) (h k : HappeningView) (later others : List SeenLine) → NothingHappens later → NothingHappens others → xs ++ Happens h ∷ later ≡ ys ++ Happens k ∷ others
    → (xs ≡ ys) × (Happens h ∷ later ≡ Happens k ∷ others)
same_parts [] [] h k later others none alone e = (refl, e)
same_parts [] (y ∷ ys) h k later others none alone e = let tails : later ≡ ys ++ Happens k ∷ others = cc in absurd (happens_in ys k others (subst NothingHappens tails none))
same_parts (x ∷ xs) [] h k later others none alone e = let tails : xs ++ Happens h ∷ later ≡ others = cc in absurd (happens_in xs h later (subst NothingHappens (sym tails) alone))
same_parts (x ∷ xs) (y ∷ ys) h k later others none alone e =
    let tails : xs ++ Happens h ∷ later ≡ ys ++ Happens k ∷ others = cc in
    let heads : x ≡ y = cc in
    let parts = same_parts xs ys h k later others none alone tails in
    (ap (λ (line : SeenLine). line ∷ xs) heads ∙ ap (λ (lines : List SeenLine). y ∷ lines) parts.0, parts.1)

seen_at : (unit : ℕ) (lines : List TraceStep) → map seen_in_fleet (map (fleet_lines.At unit) lines) ≡ map (Seen_at unit) (map seen_line lines)
seen_at unit [] = refl
seen_at unit (line ∷ lines) = ap (λ (seen : List SeenInFleet). Seen_at unit (seen_line line) ∷ seen) (seen_at unit lines)

-- ---- taken so far

-- these lines were taken, none of which begins a step
pub record TakenSoFar (unit count : ℕ) (trace left : List TraceStep) (lines lines_then : List FleetStep) : Type 0 where
  pub taken : List TraceStep
  pub of_step : AllByRecursion IsOfStep taken
  pub parts : trace ≡ left ++ taken
  pub count_is : count ≡ length taken
  pub lines_are : lines_then ≡ lines ++ reverse (map (fleet_lines.At unit) taken)

pub none_taken : (unit : ℕ) (trace : List TraceStep) (lines : List FleetStep) → TakenSoFar unit 0 trace trace lines lines
none_taken unit trace lines = record { taken = []; of_step = tt; parts = sym (append-nil trace); count_is = refl; lines_are = sym (append-nil lines) }

module _ (unit count : ℕ) (trace left : List TraceStep) (lines lines_then : List FleetStep) (taken_yet : TakenSoFar unit count trace left lines lines_then) where
  lines_more : (line : TraceStep) → lines_then ++ fleet_lines.At unit line ∷ [] ≡ lines ++ reverse (map (fleet_lines.At unit) (line ∷ taken_yet.taken))
  lines_more line =
      ap (λ (all : List FleetStep). all ++ fleet_lines.At unit line ∷ []) taken_yet.lines_are
      ∙ (append_assoc lines (reverse (map (fleet_lines.At unit) taken_yet.taken)) (fleet_lines.At unit line ∷ [])
      ∙ ap (λ (more : List FleetStep). lines ++ more) (sym (reverse_onto (map (fleet_lines.At unit) taken_yet.taken) (fleet_lines.At unit line) [])))

  parts_more : (line : TraceStep) (left_then : List TraceStep) → left ≡ left_then ++ line ∷ [] → trace ≡ left_then ++ line ∷ taken_yet.taken
  parts_more line left_then is = taken_yet.parts ∙ (ap (λ (some : List TraceStep). some ++ taken_yet.taken) is ∙ append_assoc left_then (line ∷ []) taken_yet.taken)

  pub taken_more : (line : TraceStep) (left_then : List TraceStep) (lines_now : List FleetStep) → begins_step line ≡ false → left ≡ left_then ++ line ∷ [] → lines_now ≡ lines_then ++ fleet_lines.At unit line ∷ []
      → TakenSoFar unit (count + 1) trace left_then lines lines_now
  taken_more line left_then lines_now is left_is now_is = record {
    taken = line ∷ taken_yet.taken;
    of_step = (is, taken_yet.of_step);
    parts = parts_more line left_then left_is;
    count_is = let more = taken_yet.count_is in omega (arith, more);
    lines_are = now_is ∙ lines_more line;
  }

  -- nothing is left, so that there was no step
  pub no_step : left ≡ [] → (left_then : List TraceStep) (lines_now : List FleetStep) → TakesNewest unit trace left_then lines lines_now
  unfolding steps_of
  no_step none left_then lines_now = record {
    left = λ s earlier some. absurd (no s earlier some);
    taken = λ s earlier asked before some. absurd (no s earlier some);
    ordered = λ s earlier before some in_order. absurd (no s earlier some);
  }
    where
      none_of : fold with_line [] trace ≡ []
      none_of = ap (λ (all : List TraceStep). fold with_line [] all) (taken_yet.parts ∙ ap (λ (some : List TraceStep). some ++ taken_yet.taken) none) ∙ none_alone taken_yet.taken taken_yet.of_step

      no : (s : Step) (earlier : List Step) → steps_of trace ≡ s ∷ earlier → ⊥
      no s earlier some = let both : ◌≡◌ {A = List Step} [] (s ∷ earlier) = sym none_of ∙ some in cc

  -- the line that begins the step was taken too
  pub step_taken : (h : Happening) (left_then : List TraceStep) (lines_now : List FleetStep) → left ≡ left_then ++ trace_lines.Given h ∷ [] → lines_now ≡ lines_then ++ fleet_lines.At unit (trace_lines.Given h) ∷ []
      → TakesNewest unit trace left_then lines lines_now
  unfolding steps_of
  step_taken h left_then lines_now left_is now_is = record {
    left = λ s earlier some. let both = sym (whole) ∙ some in cc;
    taken = λ s earlier asked before some.
        let both = sym (whole) ∙ some in
        let step : begun ≡ s = cc in
        ap (λ (x : StepsSoFar). x.steps)
        (ap (fold with_fleet_line (so_far asked before)) turned
        ∙ (fold-append with_fleet_line (so_far asked before) (map (fleet_lines.At unit) (trace_lines.Given h ∷ taken_yet.taken)) (reverse lines)
        ∙ ap (λ (steps : StepsSoFar). fold with_fleet_line steps (reverse lines))
        (fleet_rest_added asked unit taken_yet.taken taken_yet.of_step first before ∙ ap (λ (x : Step). so_far false (Of_unit asked unit x ∷ before)) step)));
    ordered = λ s earlier before some in_order.
        let both = sym (whole) ∙ some in
        let step : begun ≡ s = cc in
        let parted = parted_here in_order in (
          parted.0,
          ap (λ (all : List FleetStep). before ++ map seen_in_fleet all) turned
              ∙ (ap (λ (all : List SeenInFleet). before ++ all)
              (map-append seen_in_fleet (map (fleet_lines.At unit) (trace_lines.Given h ∷ taken_yet.taken)) (reverse lines)
              ∙ ap (λ (some : List SeenInFleet). some ++ map seen_in_fleet (reverse lines))
              (seen_at unit (trace_lines.Given h ∷ taken_yet.taken) ∙ ap (map (Seen_at unit)) (parted.1 ∙ ap lines_of_step step)))
              ∙ sym (append_assoc before (map (Seen_at unit) (lines_of_step s)) (map seen_in_fleet (reverse lines)))),
        );
  }
    where
      first : Step
      first = record { given = happening_view h; posts = []; notes = [] }

      begun : Step
      begun = with_rest first taken_yet.taken

      turned : reverse lines_now ≡ map (fleet_lines.At unit) (trace_lines.Given h ∷ taken_yet.taken) ++ reverse lines
      turned = ap (λ (all : List FleetStep). reverse all) (now_is ∙ lines_more (trace_lines.Given h))
          ∙ (reverse-append lines (reverse (map (fleet_lines.At unit) (trace_lines.Given h ∷ taken_yet.taken)))
          ∙ ap (λ (some : List FleetStep). some ++ reverse lines) (reverse-reverse (map (fleet_lines.At unit) (trace_lines.Given h ∷ taken_yet.taken))))

      whole : fold with_line [] trace ≡ with_rest (record { given = happening_view h; posts = []; notes = [] }) taken_yet.taken ∷ fold with_line [] left_then
      whole = ap (fold with_line []) (parts_more (trace_lines.Given h) left_then left_is)
          ∙ (fold-append with_line [] left_then (trace_lines.Given h ∷ taken_yet.taken)
          ∙ rest_added taken_yet.taken taken_yet.of_step (record { given = happening_view h; posts = []; notes = [] }) (fold with_line [] left_then))

      parted_here : IsInOrder trace → IsInOrder left_then × (map seen_line (trace_lines.Given h ∷ taken_yet.taken) ≡ lines_of_step (with_rest (record { given = happening_view h; posts = []; notes = [] }) taken_yet.taken))
      parted_here in_order =
          let step = with_rest (record { given = happening_view h; posts = []; notes = [] }) taken_yet.taken in
          let both : map seen_line left_then ++ Happens (happening_view h) ∷ map seen_line taken_yet.taken ≡ lines_of (fold with_line [] left_then) ++ Happens step.given ∷ lines_after step =
          sym (map-append seen_line left_then (trace_lines.Given h ∷ taken_yet.taken)) ∙ (ap (map seen_line) (sym (parts_more (trace_lines.Given h) left_then left_is)) ∙ (in_order ∙ ap lines_of whole)) in
          let parts = same_parts (map seen_line left_then) (lines_of (fold with_line [] left_then)) (happening_view h) step.given (map seen_line taken_yet.taken) (lines_after step) (rest_happens_not taken_yet.taken taken_yet.of_step) (step_happens_once step) both in
          (parts.0, parts.1)

  pub line_taken : (line : TraceStep) (left_then : List TraceStep) (lines_now : List FleetStep) → begins_step line ≡ true → left ≡ left_then ++ line ∷ [] → lines_now ≡ lines_then ++ fleet_lines.At unit line ∷ []
      → TakesNewest unit trace left_then lines lines_now
  line_taken (trace_lines.Given h) left_then lines_now begins left_is now_is = step_taken h left_then lines_now left_is now_is
  line_taken (trace_lines.Posted d) left_then lines_now begins left_is now_is = absurd cc
  line_taken trace_lines.Down left_then lines_now begins left_is now_is = absurd cc
  line_taken (trace_lines.Up first_port sequence) left_then lines_now begins left_is now_is = absurd cc
  line_taken (trace_lines.BootRefused fault) left_then lines_now begins left_is now_is = absurd cc

  -- as many were taken as there were
  pub all_taken : length trace ≡ count → left ≡ []
  all_taken same = none left (let parts = ap length taken_yet.parts ∙ length-append left taken_yet.taken in let counted = taken_yet.count_is in omega (arith, parts, counted, same))
    where
      none : (some : List TraceStep) → length some ≡ 0 → some ≡ []
      none [] e = refl
      none (line ∷ some) e = absurd (let no : ⊥ = omega (arith, e) in no)
