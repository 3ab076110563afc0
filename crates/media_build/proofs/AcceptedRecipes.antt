-- Lines of which each is accepted after those before it are a recipe.
use Rattle.std.proofs.Common.{◌≡◌, ℕ, ◌+◌, ◌<◌, ◌≤◌, ◌||◌, ◌&&◌, Bool, true, false, cond, not, List, [], ◌∷◌, ◌++◌, length, Result, Ok, Err, nat_lt, refl, sym, ap, subst, ◌∙◌, arith, append_assoc, length-append}
use Rattle.std.specs.Prelude.{map, filter, ⊤, nat_le}
use Rattle.std.specs.List.{AllByRecursion, IsDistinct, flat_map, take_while, list_any}
use Rattle.std.proofs.lemmas.Cmp.{nat_list_eq_equiv}
use Rattle.std.proofs.lemmas.List.{append-nil}
use Rattle.std.proofs.lemmas.List.Sums.{take_while-cons}
use Rattle.std.proofs.lemmas.Bool.{leb-true}
use Rattle.field_grammar.specs.Grammar.{◌then◌}
use Rattle.field_grammar.proofs.StepLemmas.{then_ok}
use Rattle.load_base.specs.Bytes.{same_bytes}
use Rattle.text_words.specs.Words.{WrittenLine, written_lines}
use Rattle.part_number.specs.PartNumber.{IsPartNumberText}
use Rattle.media_build.specs.Accepted.{IsSoundLine, IsMemberOf, is_of_loads, is_of_batches, AreBatches, AreLinesInOrder, IsSmallLoad, IsSmallBatch, HasItsLoads, IsRecipe}
use Rattle.media_build.specs.Lines.{names_in, names_of, members_in, members_of, given, files_of_load, has_user, is_used, ends_load, is_target, is_user, is_loaded, target_count, stage_after, stage_of, is_among_loads, is_batch, is_whole, may_stand}
use Rattle.media_build.specs.Partials.{count_files, count_targets, keeps_user}
use Rattle.media_build.specs.RecipeSets.{load_at, loads_of, batch_at, batches_of, targets_in, data_in, support_in}
use Rattle.media_build.specs.Recipes.{words_said, lines_said, complete, line_count, recipe_said}
use Rattle.media_build.specs.declared.fault.RecipeFault.{RecipeFault}
use Rattle.media_build.specs.declared.fault.RecipeFault.TheVariants as faults
use Rattle.media_build.specs.declared.keywords.Stage.{Stage}
use Rattle.media_build.specs.declared.keywords.Stage.TheVariants as stages
use Rattle.media_build.specs.declared.statements.LoadLine.{LoadLine}
use Rattle.media_build.specs.declared.statements.RecipeLine.{RecipeLine}
use Rattle.media_build.specs.declared.statements.Statement.{Statement}
use Rattle.media_build.specs.declared.statements.Statement.TheVariants.{Set, Members, Load, Hardware, Position, Data, Support, User, Batch, Target}
use Rattle.media_build.specs.declared.statements.TargetLine.{TargetLine}
use Rattle.media_build.proofs.AcceptedLines.{passed_ok, IsAccepted, HasRoom, keyword_for, line_is_accepted}
use Rattle.media_build.proofs.Counts.{names_more, members_more, files_more, user_more, stage_more, targets_more, still_loaded}
use Rattle.media_build.proofs.Texts.{first_test, second_test}

-- each of these lines is accepted after those before it
abbrev AreAccepted : (before : List RecipeLine) → List RecipeLine → Type 0
AreAccepted before [] = ⊤
AreAccepted before (line ∷ later) = IsAccepted before line.statement × AreAccepted (before ++ line ∷ []) later

same_lines : (x y : List RecipeLine) → ◌≡◌ {A = Result (List RecipeLine) RecipeFault} (Ok x) (Ok y) → x ≡ y
same_lines x y e = cc

lines_are : (before : List RecipeLine) (written : List WrittenLine) (lines : List RecipeLine) → lines_said before written ≡ Ok lines
    → (more : List RecipeLine) × (before ++ more ≡ lines) × AreAccepted before more
lines_are before [] lines e = ([], append-nil before ∙ same_lines before lines e, tt)
lines_are before (this ∷ later) lines e =
    let s = then_ok (words_said this.number before this.words) _ lines e in
    let line : RecipeLine = record { number = this.number; statement = s.0 } in
    let rest = lines_are (before ++ line ∷ []) later lines s.2 in
    (line ∷ rest.0, sym (append_assoc before (line ∷ []) rest.0) ∙ rest.1, (line_is_accepted this.number before this.words s.0 s.1, rest.2))

-- ---- names

pub flips : (a b : List ℕ) → same_bytes a b ≡ false → same_bytes b a ≡ false
flips a b e = sym (nat_list_eq_equiv.symm a b) ∙ e

pub neither : (a b : Bool) → (a || b) ≡ false → (a ≡ false) × (b ≡ false)
neither true b e = absurd cc
neither false b e = (refl, e)

apart_more : (name this : List ℕ) (names : List (List ℕ)) → AllByRecursion (λ other. same_bytes name other ≡ false) names → same_bytes name this ≡ false
    → AllByRecursion (λ other. same_bytes name other ≡ false) (names ++ this ∷ [])
apart_more name this [] all e = (e, tt)
apart_more name this (n ∷ names) all e = (all.0, apart_more name this names all.1 e)

distinct_more : (names : List (List ℕ)) (this : List ℕ) → IsDistinct same_bytes names → list_any (same_bytes this) names ≡ false → IsDistinct same_bytes (names ++ this ∷ [])
unfolding IsDistinct
distinct_more [] this all e = (tt, tt)
distinct_more (n ∷ names) this all e =
    let both = neither (same_bytes this n) (list_any (same_bytes this) names) e in
    (apart_more n this names all.0 (flips this n both.0), distinct_more names this all.1 both.1)

record AreNames (names : List (List ℕ)) : Type 0 where
  distinct : IsDistinct same_bytes names
  few : length names ≤ 1024

one_more : (before : List RecipeLine) (name : List ℕ) → AreNames (names_of before) → is_used before name ≡ false → length (names_of before) < 1024 → AreNames (names_of before ++ name ∷ [])
one_more before name are new few =
    record { distinct = distinct_more (names_of before) name are.distinct new; few = omega (arith, length-append (names_of before) (name ∷ []), few) }

names_with : (before : List RecipeLine) (s : Statement) → HasRoom before s → AreNames (names_of before) → AreNames (names_of before ++ names_in s)
names_with before (Set part) room are = subst AreNames (sym (append-nil (names_of before))) are
names_with before (Members count) room are = subst AreNames (sym (append-nil (names_of before))) are
names_with before (Load load) room are = one_more before load.name are room.0 room.1
names_with before (Hardware id) room are = subst AreNames (sym (append-nil (names_of before))) are
names_with before (Position id place) room are = subst AreNames (sym (append-nil (names_of before))) are
names_with before (Data file) room are = one_more before file.name are room.0 room.1
names_with before (Support file) room are = one_more before file.name are room.0 room.1
names_with before (User bytes) room are = subst AreNames (sym (append-nil (names_of before))) are
names_with before (Batch batch) room are = one_more before batch.name are room.0 room.1
names_with before (Target target) room are = subst AreNames (sym (append-nil (names_of before))) are

names_are : (before later : List RecipeLine) → AreAccepted before later → AreNames (names_of before) → AreNames (names_of (before ++ later))
names_are before [] all are = subst (λ (l : List RecipeLine). AreNames (names_of l)) (sym (append-nil before)) are
names_are before (line ∷ later) all are =
    let with : AreNames (names_of (before ++ line ∷ [])) = subst AreNames (sym (names_more before line)) (names_with before line.statement all.0.room are) in
    subst (λ (l : List RecipeLine). AreNames (names_of l)) (append_assoc before (line ∷ []) later) (names_are (before ++ line ∷ []) later all.1 with)

no_names : AreNames (names_of [])
unfolding names_of IsDistinct
no_names = record { distinct = tt; few = omega arith }

-- ---- loads

-- the lines of the load before these
abbrev pub own : List RecipeLine → List Statement
own later = map (λ line. line.statement) (take_while (λ line. not (ends_load line.statement)) later)

-- the same of one more line
abbrev pub own_with : Statement → List Statement → List Statement
own_with s later = cond (not (ends_load s)) (s ∷ later) []

pub own_more : (line : RecipeLine) (later : List RecipeLine) → own (line ∷ later) ≡ own_with line.statement (own later)
own_more line later =
    ap (map (λ (l : RecipeLine). l.statement)) (take_while-cons (λ (l : RecipeLine). not (ends_load l.statement)) line later) ∙ by (ends_load line.statement)
  where
    by : (b : Bool) → map (λ (l : RecipeLine). l.statement) (cond (not b) (line ∷ take_while (λ (l : RecipeLine). not (ends_load l.statement)) later) []) ≡ cond (not b) (line.statement ∷ own later) []
    by true = refl
    by false = refl

abbrev count_of : List Statement → ℕ
count_of statements = length (flat_map data_in statements) + length (flat_map support_in statements)

files_stay : (before later : List RecipeLine) → AreAccepted before later → files_of_load before ≤ 255 → files_of_load before + count_of (own later) ≤ 255
files_stay before [] all few = omega arith
files_stay before (line ∷ later) all few =
    subst (λ (l : List Statement). files_of_load before + count_of l ≤ 255) (sym (own_more line later))
    (by line.statement (files_more before line.number line.statement) all.0 (files_stay (before ++ line ∷ []) later all.1))
  where
    by : (s : Statement) → files_of_load (before ++ line ∷ []) ≡ count_files s (files_of_load before) → IsAccepted before s
        → (files_of_load (before ++ line ∷ []) ≤ 255 → files_of_load (before ++ line ∷ []) + count_of (own later) ≤ 255)
        → files_of_load before + count_of (own_with s (own later)) ≤ 255
    by (Set part) now ok rest = let r = rest (omega arith) in omega arith
    by (Members count) now ok rest = let r = rest (omega arith) in omega arith
    by (Load load) now ok rest = omega arith
    by (Hardware id) now ok rest = let r = rest (omega arith) in omega arith
    by (Position id place) now ok rest = let r = rest (omega arith) in omega arith
    by (Data file) now ok rest = let r = rest (omega (arith, ok.room.2)) in omega arith
    by (Support file) now ok rest = let r = rest (omega (arith, ok.room.2)) in omega arith
    by (User bytes) now ok rest = let r = rest (omega arith) in omega arith
    by (Batch batch) now ok rest = omega arith
    by (Target target) now ok rest = let r = rest (omega arith) in omega arith

-- one, where the load has user data
abbrev user_of : Bool → ℕ
user_of has = cond has 1 0

users_stay : (before later : List RecipeLine) → AreAccepted before later → user_of (has_user before) + length (filter is_user (own later)) ≤ 1
users_stay before [] all = by (has_user before)
  where
    by : (b : Bool) → user_of b + 0 ≤ 1
    by true = omega arith
    by false = omega arith
users_stay before (line ∷ later) all =
    subst (λ (l : List Statement). user_of (has_user before) + length (filter is_user l) ≤ 1) (sym (own_more line later))
    (by line.statement (has_user before) refl (user_more before line.number line.statement) all.0 (users_stay (before ++ line ∷ []) later all.1))
  where
    by : (s : Statement) (has : Bool) → has_user before ≡ has → has_user (before ++ line ∷ []) ≡ keeps_user s (has_user before) → IsAccepted before s
        → user_of (has_user (before ++ line ∷ [])) + length (filter is_user (own later)) ≤ 1
        → user_of (has_user before) + length (filter is_user (own_with s (own later))) ≤ 1
    by (Set part) has was now ok rest = rw now at rest
    by (Members count) has was now ok rest = rw now at rest
    by (Load load) true was now ok rest = rw was (omega arith)
    by (Load load) false was now ok rest = rw was (omega arith)
    by (Hardware id) has was now ok rest = rw now at rest
    by (Position id place) has was now ok rest = rw now at rest
    by (Data file) has was now ok rest = rw now at rest
    by (Support file) has was now ok rest = rw now at rest
    by (User bytes) has was now ok rest = let r = rw now at rest in rw ok.room (omega (arith, r))
    by (Batch batch) true was now ok rest = rw was (omega arith)
    by (Batch batch) false was now ok rest = rw was (omega arith)
    by (Target target) has was now ok rest = rw now at rest

loads_are : (before later : List RecipeLine) → AreAccepted before later → AllByRecursion IsSmallLoad (loads_of later)
loads_are before [] all = tt
loads_are before (line ∷ later) all =
    by line.statement (files_more before line.number line.statement) (files_stay (before ++ line ∷ []) later all.1) (users_stay (before ++ line ∷ []) later all.1)
    (loads_are (before ++ line ∷ []) later all.1)
  where
    by : (s : Statement) → files_of_load (before ++ line ∷ []) ≡ count_files s (files_of_load before)
        → (files_of_load (before ++ line ∷ []) ≤ 255 → files_of_load (before ++ line ∷ []) + count_of (own later) ≤ 255)
        → user_of (has_user (before ++ line ∷ [])) + length (filter is_user (own later)) ≤ 1
        → AllByRecursion IsSmallLoad (loads_of later) → AllByRecursion IsSmallLoad (load_at line.number s later ++ loads_of later)
    by (Set part) now files users rest = rest
    by (Members count) now files users rest = rest
    by (Load load) now files users rest =
        let r = files (omega arith) in
        let both = length-append (flat_map data_in (own later)) (flat_map support_in (own later)) in
        (record { files = omega (arith, both, r); user = omega (arith, users) }, rest)
    by (Hardware id) now files users rest = rest
    by (Position id place) now files users rest = rest
    by (Data file) now files users rest = rest
    by (Support file) now files users rest = rest
    by (User bytes) now files users rest = rest
    by (Batch batch) now files users rest = rest
    by (Target target) now files users rest = rest

-- ---- the order of lines

-- neither `set` nor `members`
abbrev pub is_further : Statement → Bool
is_further (Set part) = false
is_further (Members count) = false
is_further statement = true

abbrev IsFurther : (members : ℕ) → RecipeLine → Type 0
IsFurther members line = IsSoundLine members line.statement × (is_further line.statement ≡ true)

-- after two lines neither `set` nor `members` stands
further : (before : ℕ) (stage : Stage) (s : Statement) → 2 ≤ before → may_stand before stage (keyword_for s) ≡ true → is_further s ≡ true
unfolding may_stand
further before stage (Set part) two may = absurd (grind (arith))
further before stage (Members count) two may = absurd (grind (arith))
further before stage (Load load) two may = refl
further before stage (Hardware id) two may = refl
further before stage (Position id place) two may = refl
further before stage (Data file) two may = refl
further before stage (Support file) two may = refl
further before stage (User bytes) two may = refl
further before stage (Batch batch) two may = refl
further before stage (Target target) two may = refl

no_members : (s : Statement) (count : ℕ) → is_further s ≡ true → given (members_in s) count ≡ count
no_members (Set part) count e = absurd cc
no_members (Members other) count e = absurd cc
no_members (Load load) count e = refl
no_members (Hardware id) count e = refl
no_members (Position id place) count e = refl
no_members (Data file) count e = refl
no_members (Support file) count e = refl
no_members (User bytes) count e = refl
no_members (Batch batch) count e = refl
no_members (Target target) count e = refl

each_further : (before later : List RecipeLine) → AreAccepted before later → 2 ≤ length before → AllByRecursion (IsFurther (members_of before)) later
each_further before [] all two = tt
each_further before (line ∷ later) all two =
    let this = further (length before) (stage_of before) line.statement two all.0.stands in
    let same : members_of (before ++ line ∷ []) ≡ members_of before = members_more before line ∙ no_members line.statement (members_of before) this in
    let rest = each_further (before ++ line ∷ []) later all.1 (omega (arith, two, length-append before (line ∷ []))) in
    ((all.0.sound, this), subst (λ (m : ℕ). AllByRecursion (IsFurther m) later) same rest)

pub members_stay : (before later : List RecipeLine) → AllByRecursion (λ line. is_further line.statement ≡ true) later → members_of (before ++ later) ≡ members_of before
members_stay before [] all = ap members_of (append-nil before)
members_stay before (line ∷ later) all =
    sym (ap members_of (append_assoc before (line ∷ []) later)) ∙ members_stay (before ++ line ∷ []) later all.1 ∙ members_more before line
    ∙ no_members line.statement (members_of before) all.0

are_sound : (members : ℕ) (lines : List RecipeLine) → AllByRecursion (IsFurther members) lines → AllByRecursion (λ line. IsSoundLine members line.statement) lines
are_sound members [] all = tt
are_sound members (line ∷ lines) all = (all.0.0, are_sound members lines all.1)

are_further : (members : ℕ) (lines : List RecipeLine) → AllByRecursion (IsFurther members) lines → AllByRecursion (λ line. is_further line.statement ≡ true) lines
are_further members [] all = tt
are_further members (line ∷ lines) all = (all.0.1, are_further members lines all.1)

-- ---- the first three lines

at_stage : (before : List RecipeLine) (stage : Stage) (s : Statement) → stage_of before ≡ stage → IsAccepted before s → may_stand (length before) stage (keyword_for s) ≡ true
at_stage before stage s e ok = subst (λ (stage : Stage). may_stand (length before) stage (keyword_for s) ≡ true) e ok.stands

no_lines : stage_of [] ≡ stages.Loads
unfolding stage_of
no_lines = refl

is_set : (before : List RecipeLine) (s : Statement) → may_stand 0 stages.Loads (keyword_for s) ≡ true → IsAccepted before s → (part : List ℕ) × (s ≡ Set part) × IsPartNumberText part
unfolding may_stand
is_set before (Set part) may ok = (part, refl, ok.sound)
is_set before (Members count) may ok = absurd cc
is_set before (Load load) may ok = absurd cc
is_set before (Hardware id) may ok = absurd cc
is_set before (Position id place) may ok = absurd cc
is_set before (Data file) may ok = absurd cc
is_set before (Support file) may ok = absurd cc
is_set before (User bytes) may ok = absurd cc
is_set before (Batch batch) may ok = absurd cc
is_set before (Target target) may ok = absurd cc

is_members : (before : List RecipeLine) (s : Statement) → may_stand 1 stages.Loads (keyword_for s) ≡ true → IsAccepted before s → (count : ℕ) × (s ≡ Members count) × IsMemberOf 255 count
unfolding may_stand
is_members before (Set part) may ok = absurd cc
is_members before (Members count) may ok = (count, refl, ok.sound)
is_members before (Load load) may ok = absurd cc
is_members before (Hardware id) may ok = absurd cc
is_members before (Position id place) may ok = absurd cc
is_members before (Data file) may ok = absurd cc
is_members before (Support file) may ok = absurd cc
is_members before (User bytes) may ok = absurd cc
is_members before (Batch batch) may ok = absurd cc
is_members before (Target target) may ok = absurd cc

is_a_load : (s : Statement) → may_stand 2 stages.Loads (keyword_for s) ≡ true → (load : LoadLine) × (s ≡ Load load)
unfolding may_stand
is_a_load (Set part) may = absurd cc
is_a_load (Members count) may = absurd cc
is_a_load (Load load) may = (load, refl)
is_a_load (Hardware id) may = absurd cc
is_a_load (Position id place) may = absurd cc
is_a_load (Data file) may = absurd cc
is_a_load (Support file) may = absurd cc
is_a_load (User bytes) may = absurd cc
is_a_load (Batch batch) may = absurd cc
is_a_load (Target target) may = absurd cc

-- ---- lines of loads, and then lines of batches

among : (s : Statement) → is_among_loads (stage_after s) ≡ not (is_of_batches s)
among (Set part) = refl
among (Members count) = refl
among (Load load) = refl
among (Hardware id) = refl
among (Position id place) = refl
among (Data file) = refl
among (Support file) = refl
among (User bytes) = refl
among (Batch batch) = refl
among (Target target) = refl

among_more : (before : List RecipeLine) (line : RecipeLine) → is_among_loads (stage_of (before ++ line ∷ [])) ≡ not (is_of_batches line.statement)
among_more before line = ap is_among_loads (stage_more before line) ∙ among line.statement

true_and_false : (b : Bool) → b ≡ true → b ≡ false → ⊥
true_and_false true one other = absurd cc
true_and_false false one other = absurd cc

-- once batches have begun, a line is one of a batch
of_batches : (before : ℕ) (stage : Stage) (s : Statement) → 2 ≤ before → is_among_loads stage ≡ false → may_stand before stage (keyword_for s) ≡ true → is_of_batches s ≡ true
unfolding may_stand
of_batches before stage (Set part) two begun may = absurd (grind (arith))
of_batches before stage (Members count) two begun may = absurd (grind (arith))
of_batches before stage (Load load) two begun may = absurd (true_and_false (is_among_loads stage) (second_test (nat_le 2 before) (is_among_loads stage) may) begun)
of_batches before stage (Hardware id) two begun may = absurd (true_and_false (is_among_loads stage) (second_test (nat_le 3 before) (is_among_loads stage) may) begun)
of_batches before stage (Position id place) two begun may = absurd (true_and_false (is_among_loads stage) (second_test (nat_le 3 before) (is_among_loads stage) may) begun)
of_batches before stage (Data file) two begun may = absurd (true_and_false (is_among_loads stage) (second_test (nat_le 3 before) (is_among_loads stage) may) begun)
of_batches before stage (Support file) two begun may = absurd (true_and_false (is_among_loads stage) (second_test (nat_le 3 before) (is_among_loads stage) may) begun)
of_batches before stage (User bytes) two begun may = absurd (true_and_false (is_among_loads stage) (second_test (nat_le 3 before) (is_among_loads stage) may) begun)
of_batches before stage (Batch batch) two begun may = refl
of_batches before stage (Target target) two begun may = refl

longer : (before : List RecipeLine) (line : RecipeLine) → 2 ≤ length before → 2 ≤ length (before ++ line ∷ [])
longer before line two = omega (arith, two, length-append before (line ∷ []))

after_batch : (before later : List RecipeLine) → AreAccepted before later → 2 ≤ length before → is_among_loads (stage_of before) ≡ false
    → AllByRecursion (λ line. is_of_batches line.statement ≡ true) later
after_batch before [] all two begun = tt
after_batch before (line ∷ later) all two begun =
    let this = of_batches (length before) (stage_of before) line.statement two begun all.0.stands in
    (this, after_batch (before ++ line ∷ []) later all.1 (longer before line two) (among_more before line ∙ ap not this))

-- these lines are lines of loads, and then lines of batches
record Split (lines : List RecipeLine) : Type 0 where
  loads : List RecipeLine
  batches : List RecipeLine
  stands : lines ≡ loads ++ batches
  others : AllByRecursion (λ line. is_of_loads line.statement ≡ true) loads
  last : AreBatches batches

split_more : (line : RecipeLine) (later : List RecipeLine) → is_of_loads line.statement ≡ true → Split later → Split (line ∷ later)
split_more line later is rest = record {
  loads = line ∷ rest.loads;
  batches = rest.batches;
  stands = ap (λ (l : List RecipeLine). line ∷ l) rest.stands;
  others = (is, rest.others);
  last = rest.last;
}

-- the kinds of lines that may stand among those of loads
data Kind (s : Statement) : Type 0 where
  of_load : is_of_loads s ≡ true → is_of_batches s ≡ false → Kind s
  of_batch : is_batch s ≡ true → is_of_batches s ≡ true → Kind s

kind_of : (before : ℕ) (stage : Stage) (s : Statement) → 2 ≤ before → is_among_loads stage ≡ true → may_stand before stage (keyword_for s) ≡ true → Kind s
unfolding may_stand
kind_of before stage (Set part) two loads may = absurd (grind (arith))
kind_of before stage (Members count) two loads may = absurd (grind (arith))
kind_of before stage (Load load) two loads may = of_load refl refl
kind_of before stage (Hardware id) two loads may = of_load refl refl
kind_of before stage (Position id place) two loads may = of_load refl refl
kind_of before stage (Data file) two loads may = of_load refl refl
kind_of before stage (Support file) two loads may = of_load refl refl
kind_of before stage (User bytes) two loads may = of_load refl refl
kind_of before stage (Batch batch) two loads may = of_batch refl refl
kind_of before stage (Target target) two loads may = absurd (let no = rw loads at may in cc)

split : (before later : List RecipeLine) → AreAccepted before later → 2 ≤ length before → is_among_loads (stage_of before) ≡ true → Split later
split before [] all two loads = record { loads = []; batches = []; stands = refl; others = tt; last = record { each = tt; begun = tt } }
split before (line ∷ later) all two loads =
    by (kind_of (length before) (stage_of before) line.statement two loads all.0.stands) (λ more. split (before ++ line ∷ []) later all.1 (longer before line two) more)
  where
    by : Kind line.statement → (is_among_loads (stage_of (before ++ line ∷ [])) ≡ true → Split later) → Split (line ∷ later)
    by (of_load is other) rest = split_more line later is (rest (among_more before line ∙ ap not other))
    by (of_batch is this) rest = record {
      loads = [];
      batches = line ∷ later;
      stands = refl;
      others = tt;
      last = record {
        each = (this, after_batch (before ++ line ∷ []) later all.1 (longer before line two) (among_more before line ∙ ap not this));
        begun = is;
      };
    }

order : (a b c : RecipeLine) (later : List RecipeLine) (set : List ℕ) (members : ℕ) (load : LoadLine) → a.statement ≡ Set set → b.statement ≡ Members members → c.statement ≡ Load load
    → Split later → AreLinesInOrder (a ∷ b ∷ c ∷ later)
order a b c later set members load first second third split = record {
  numbers = (a.number, b.number, c.number);
  set = set;
  members = members;
  load = load;
  later = split.loads;
  batches = split.batches;
  stands = lines first second third;
  others = split.others;
  last = split.last;
}
  where
    line_is : (l : RecipeLine) (s : Statement) → l.statement ≡ s → l ≡ record { number = l.number; statement = s }
    line_is l s e = ap (λ (x : Statement). let this : RecipeLine = record { number = l.number; statement = x } in this) e

    lines : a.statement ≡ Set set → b.statement ≡ Members members → c.statement ≡ Load load
        → a ∷ b ∷ c ∷ later ≡ record { number = a.number; statement = Set set } ∷ record { number = b.number; statement = Members members } ∷ record { number = c.number; statement = Load load } ∷ (split.loads ++ split.batches)
    lines x y z = cc (line_is a (Set set) x, line_is b (Members members) y, line_is c (Load load) z, split.stands)

-- ---- batches

-- the targets of the batch before these lines
abbrev pub own_targets : List RecipeLine → List TargetLine
own_targets later = flat_map (λ line. targets_in line.statement) (take_while (λ line. is_target line.statement) later)

pub own_targets_more : (line : RecipeLine) (later : List RecipeLine) → own_targets (line ∷ later) ≡ cond (is_target line.statement) (targets_in line.statement ++ own_targets later) []
own_targets_more line later =
    ap (flat_map (λ (l : RecipeLine). targets_in l.statement)) (take_while-cons (λ (l : RecipeLine). is_target l.statement) line later) ∙ by (is_target line.statement)
  where
    by : (b : Bool) → flat_map (λ (l : RecipeLine). targets_in l.statement) (cond b (line ∷ take_while (λ (l : RecipeLine). is_target l.statement) later) [])
        ≡ cond b (targets_in line.statement ++ own_targets later) []
    by true = refl
    by false = refl

targets_stay : (before later : List RecipeLine) → AreAccepted before later → target_count before ≤ 64 → target_count before + length (own_targets later) ≤ 64
targets_stay before [] all few = omega arith
targets_stay before (line ∷ later) all few =
    subst (λ (l : List TargetLine). target_count before + length l ≤ 64) (sym (own_targets_more line later))
    (by line.statement (targets_more before line.number line.statement) all.0 (targets_stay (before ++ line ∷ []) later all.1))
  where
    by : (s : Statement) → target_count (before ++ line ∷ []) ≡ count_targets s (target_count before) → IsAccepted before s
        → (target_count (before ++ line ∷ []) ≤ 64 → target_count (before ++ line ∷ []) + length (own_targets later) ≤ 64)
        → target_count before + length (cond (is_target s) (targets_in s ++ own_targets later) []) ≤ 64
    by (Set part) now ok rest = omega arith
    by (Members count) now ok rest = omega arith
    by (Load load) now ok rest = omega arith
    by (Hardware id) now ok rest = omega arith
    by (Position id place) now ok rest = omega arith
    by (Data file) now ok rest = omega arith
    by (Support file) now ok rest = omega arith
    by (User bytes) now ok rest = omega arith
    by (Batch batch) now ok rest = omega arith
    by (Target target) now ok rest = let r = rest (omega (arith, ok.room.0)) in omega arith

is_left : (stage : Stage) → is_whole stage ≡ false → is_among_loads stage ≡ false
is_left stages.Loads e = absurd cc
is_left stages.Batch e = refl
is_left stages.Targets e = absurd cc

-- after a batch without a target a target stands
a_target : (before : ℕ) (stage : Stage) (s : Statement) → 2 ≤ before → is_whole stage ≡ false → may_stand before stage (keyword_for s) ≡ true → is_target s ≡ true
unfolding may_stand
a_target before stage (Set part) two left may = absurd (grind (arith))
a_target before stage (Members count) two left may = absurd (grind (arith))
a_target before stage (Load load) two left may = absurd (true_and_false (is_among_loads stage) (second_test (nat_le 2 before) (is_among_loads stage) may) (is_left stage left))
a_target before stage (Hardware id) two left may = absurd (true_and_false (is_among_loads stage) (second_test (nat_le 3 before) (is_among_loads stage) may) (is_left stage left))
a_target before stage (Position id place) two left may = absurd (true_and_false (is_among_loads stage) (second_test (nat_le 3 before) (is_among_loads stage) may) (is_left stage left))
a_target before stage (Data file) two left may = absurd (true_and_false (is_among_loads stage) (second_test (nat_le 3 before) (is_among_loads stage) may) (is_left stage left))
a_target before stage (Support file) two left may = absurd (true_and_false (is_among_loads stage) (second_test (nat_le 3 before) (is_among_loads stage) may) (is_left stage left))
a_target before stage (User bytes) two left may = absurd (true_and_false (is_among_loads stage) (second_test (nat_le 3 before) (is_among_loads stage) may) (is_left stage left))
a_target before stage (Batch batch) two left may = absurd (true_and_false (is_whole stage) (second_test (nat_le 3 before) (is_whole stage) may) left)
a_target before stage (Target target) two left may = refl

one_target : (s : Statement) (others : List TargetLine) → is_target s ≡ true → 1 ≤ length (cond (is_target s) (targets_in s ++ others) [])
one_target (Set part) others e = absurd cc
one_target (Members count) others e = absurd cc
one_target (Load load) others e = absurd cc
one_target (Hardware id) others e = absurd cc
one_target (Position id place) others e = absurd cc
one_target (Data file) others e = absurd cc
one_target (Support file) others e = absurd cc
one_target (User bytes) others e = absurd cc
one_target (Batch batch) others e = absurd cc
one_target (Target target) others e = omega arith

some_targets : (before later : List RecipeLine) → AreAccepted before later → 2 ≤ length before → is_whole (stage_of before) ≡ false → is_whole (stage_of (before ++ later)) ≡ true
    → 1 ≤ length (own_targets later)
some_targets before [] all two left whole = absurd (true_and_false (is_whole (stage_of before)) (sym (ap (λ (l : List RecipeLine). is_whole (stage_of l)) (append-nil before)) ∙ whole) left)
some_targets before (line ∷ later) all two left whole =
    subst (λ (l : List TargetLine). 1 ≤ length l) (sym (own_targets_more line later))
    (one_target line.statement (own_targets later) (a_target (length before) (stage_of before) line.statement two left all.0.stands))

batches_are : (before later : List RecipeLine) → AreAccepted before later → 2 ≤ length before → is_whole (stage_of (before ++ later)) ≡ true → AllByRecursion IsSmallBatch (batches_of later)
batches_are before [] all two whole = tt
batches_are before (line ∷ later) all two whole =
    let still : is_whole (stage_of ((before ++ line ∷ []) ++ later)) ≡ true = ap (λ (l : List RecipeLine). is_whole (stage_of l)) (append_assoc before (line ∷ []) later) ∙ whole in
    by line.statement refl still (targets_more before line.number line.statement) (batches_are (before ++ line ∷ []) later all.1 (longer before line two) still)
  where
    by : (s : Statement) → line.statement ≡ s → is_whole (stage_of ((before ++ line ∷ []) ++ later)) ≡ true → target_count (before ++ line ∷ []) ≡ count_targets s (target_count before)
        → AllByRecursion IsSmallBatch (batches_of later) → AllByRecursion IsSmallBatch (batch_at s later ++ batches_of later)
    by (Set part) is still now rest = rest
    by (Members count) is still now rest = rest
    by (Load load) is still now rest = rest
    by (Hardware id) is still now rest = rest
    by (Position id place) is still now rest = rest
    by (Data file) is still now rest = rest
    by (Support file) is still now rest = rest
    by (User bytes) is still now rest = rest
    by (Batch batch) is still now rest =
        let left : is_whole (stage_of (before ++ line ∷ [])) ≡ false = ap is_whole (stage_more before line ∙ ap stage_after is) in
        let few = targets_stay (before ++ line ∷ []) later all.1 (omega (arith, now)) in
        (record { some = some_targets (before ++ line ∷ []) later all.1 (longer before line two) left still; few = omega (arith, few) }, rest)
    by (Target target) is still now rest = rest

-- ---- the loads of targets

each_loaded : (before later : List RecipeLine) (parts : List (List ℕ)) → AllByRecursion (λ part. is_loaded before part ≡ true) parts → AllByRecursion (λ part. is_loaded (before ++ later) part ≡ true) parts
each_loaded before later [] all = tt
each_loaded before later (part ∷ parts) all = (still_loaded before later part all.0, each_loaded before later parts all.1)

have_loads : (before later : List RecipeLine) → AreAccepted before later → AllByRecursion (λ line. HasItsLoads (before ++ later) line.statement) later
have_loads before [] all = tt
have_loads before (line ∷ later) all = (
  by line.statement all.0,
  subst (λ (l : List RecipeLine). AllByRecursion (λ other. HasItsLoads l other.statement) later) (append_assoc before (line ∷ []) later) (have_loads (before ++ line ∷ []) later all.1),
)
  where
    by : (s : Statement) → IsAccepted before s → HasItsLoads (before ++ line ∷ later) s
    by (Set part) ok = tt
    by (Members count) ok = tt
    by (Load load) ok = tt
    by (Hardware id) ok = tt
    by (Position id place) ok = tt
    by (Data file) ok = tt
    by (Support file) ok = tt
    by (User bytes) ok = tt
    by (Batch batch) ok = tt
    by (Target target) ok = each_loaded before (line ∷ later) target.parts ok.room.1

-- ---- the whole

of_lines : (lines : List RecipeLine) → AreAccepted [] lines → 3 ≤ length lines → is_whole (stage_of lines) ≡ true → IsRecipe lines
of_lines [] all three whole = absurd (omega (arith, three))
of_lines (a ∷ []) all three whole = absurd (omega (arith, three))
of_lines (a ∷ b ∷ []) all three whole = absurd (omega (arith, three))
of_lines (a ∷ b ∷ c ∷ later) all three whole =
    let set = is_set [] a.statement (at_stage [] stages.Loads a.statement no_lines all.0) all.0 in
    let one : stage_of (a ∷ []) ≡ stages.Loads = stage_more [] a ∙ ap stage_after set.1 in
    let count = is_members (a ∷ []) b.statement (at_stage (a ∷ []) stages.Loads b.statement one all.1.0) all.1.0 in
    let two : stage_of (a ∷ b ∷ []) ≡ stages.Loads = stage_more (a ∷ []) b ∙ ap stage_after count.1 in
    let load = is_a_load c.statement (at_stage (a ∷ b ∷ []) stages.Loads c.statement two all.1.1.0) in
    let third : stage_of (a ∷ b ∷ c ∷ []) ≡ stages.Loads = stage_more (a ∷ b ∷ []) c ∙ ap stage_after load.1 in
    let each = each_further (a ∷ b ∷ []) (c ∷ later) all.1.1 (omega arith) in
    let others = are_further (members_of (a ∷ b ∷ [])) (c ∷ later) each in
    let members : members_of (a ∷ b ∷ c ∷ later) ≡ members_of (a ∷ b ∷ []) = members_stay (a ∷ b ∷ []) (c ∷ later) others in
    let sound = are_sound (members_of (a ∷ b ∷ [])) (c ∷ later) each in
    let names = names_are [] (a ∷ b ∷ c ∷ later) all no_names in
    let parts = split (a ∷ b ∷ c ∷ []) later all.1.1.1 (omega arith) (ap is_among_loads third) in
    let batches = batches_are (a ∷ b ∷ c ∷ []) later all.1.1.1 (omega arith) whole in
    record {
      order = order a b c later set.0 count.0 load.0 set.1 count.1 load.1 parts;
      each = (rw set.1 set.2, (rw count.1 count.2, subst (λ (m : ℕ). AllByRecursion (λ line. IsSoundLine m line.statement) (c ∷ later)) (sym members) sound));
      names = names.distinct;
      few = names.few;
      loads = loads_are [] (a ∷ b ∷ c ∷ later) all;
      batches = all_batches a b c later set.0 count.0 load.0 set.1 count.1 load.1 batches;
      targets = have_loads [] (a ∷ b ∷ c ∷ later) all;
    }
  where
    -- the first three lines begin no batch
    all_batches : (a b c : RecipeLine) (later : List RecipeLine) (set : List ℕ) (members : ℕ) (load : LoadLine) → a.statement ≡ Set set → b.statement ≡ Members members → c.statement ≡ Load load
        → AllByRecursion IsSmallBatch (batches_of later) → AllByRecursion IsSmallBatch (batches_of (a ∷ b ∷ c ∷ later))
    all_batches a b c later set members load first second third all = rw (first, second, third) all

-- what lines say is a recipe, where there are at least three, and no batch is left without a target
pub what_lines_say_is_a_recipe : (written : List WrittenLine) (lines : List RecipeLine) → lines_said [] written ≡ Ok lines → 3 ≤ length lines → is_whole (stage_of lines) ≡ true → IsRecipe lines
what_lines_say_is_a_recipe written lines e three whole =
    let all = lines_are [] written lines e in
    of_lines lines (subst (AreAccepted []) all.1 all.2) three whole

-- and what a text says as a recipe is one
pub what_a_text_says_is_a_recipe : (text : List ℕ) (lines : List RecipeLine) → recipe_said text ≡ Ok lines → IsRecipe lines
unfolding recipe_said
what_a_text_says_is_a_recipe text lines e = by (nat_lt 1000000 (length text)) e
  where
    by : (b : Bool) → cond b (Err (faults.Limit 0)) (lines_said [] (written_lines text) then λ found. complete (line_count text) found) ≡ Ok lines → IsRecipe lines
    by true is = absurd cc
    by false is =
        let found = then_ok (lines_said [] (written_lines text)) _ lines is in
        let p = passed_ok (nat_le 3 (length found.0) && is_whole (stage_of found.0)) (faults.Order (line_count text + 1)) found.0 lines found.2 in
        let three = first_test (nat_le 3 (length found.0)) (is_whole (stage_of found.0)) p.0 in
        let whole = second_test (nat_le 3 (length found.0)) (is_whole (stage_of found.0)) p.0 in
        subst IsRecipe p.1 (what_lines_say_is_a_recipe (written_lines text) found.0 found.1 (leb-true _ _ three) whole)
