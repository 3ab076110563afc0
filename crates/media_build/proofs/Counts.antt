-- What is kept of the lines so far, after one more.
use Rattle.std.proofs.Common.{◌≡◌, ℕ, ◌≤◌, ◌||◌, Bool, true, false, not, cond, List, [], ◌∷◌, ◌++◌, refl, sym, ◌∙◌, ap, arith}
use Rattle.std.specs.Prelude.{reverse, filter, length}
use Rattle.std.specs.List.{flat_map, list_any, take_while}
use Rattle.std.proofs.lemmas.List.{reverse-append, append-nil}
use Rattle.std.proofs.lemmas.List.Concat.{flat_map-append}
use Rattle.std.proofs.lemmas.List.Sums.{take_while-cons}
use Rattle.load_base.specs.Bytes.{same_bytes}
use Rattle.load_base.proofs.EqualityLemmas.{equal_bytes}
use Rattle.media_build.specs.Lines.{given, members_in, names_in, parts_in, names_of, members_of, lines_of_load, files_of_load, has_user, is_load, is_file, is_user, is_target, is_loaded, first_count, stage_after, stage_of, stage_of_last, targets_of_batch, target_count}
use Rattle.media_build.specs.Partials.{KeepsCount, AreCounts, AreLoaded, MayFollow, IsNewName, count_files, count_targets, counts_after, keeps_user, with_part, with_parts}
use Rattle.media_build.specs.declared.line_counts.Counts.{Counts}
use Rattle.media_build.specs.declared.statements.RecipeLine.{RecipeLine}
use Rattle.media_build.specs.declared.statements.Statement.{Statement}
use Rattle.media_build.specs.declared.statements.Statement.TheVariants.{Set, Members, Load, Hardware, Position, Data, Support, User, Batch, Target}

-- ---- one more line

pub names_more : (lines : List RecipeLine) (line : RecipeLine) → names_of (lines ++ line ∷ []) ≡ names_of lines ++ names_in line.statement
unfolding names_of
names_more lines line =
    flat_map-append (λ (l : RecipeLine). names_in l.statement) lines (line ∷ [])
    ∙ ap (λ (names : List (List ℕ)). names_of lines ++ names) (append-nil (names_in line.statement))

last_first : (lines : List RecipeLine) (line : RecipeLine) → reverse (lines ++ line ∷ []) ≡ line ∷ reverse lines
last_first lines line = reverse-append lines (line ∷ [])

pub members_more : (lines : List RecipeLine) (line : RecipeLine) → members_of (lines ++ line ∷ []) ≡ given (members_in line.statement) (members_of lines)
unfolding members_of
members_more lines line = ap first_count (last_first lines line)

load_more : (lines : List RecipeLine) (line : RecipeLine) → lines_of_load (lines ++ line ∷ []) ≡ cond (not (is_load line.statement)) (line ∷ lines_of_load lines) []
unfolding lines_of_load
load_more lines line =
    ap (take_while (λ (l : RecipeLine). not (is_load l.statement))) (last_first lines line)
    ∙ take_while-cons (λ (l : RecipeLine). not (is_load l.statement)) line (reverse lines)

-- ---- what is kept, by the kind of the line

abbrev more : List RecipeLine → ℕ → Statement → List RecipeLine
more lines number statement = lines ++ record { number = number; statement = statement } ∷ []

pub files_more : (lines : List RecipeLine) (number : ℕ) (statement : Statement) → files_of_load (more lines number statement) ≡ count_files statement (files_of_load lines)
files_more lines number statement = ap (λ (some : List RecipeLine). length (filter (λ (l : RecipeLine). is_file l.statement) some)) (load_more lines (record { number = number; statement = statement })) ∙ by statement
  where
    by : (s : Statement) → length (filter (λ (l : RecipeLine). is_file l.statement) (cond (not (is_load s)) (record { number = number; statement = s } ∷ lines_of_load lines) []))
        ≡ count_files s (files_of_load lines)
    by (Set part) = omega arith
    by (Members count) = omega arith
    by (Load load) = refl
    by (Hardware id) = omega arith
    by (Position id place) = omega arith
    by (Data file) = omega arith
    by (Support file) = omega arith
    by (User bytes) = omega arith
    by (Batch batch) = omega arith
    by (Target target) = omega arith

pub user_more : (lines : List RecipeLine) (number : ℕ) (statement : Statement) → has_user (more lines number statement) ≡ keeps_user statement (has_user lines)
user_more lines number statement = ap (list_any (λ (l : RecipeLine). is_user l.statement)) (load_more lines (record { number = number; statement = statement })) ∙ by statement
  where
    by : (s : Statement) → list_any (λ (l : RecipeLine). is_user l.statement) (cond (not (is_load s)) (record { number = number; statement = s } ∷ lines_of_load lines) [])
        ≡ keeps_user s (has_user lines)
    by (Set part) = refl
    by (Members count) = refl
    by (Load load) = refl
    by (Hardware id) = refl
    by (Position id place) = refl
    by (Data file) = refl
    by (Support file) = refl
    by (User bytes) = refl
    by (Batch batch) = refl
    by (Target target) = refl

still_few : (lines : List RecipeLine) (statement : Statement) → MayFollow lines statement → files_of_load lines ≤ 255 → count_files statement (files_of_load lines) ≤ 255
still_few lines (Set part) may few = few
still_few lines (Members count) may few = few
still_few lines (Load load) may few = omega arith
still_few lines (Hardware id) may few = few
still_few lines (Position id place) may few = few
still_few lines (Data file) may few = omega (arith, may.1)
still_few lines (Support file) may few = omega (arith, may.1)
still_few lines (User bytes) may few = few
still_few lines (Batch batch) may few = few
still_few lines (Target target) may few = few

-- ---- batches

pub stage_more : (lines : List RecipeLine) (line : RecipeLine) → stage_of (lines ++ line ∷ []) ≡ stage_after line.statement
unfolding stage_of
stage_more lines line = ap stage_of_last (last_first lines line)

pub targets_more : (lines : List RecipeLine) (number : ℕ) (statement : Statement) → target_count (more lines number statement) ≡ count_targets statement (target_count lines)
unfolding targets_of_batch
targets_more lines number statement =
    ap length
    (ap (take_while (λ (l : RecipeLine). is_target l.statement)) (last_first lines (record { number = number; statement = statement }))
    ∙ take_while-cons (λ (l : RecipeLine). is_target l.statement) (record { number = number; statement = statement }) (reverse lines))
    ∙ by statement
  where
    by : (s : Statement) → length (cond (is_target s) (record { number = number; statement = s } ∷ take_while (λ (l : RecipeLine). is_target l.statement) (reverse lines)) [])
        ≡ count_targets s (length (take_while (λ (l : RecipeLine). is_target l.statement) (reverse lines)))
    by (Set part) = refl
    by (Members count) = refl
    by (Load load) = refl
    by (Hardware id) = refl
    by (Position id place) = refl
    by (Data file) = refl
    by (Support file) = refl
    by (User bytes) = refl
    by (Batch batch) = refl
    by (Target target) = omega arith

few_targets : (lines : List RecipeLine) (statement : Statement) → MayFollow lines statement → count_targets statement (target_count lines) ≤ 64
few_targets lines (Set part) may = omega arith
few_targets lines (Members count) may = omega arith
few_targets lines (Load load) may = omega arith
few_targets lines (Hardware id) may = omega arith
few_targets lines (Position id place) may = omega arith
few_targets lines (Data file) may = omega arith
few_targets lines (Support file) may = omega arith
few_targets lines (User bytes) may = omega arith
few_targets lines (Batch batch) may = omega arith
few_targets lines (Target target) may = omega (arith, may)

-- ---- part numbers

any_append : (p : List ℕ → Bool) (xs ys : List (List ℕ)) → list_any p (xs ++ ys) ≡ (list_any p xs || list_any p ys)
any_append p [] ys = refl
any_append p (x ∷ xs) ys = by (p x) (any_append p xs ys)
  where
    by : (b : Bool) → list_any p (xs ++ ys) ≡ (list_any p xs || list_any p ys) → (b || list_any p (xs ++ ys)) ≡ ((b || list_any p xs) || list_any p ys)
    by true e = refl
    by false e = e

pub loaded_more : (lines : List RecipeLine) (line : RecipeLine) (part : List ℕ) → is_loaded (lines ++ line ∷ []) part ≡ (is_loaded lines part || list_any (same_bytes part) (parts_in line.statement))
unfolding is_loaded
loaded_more lines line part =
    ap (list_any (same_bytes part)) (flat_map-append (λ (l : RecipeLine). parts_in l.statement) lines (line ∷ []) ∙ ap (λ (parts : List (List ℕ)). flat_map (λ (l : RecipeLine). parts_in l.statement) lines ++ parts) (append-nil (parts_in line.statement)))
    ∙ any_append (same_bytes part) (flat_map (λ (l : RecipeLine). parts_in l.statement) lines) (parts_in line.statement)

or_more : (a b : Bool) → a ≡ true → (a || b) ≡ true
or_more true b e = refl
or_more false b e = absurd cc

-- what is the part number of a load stays one
pub still_loaded : (lines later : List RecipeLine) (part : List ℕ) → is_loaded lines part ≡ true → is_loaded (lines ++ later) part ≡ true
unfolding is_loaded
still_loaded lines later part is =
    let parts : List RecipeLine → List (List ℕ) = λ some. flat_map (λ (l : RecipeLine). parts_in l.statement) some in
    ap (list_any (same_bytes part)) (flat_map-append (λ (l : RecipeLine). parts_in l.statement) lines later)
    ∙ (any_append (same_bytes part) (parts lines) (parts later) ∙ or_more (list_any (same_bytes part) (parts lines)) (list_any (same_bytes part) (parts later)) is)

nothing_more : (b : Bool) → b ≡ (b || false)
nothing_more true = refl
nothing_more false = refl

absorbed : (a b : Bool) → (b ≡ true → a ≡ true) → a ≡ (a || (b || false))
absorbed true b e = refl
absorbed false true e = absurd (let no = e refl in cc)
absorbed false false e = refl

one_part_more : (part other : List ℕ) (parts : List (List ℕ)) → list_any (same_bytes other) (with_part part parts) ≡ (list_any (same_bytes other) parts || (same_bytes other part || false))
one_part_more part other parts = by (list_any (same_bytes part) parts) refl
  where
    by : (b : Bool) → list_any (same_bytes part) parts ≡ b → list_any (same_bytes other) (with_part part parts) ≡ (list_any (same_bytes other) parts || (same_bytes other part || false))
    by true e =
        rw e
        (absorbed (list_any (same_bytes other) parts) (same_bytes other part)
        (λ same. let is : other ≡ part = (equal_bytes other part).0 same in ap (λ (p : List ℕ). list_any (same_bytes p) parts) is ∙ e))
    by false e = rw e (any_append (same_bytes other) parts (part ∷ []))

loads_more : (lines : List RecipeLine) (parts : List (List ℕ)) (number : ℕ) (statement : Statement) → AreLoaded lines parts → AreLoaded (more lines number statement) (with_parts statement parts)
loads_more lines parts number statement are part = by statement ∙ sym (loaded_more lines (record { number = number; statement = statement }) part)
  where
    by : (s : Statement) → list_any (same_bytes part) (with_parts s parts) ≡ (is_loaded lines part || list_any (same_bytes part) (parts_in s))
    by (Load load) = one_part_more load.part part parts ∙ ap (λ (b : Bool). b || (same_bytes part load.part || false)) (are part)
    by (Set number) = are part ∙ nothing_more (is_loaded lines part)
    by (Members count) = are part ∙ nothing_more (is_loaded lines part)
    by (Hardware id) = are part ∙ nothing_more (is_loaded lines part)
    by (Position id place) = are part ∙ nothing_more (is_loaded lines part)
    by (Data file) = are part ∙ nothing_more (is_loaded lines part)
    by (Support file) = are part ∙ nothing_more (is_loaded lines part)
    by (User bytes) = are part ∙ nothing_more (is_loaded lines part)
    by (Batch batch) = are part ∙ nothing_more (is_loaded lines part)
    by (Target target) = are part ∙ nothing_more (is_loaded lines part)

-- ---- all that is kept

pub new_names : (lines : List RecipeLine) (names parts : List (List ℕ)) (counts : Counts) (statement : Statement) → KeepsCount lines names parts counts → MayFollow lines statement → IsNewName names statement
new_names lines names parts counts (Set part) old may = tt
new_names lines names parts counts (Members count) old may = tt
new_names lines names parts counts (Load load) old may = rw old.names_are may
new_names lines names parts counts (Hardware id) old may = tt
new_names lines names parts counts (Position id place) old may = tt
new_names lines names parts counts (Data file) old may = rw old.names_are may.0
new_names lines names parts counts (Support file) old may = rw old.names_are may.0
new_names lines names parts counts (User bytes) old may = tt
new_names lines names parts counts (Batch batch) old may = rw old.names_are may
new_names lines names parts counts (Target target) old may = tt

counts_more : (lines : List RecipeLine) (counts : Counts) (number : ℕ) (statement : Statement) → AreCounts lines counts → MayFollow lines statement
    → AreCounts (more lines number statement) (counts_after statement counts)
counts_more lines counts number statement old may =
    let line : RecipeLine = record { number = number; statement = statement } in
    let files : count_files statement counts.files ≡ count_files statement (files_of_load lines) = ap (count_files statement) old.files_are in
    let targets : count_targets statement counts.targets ≡ count_targets statement (target_count lines) = ap (count_targets statement) old.targets_are in
    let few_files : files_of_load lines ≤ 255 = omega (arith, old.few, old.files_are) in
    record {
      members_are = ap (given (members_in statement)) old.members_are ∙ sym (members_more lines line);
      files_are = files ∙ sym (files_more lines number statement);
      few = omega (arith, files, still_few lines statement may few_files);
      user_is = ap (keeps_user statement) old.user_is ∙ sym (user_more lines number statement);
      stage_is = sym (stage_more lines line);
      targets_are = targets ∙ sym (targets_more lines number statement);
      few_targets = omega (arith, targets, few_targets lines statement may);
    }

-- after one more line, of what was computed
pub keeps_these : (lines : List RecipeLine) (names parts : List (List ℕ)) (counts : Counts) (number : ℕ) (statement : Statement) → KeepsCount lines names parts counts → MayFollow lines statement
    → (all : List RecipeLine) (all_names all_parts : List (List ℕ)) (now : Counts) → all ≡ lines ++ record { number = number; statement = statement } ∷ []
    → all_names ≡ names ++ names_in statement → all_parts ≡ with_parts statement parts → now ≡ counts_after statement counts → KeepsCount all all_names all_parts now
keeps_these lines names parts counts number statement old may all all_names all_parts now lines_are names_are parts_are counts_are =
    let line : RecipeLine = record { number = number; statement = statement } in
    rw (lines_are, names_are, parts_are, counts_are) (record {
      names_are = ap (λ (n : List (List ℕ)). n ++ names_in statement) old.names_are ∙ sym (names_more lines line);
      parts_are = loads_more lines parts number statement old.parts_are;
      counts_are = counts_more lines counts number statement old.counts_are may;
    })
