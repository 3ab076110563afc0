-- The names of the files of a recipe's set: each stands there once.
use Rattle.std.proofs.Common.{◌≡◌, ℕ, ◌+◌, ◌≤◌, ◌||◌, Bool, true, false, cond, List, [], ◌∷◌, ◌++◌, length, Some, refl, sym, ap, subst, ◌∙◌, arith}
use Rattle.std.specs.Prelude.{map, ⊤}
use Rattle.std.specs.Map.{lookup}
use Rattle.std.specs.List.{AllByRecursion, IsDistinct, flat_map}
use Rattle.std.proofs.lemmas.Cmp.{nat_list_eq_equiv}
use Rattle.std.proofs.lemmas.List.{map-append}
use Rattle.load_base.specs.Bytes.{same_bytes}
use Rattle.load_base.proofs.EqualityLemmas.{equal_bytes}
use Rattle.media_lists.specs.Entries.{is_listed}
use Rattle.media_lists.specs.ListFields.{AreNew}
use Rattle.media_build.specs.Accepted.{is_of_loads, is_of_batches, IsRecipe}
use Rattle.media_build.specs.Lines.{is_batch, names_in, names_of}
use Rattle.media_build.specs.RecipeSets.{Sources, RecipeLoadView, RecipeBatchView, BodyView, load_at, loads_of, batch_at, batches_of, batch_body, data_in, support_in, data_of, support_of, files_of, file_body, load_bodies, recipe_bodies}
use Rattle.media_build.specs.declared.statements.FileLine.{FileLine}
use Rattle.media_build.specs.declared.statements.RecipeLine.{RecipeLine}
use Rattle.media_build.specs.declared.statements.Statement.{Statement}
use Rattle.media_build.specs.declared.statements.Statement.TheVariants.{Set, Members, Load, Hardware, Position, Data, Support, User, Batch, Target}
use Rattle.media_build.proofs.AcceptedRecipes.{flips, neither, own, own_with, own_more}

-- ---- how many of some names pass a test

abbrev pub occurs : (List ℕ → Bool) → List (List ℕ) → ℕ
occurs p [] = 0
occurs p (name ∷ names) = cond (p name) 1 0 + occurs p names

pub occurs-append : (p : List ℕ → Bool) (xs ys : List (List ℕ)) → occurs p (xs ++ ys) ≡ occurs p xs + occurs p ys
occurs-append p [] ys = omega arith
occurs-append p (x ∷ xs) ys = omega (arith, occurs-append p xs ys)

pub all_occur : (names : List (List ℕ)) → length names ≡ occurs (λ name. true) names
all_occur [] = refl
all_occur (name ∷ names) = omega (arith, all_occur names)

-- ---- the names of loads

abbrev pub file_names : List FileLine → List (List ℕ)
file_names files = map (λ file. file.name) files

-- the name of the header, and those of the files
abbrev pub load_names : RecipeLoadView → List (List ℕ)
load_names load = load.load.name ∷ (file_names (data_of load) ++ file_names (support_of load))

abbrev own_names : (List ℕ → Bool) → List Statement → ℕ
own_names p statements = occurs p (file_names (flat_map data_in statements)) + occurs p (file_names (flat_map support_in statements))

-- the name of the file of a batch
abbrev pub batch_name_of : RecipeBatchView → List ℕ
batch_name_of batch = batch.batch.name

-- after a batch there are lines of batches alone
abbrev AreInTurn : List RecipeLine → Type 0
AreInTurn [] = ⊤
AreInTurn (line ∷ later) = (is_batch line.statement ≡ true → AllByRecursion (λ other. is_of_batches other.statement ≡ true) later) × AreInTurn later

-- lines of batches name no file of a load
no_own_files : (p : List ℕ → Bool) (lines : List RecipeLine) → AllByRecursion (λ line. is_of_batches line.statement ≡ true) lines → own_names p (own lines) ≡ 0
no_own_files p [] all = refl
no_own_files p (line ∷ later) all =
    subst (λ (l : List Statement). own_names p l ≡ 0) (sym (own_more line later)) (by line.statement all.0 (no_own_files p later all.1))
  where
    by : (s : Statement) → is_of_batches s ≡ true → own_names p (own later) ≡ 0 → own_names p (own_with s (own later)) ≡ 0
    by (Set part) is e = absurd cc
    by (Members count) is e = absurd cc
    by (Load load) is e = absurd cc
    by (Hardware id) is e = absurd cc
    by (Position id place) is e = absurd cc
    by (Data file) is e = absurd cc
    by (Support file) is e = absurd cc
    by (User bytes) is e = absurd cc
    by (Batch batch) is e = refl
    by (Target target) is e = e

-- each name of the lines is one of a load or a batch, or of the lines before the first load
names_split : (p : List ℕ → Bool) (lines : List RecipeLine) → AreInTurn lines
    → occurs p (names_of lines) ≡ own_names p (own lines) + occurs p (flat_map load_names (loads_of lines)) + occurs p (map batch_name_of (batches_of lines))
unfolding names_of
names_split p [] turn = refl
names_split p (line ∷ later) turn =
    let all : List (List ℕ) = flat_map (λ (l : RecipeLine). names_in l.statement) later in
    occurs-append p (names_in line.statement) all
    ∙ subst (λ (l : List Statement). occurs p (names_in line.statement) + occurs p all ≡ own_names p l + occurs p (flat_map load_names (loads_of (line ∷ later))) + occurs p (map batch_name_of (batches_of (line ∷ later)))) (sym (own_more line later))
    (by line.statement turn.0 (names_split p later turn.1))
  where
    by : (s : Statement) → (is_batch s ≡ true → AllByRecursion (λ other. is_of_batches other.statement ≡ true) later)
        → occurs p (names_of later) ≡ own_names p (own later) + occurs p (flat_map load_names (loads_of later)) + occurs p (map batch_name_of (batches_of later))
        → occurs p (names_in s) + occurs p (names_of later)
        ≡ own_names p (own_with s (own later)) + occurs p (flat_map load_names (load_at line.number s later ++ loads_of later)) + occurs p (map batch_name_of (batch_at s later ++ batches_of later))
    by (Set part) turn e = omega (arith, e)
    by (Members count) turn e = omega (arith, e)
    by (Load load) turn e =
        let this : RecipeLoadView = record { number = line.number; load = load; own = own later } in
        let files = occurs-append p (file_names (data_of this)) (file_names (support_of this)) in
        let both = occurs-append p (file_names (data_of this) ++ file_names (support_of this)) (flat_map load_names (loads_of later)) in
        omega (arith, e, files, both)
    by (Hardware id) turn e = omega (arith, e)
    by (Position id place) turn e = omega (arith, e)
    by (Data file) turn e = omega (arith, e)
    by (Support file) turn e = omega (arith, e)
    by (User bytes) turn e = omega (arith, e)
    by (Batch batch) turn e = omega (arith, e, no_own_files p later (turn refl))
    by (Target target) turn e = omega (arith, e)

-- ---- the names of the files of the set

abbrev pub body_name : BodyView → List ℕ
body_name body = body.name

names_of_bodies : (sources : Sources) (files : List FileLine) → map body_name (map (file_body sources) files) ≡ file_names files
names_of_bodies sources [] = refl
names_of_bodies sources (file ∷ files) = ap (λ (l : List (List ℕ)). file.name ∷ l) (names_of_bodies sources files)

names_of_load : (sources : Sources) (load : RecipeLoadView) → map body_name (load_bodies sources load) ≡ load_names load
unfolding load_bodies
names_of_load sources load =
    ap (λ (l : List (List ℕ)). load.load.name ∷ l) (names_of_bodies sources (files_of load) ∙ map-append (λ (file : FileLine). file.name) (data_of load) (support_of load))

names_of_loads : (sources : Sources) (loads : List RecipeLoadView) → map body_name (flat_map (load_bodies sources) loads) ≡ flat_map load_names loads
names_of_loads sources [] = refl
names_of_loads sources (load ∷ loads) =
    map-append body_name (load_bodies sources load) (flat_map (load_bodies sources) loads)
    ∙ (ap (λ (l : List (List ℕ)). l ++ map body_name (flat_map (load_bodies sources) loads)) (names_of_load sources load)
    ∙ ap (λ (l : List (List ℕ)). load_names load ++ l) (names_of_loads sources loads))

names_of_batches : (batches : List RecipeBatchView) → map body_name (map batch_body batches) ≡ map batch_name_of batches
names_of_batches [] = refl
names_of_batches (batch ∷ batches) = ap (λ (l : List (List ℕ)). batch.batch.name ∷ l) (names_of_batches batches)

-- of all loads, and then of all batches
names_of_set : (sources : Sources) (lines : List RecipeLine) → map body_name (recipe_bodies sources lines) ≡ flat_map load_names (loads_of lines) ++ map batch_name_of (batches_of lines)
unfolding recipe_bodies
names_of_set sources lines =
    map-append body_name (flat_map (load_bodies sources) (loads_of lines)) (map batch_body (batches_of lines))
    ∙ (ap (λ (l : List (List ℕ)). l ++ map body_name (map batch_body (batches_of lines))) (names_of_loads sources (loads_of lines))
    ∙ ap (λ (l : List (List ℕ)). flat_map load_names (loads_of lines) ++ l) (names_of_batches (batches_of lines)))

-- ---- names that differ

pub itself : (a : List ℕ) → same_bytes a a ≡ true
itself a = nat_list_eq_equiv.refl a

-- a name occurs nowhere among names that differ from it
none_occurs : (name : List ℕ) (names : List (List ℕ)) → AllByRecursion (λ other. same_bytes name other ≡ false) names → occurs (same_bytes name) names ≡ 0
none_occurs name [] all = refl
none_occurs name (other ∷ names) all = let rest = none_occurs name names all.1 in rw all.0 (omega (arith, rest))

occurs_once : (name : List ℕ) (names : List (List ℕ)) → IsDistinct same_bytes names → occurs (same_bytes name) names ≤ 1
unfolding IsDistinct
occurs_once name [] all = omega arith
occurs_once name (other ∷ names) all = by (same_bytes name other) refl (occurs_once name names all.1)
  where
    by : (b : Bool) → same_bytes name other ≡ b → occurs (same_bytes name) names ≤ 1 → cond (same_bytes name other) 1 0 + occurs (same_bytes name) names ≤ 1
    by true e few =
        let same : name ≡ other = (equal_bytes name other).0 e in
        let none : occurs (same_bytes name) names ≡ 0 = none_occurs name names (subst (λ (n : List ℕ). AllByRecursion (λ x. same_bytes n x ≡ false) names) (sym same) all.0) in
        rw e (omega (arith, none))
    by false e few = rw e (omega (arith, few))

apart : (name : List ℕ) (names : List (List ℕ)) → occurs (same_bytes name) names ≡ 0 → AllByRecursion (λ other. same_bytes name other ≡ false) names
apart name [] none = tt
apart name (other ∷ names) none = by (same_bytes name other) refl (apart name names)
  where
    by : (b : Bool) → same_bytes name other ≡ b → (occurs (same_bytes name) names ≡ 0 → AllByRecursion (λ x. same_bytes name x ≡ false) names)
        → AllByRecursion (λ x. same_bytes name x ≡ false) (other ∷ names)
    by true e rest = absurd (let one = rw e at none in omega (arith, one))
    by false e rest = (e, rest (let more = rw e at none in omega (arith, more)))

-- names of which none occurs twice differ
pub distinct : (names : List (List ℕ)) → ((name : List ℕ) → occurs (same_bytes name) names ≤ 1) → IsDistinct same_bytes names
unfolding IsDistinct
distinct [] once = tt
distinct (name ∷ names) once =
    let here : cond (same_bytes name name) 1 0 + occurs (same_bytes name) names ≤ 1 = once name in
    let one = rw (itself name) at here in
    (apart name names (omega (arith, one)), distinct names (λ other. let both : cond (same_bytes other name) 1 0 + occurs (same_bytes other) names ≤ 1 = once other in omega (arith, both)))

-- ---- of a recipe

no_own : (lines : List RecipeLine) (p : List ℕ → Bool) → IsRecipe lines → own_names p (own lines) ≡ 0
no_own lines p is = subst (λ (l : List RecipeLine). own_names p (own l) ≡ 0) (sym is.order.stands) (ap (own_names p) whole)
  where
    a : RecipeLine
    a = record { number = is.order.numbers.0; statement = Set is.order.set }

    b : RecipeLine
    b = record { number = is.order.numbers.1; statement = Members is.order.members }

    c : RecipeLine
    c = record { number = is.order.numbers.2; statement = Load is.order.load }

    rest : List RecipeLine
    rest = is.order.later ++ is.order.batches

    whole : own (a ∷ b ∷ c ∷ rest) ≡ Set is.order.set ∷ Members is.order.members ∷ []
    whole =
        own_more a (b ∷ c ∷ rest)
        ∙ ap (λ (l : List Statement). Set is.order.set ∷ l) (own_more b (c ∷ rest) ∙ ap (λ (l : List Statement). Members is.order.members ∷ l) (own_more c rest))

no_batch : (s : Statement) → is_of_loads s ≡ true → is_batch s ≡ true → ⊥
no_batch (Set part) is e = absurd cc
no_batch (Members count) is e = absurd cc
no_batch (Load load) is e = absurd cc
no_batch (Hardware id) is e = absurd cc
no_batch (Position id place) is e = absurd cc
no_batch (Data file) is e = absurd cc
no_batch (Support file) is e = absurd cc
no_batch (User bytes) is e = absurd cc
no_batch (Batch batch) is e = absurd cc
no_batch (Target target) is e = absurd cc

batches_in_turn : (lines : List RecipeLine) → AllByRecursion (λ line. is_of_batches line.statement ≡ true) lines → AreInTurn lines
batches_in_turn [] all = tt
batches_in_turn (line ∷ lines) all = ((λ e. all.1), batches_in_turn lines all.1)

loads_in_turn : (loads batches : List RecipeLine) → AllByRecursion (λ line. is_of_loads line.statement ≡ true) loads → AreInTurn batches → AreInTurn (loads ++ batches)
loads_in_turn [] batches all turn = turn
loads_in_turn (line ∷ loads) batches all turn = ((λ e. absurd (no_batch line.statement all.0 e)), loads_in_turn loads batches all.1 turn)

in_turn : (lines : List RecipeLine) → IsRecipe lines → AreInTurn lines
in_turn lines is =
    let rest = loads_in_turn is.order.later is.order.batches is.order.others (batches_in_turn is.order.batches is.order.last.each) in
    subst AreInTurn (sym is.order.stands) ((λ e. absurd cc), ((λ e. absurd cc), ((λ e. absurd cc), rest)))

-- the files have the names that the lines give, in another order
pub same_names : (lines : List RecipeLine) (p : List ℕ → Bool) → IsRecipe lines
    → occurs p (names_of lines) ≡ occurs p (flat_map load_names (loads_of lines)) + occurs p (map batch_name_of (batches_of lines))
same_names lines p is = omega (arith, names_split p lines (in_turn lines is), no_own lines p is)

-- all together
abbrev set_names : List RecipeLine → List (List ℕ)
set_names lines = flat_map load_names (loads_of lines) ++ map batch_name_of (batches_of lines)

in_set : (lines : List RecipeLine) (p : List ℕ → Bool) → IsRecipe lines → occurs p (names_of lines) ≡ occurs p (set_names lines)
in_set lines p is = omega (arith, same_names lines p is, occurs-append p (flat_map load_names (loads_of lines)) (map batch_name_of (batches_of lines)))

pub few_bodies : (sources : Sources) (lines : List RecipeLine) → IsRecipe lines → length (map body_name (recipe_bodies sources lines)) ≤ 1024
few_bodies sources lines is =
    rw (names_of_set sources lines) (omega (arith, all_occur (names_of lines), all_occur (set_names lines), in_set lines (λ name. true) is, is.few))

pub bodies_are_distinct : (sources : Sources) (lines : List RecipeLine) → IsRecipe lines → IsDistinct same_bytes (map body_name (recipe_bodies sources lines))
bodies_are_distinct sources lines is =
    rw (names_of_set sources lines) (distinct (set_names lines) (λ name. omega (arith, in_set lines (same_bytes name) is, occurs_once name (names_of lines) is.names)))

-- ---- the names of headers

abbrev pub header_name_of : RecipeLoadView → List ℕ
header_name_of load = load.load.name

header_occurs : (p : List ℕ → Bool) (loads : List RecipeLoadView) → occurs p (map header_name_of loads) ≤ occurs p (flat_map load_names loads)
header_occurs p [] = omega arith
header_occurs p (load ∷ loads) =
    omega (arith, header_occurs p loads, occurs-append p (file_names (data_of load) ++ file_names (support_of load)) (flat_map load_names loads))

pub headers_are_distinct : (lines : List RecipeLine) → IsRecipe lines → IsDistinct same_bytes (map header_name_of (loads_of lines))
headers_are_distinct lines is =
    distinct (map header_name_of (loads_of lines))
    (λ name. omega (arith, same_names lines (same_bytes name) is, occurs_once name (names_of lines) is.names, header_occurs (same_bytes name) (loads_of lines)))

pub few_loads : (lines : List RecipeLine) → IsRecipe lines → length (map header_name_of (loads_of lines)) ≤ 1024
few_loads lines is =
    omega (
      arith,
      all_occur (names_of lines),
      all_occur (map header_name_of (loads_of lines)),
      same_names lines (λ name. true) is,
      header_occurs (λ name. true) (loads_of lines),
      is.few,
    )

-- ---- the names of batches

pub batches_are_distinct : (lines : List RecipeLine) → IsRecipe lines → IsDistinct same_bytes (map batch_name_of (batches_of lines))
batches_are_distinct lines is =
    distinct (map batch_name_of (batches_of lines)) (λ name. omega (arith, same_names lines (same_bytes name) is, occurs_once name (names_of lines) is.names))

pub few_batches : (lines : List RecipeLine) → IsRecipe lines → length (map batch_name_of (batches_of lines)) ≤ 1024
few_batches lines is = omega (arith, all_occur (names_of lines), all_occur (map batch_name_of (batches_of lines)), same_names lines (λ name. true) is, is.few)

-- ---- entries with these names

or_false : (a b : Bool) → a ≡ false → b ≡ false → (a || b) ≡ false
or_false false b x y = y
or_false true b x y = absurd cc

listed_more : {E : Type 0} (name_of : E → List ℕ) (name : List ℕ) (so_far : List E) (e : E) → is_listed name_of name so_far ≡ false → same_bytes (name_of e) name ≡ false
    → is_listed name_of name (so_far ++ e ∷ []) ≡ false
unfolding is_listed
listed_more name_of name [] e none this = or_false (same_bytes (name_of e) name) false this refl
listed_more name_of name (x ∷ so_far) e none this =
    let both = neither (same_bytes (name_of x) name) (is_listed name_of name so_far) none in
    or_false (same_bytes (name_of x) name) (is_listed name_of name (so_far ++ e ∷ [])) both.0 (listed_more name_of name so_far e both.1 this)

-- none of the names stands among the entries so far
abbrev AreOther : {E : Type 0} → (E → List ℕ) → (so_far : List E) → List E → Type 0
AreOther name_of so_far es = AllByRecursion (λ e. is_listed name_of (name_of e) so_far ≡ false) es

others_more : {E : Type 0} (name_of : E → List ℕ) (so_far : List E) (e : E) (es : List E) → AreOther name_of so_far es
    → AllByRecursion (λ other. same_bytes (name_of e) other ≡ false) (map name_of es) → AreOther name_of (so_far ++ e ∷ []) es
others_more name_of so_far e [] others apart = tt
others_more name_of so_far e (x ∷ es) others apart = (listed_more name_of (name_of x) so_far e others.0 apart.0, others_more name_of so_far e es others.1 apart.1)

new_after : {E : Type 0} (name_of : E → List ℕ) (so_far es : List E) → AreOther name_of so_far es → IsDistinct same_bytes (map name_of es) → AreNew name_of so_far es
unfolding IsDistinct
new_after name_of so_far [] others all = tt
new_after name_of so_far (e ∷ es) others all = (others.0, new_after name_of (so_far ++ e ∷ []) es (others_more name_of so_far e es others.1 all.0) all.1)

none_listed : {E : Type 0} (name_of : E → List ℕ) (es : List E) → AreOther name_of [] es
unfolding is_listed
none_listed name_of [] = tt
none_listed name_of (e ∷ es) = (refl, none_listed name_of es)

pub names_are_new : {E : Type 0} (name_of : E → List ℕ) (es : List E) → IsDistinct same_bytes (map name_of es) → AreNew name_of [] es
names_are_new name_of es all = new_after name_of [] es (none_listed name_of es) all

-- ---- what is found under a name

abbrev pub named : {E X : Type 0} → (E → List ℕ) → (E → X) → E → List ℕ × X
named name_of value e = (name_of e, value e)

-- what holds of each, where each is found
abbrev pub AreFound : {E X : Type 0} → (E → List ℕ) → (E → X) → List E → List E → Type 0
AreFound name_of value all es = AllByRecursion (λ e. lookup (same_bytes (name_of e)) (map (named name_of value) all) ≡ Some (value e)) es

found_behind : {E X : Type 0} (name_of : E → List ℕ) (value : E → X) (first : E) (all es : List E) → AllByRecursion (λ other. same_bytes (name_of first) other ≡ false) (map name_of es)
    → AreFound name_of value all es → AreFound name_of value (first ∷ all) es
found_behind name_of value first all [] apart found = tt
found_behind name_of value first all (e ∷ es) apart found = (rw (flips (name_of first) (name_of e) apart.0) found.0, found_behind name_of value first all es apart.1 found.1)

pub each_is_found : {E X : Type 0} (name_of : E → List ℕ) (value : E → X) (es : List E) → IsDistinct same_bytes (map name_of es) → AreFound name_of value es es
unfolding IsDistinct
each_is_found name_of value [] all = tt
each_is_found name_of value (e ∷ es) all = (rw (itself (name_of e)) refl, found_behind name_of value e es es all.0 (each_is_found name_of value es all.1))
