-- Loops that write values back to back.
use Rattle.std.proofs.Common.{◌≡◌, ℕ, ◌+◌, ◌*◌, ◌<◌, ◌≤◌, List, [], ◌∷◌, ◌++◌, length, take, get_or, Bool, refl, sym, ap, subst, ◌∙◌, append_assoc, arith, ◌==◌}
use Rattle.std.specs.Prelude.{map}
use Rattle.std.specs.List.{concat, flat_map, All, AllByRecursion}
use Rattle.std.proofs.Math.Nat.{suc-mul}
use Rattle.std.proofs.lemmas.List.{append-nil, take_more, take_all, length-take, length-append}
use Rattle.std.proofs.lemmas.List.Concat.{flat_map-append, flat_map-cons}
use Rattle.std.proofs.lemmas.List.Elements.{All-head, All-tail}
use Rattle.std.proofs.lemmas.List.Folds.{concat-append}
use Rattle.field_grammar.specs.Spelling.{listed_fields, with_last}
use Rattle.field_grammar.proofs.ListedLemmas.{listed_fields_more}
use Rattle.field_grammar.proofs.LoopLemmas.{concat_more}

-- ---- what is written

-- the fields of one more value
fields_more : {X : Type 0} (f : X → List (List ℕ)) (xs : List X) (i : ℕ) (d : X) → i < length xs
    → concat (flat_map f (take i xs)) ++ concat (f (get_or xs i d)) ≡ concat (flat_map f (take (i + 1) xs))
fields_more f xs i d lt =
    let one : flat_map f (get_or xs i d ∷ []) ≡ f (get_or xs i d) = flat_map-cons f (get_or xs i d) [] ∙ append-nil (f (get_or xs i d)) in
    rw (take_more xs i d lt, flat_map-append f (take i xs) (get_or xs i d ∷ []), one, concat-append) refl

-- one more value is written
pub written_more : {X : Type 0} (f : X → List (List ℕ)) (begun old new : List ℕ) (xs : List X) (i : ℕ) (x : X) → i < length xs → x ≡ get_or xs i x
    → old ≡ begun ++ concat (flat_map f (take i xs)) → new ≡ old ++ concat (f x) → new ≡ begun ++ concat (flat_map f (take (i + 1) xs))
written_more f begun old new xs i x lt is so_far more =
    more ∙ (ap (λ (l : List ℕ). l ++ concat (f x)) so_far ∙ (append_assoc begun (concat (flat_map f (take i xs))) (concat (f x))
    ∙ ap (λ (l : List ℕ). begun ++ l) (ap (λ (y : _). concat (flat_map f (take i xs)) ++ concat (f y)) is ∙ fields_more f xs i x lt)))

-- the same where the values are seen by a view
pub written_more_seen : {X A : Type 0} (f : A → List (List ℕ)) (view : X → A) (begun old new : List ℕ) (xs : List X) (i : ℕ) (x : X) → i < length xs → x ≡ get_or xs i x
    → old ≡ begun ++ concat (flat_map f (map view (take i xs))) → new ≡ old ++ concat (f (view x)) → new ≡ begun ++ concat (flat_map f (map view (take (i + 1) xs)))
written_more_seen f view begun old new xs i x lt is so_far more =
    let here : List ℕ = concat (flat_map f (map view (take i xs))) in
    more ∙ (ap (λ (l : List ℕ). l ++ concat (f (view x))) so_far ∙ (append_assoc begun here (concat (f (view x)))
    ∙ ap (λ (l : List ℕ). begun ++ l) (ap (λ (y : _). here ++ concat (f (view y))) is ∙ concat_more f view xs i x lt)))

-- the fields of one more value of a list whose last is written otherwise
last_more : {X : Type 0} (f : Bool → X → List (List ℕ)) (xs : List X) (i : ℕ) (d : X) → i < length xs
    → concat (listed_fields (with_last f (length xs)) [] (take i xs)) ++ concat (f (i + 1 == length xs) (get_or xs i d)) ≡ concat (listed_fields (with_last f (length xs)) [] (take (i + 1) xs))
last_more f xs i d lt =
    let s : List _ → _ → List (List ℕ) = with_last f (length xs) in
    let size : length (take i xs) ≡ i = omega (arith, length-take i xs) in
    sym (ap (λ (l : List _). concat (listed_fields s [] l)) (take_more xs i d lt)
    ∙ (ap (λ (l : List (List ℕ)). concat l) (listed_fields_more s [] (take i xs) (get_or xs i d))
    ∙ (concat-append (listed_fields s [] (take i xs)) (s (take i xs) (get_or xs i d))
    ∙ ap (λ (n : ℕ). concat (listed_fields s [] (take i xs)) ++ concat (f (n + 1 == length xs) (get_or xs i d))) size)))

-- one more value of such a list is written
pub entries_more : {X : Type 0} (f : Bool → X → List (List ℕ)) (begun old new : List ℕ) (xs : List X) (i : ℕ) (x : X) → i < length xs → x ≡ get_or xs i x
    → old ≡ begun ++ concat (listed_fields (with_last f (length xs)) [] (take i xs)) → new ≡ old ++ concat (f (i + 1 == length xs) x)
    → new ≡ begun ++ concat (listed_fields (with_last f (length xs)) [] (take (i + 1) xs))
entries_more f begun old new xs i x lt is so_far more =
    let here : List ℕ = concat (listed_fields (with_last f (length xs)) [] (take i xs)) in
    more ∙ (ap (λ (l : List ℕ). l ++ concat (f (i + 1 == length xs) x)) so_far ∙ (append_assoc begun here (concat (f (i + 1 == length xs) x))
    ∙ ap (λ (l : List ℕ). begun ++ l) (ap (λ (y : _). here ++ concat (f (i + 1 == length xs) y)) is ∙ last_more f xs i x lt)))

-- ---- what holds of it

all_append : {X : Type 0} (P : X → Type 0) (xs : List X) (x : X) → AllByRecursion P xs → P x → AllByRecursion P (xs ++ x ∷ [])
all_append P [] x all is = (is, tt)
all_append P (y ∷ xs) x all is = (all.0, all_append P xs x all.1 is)

-- of one more value
pub all_more : {X : Type 0} (P : X → Type 0) (xs : List X) (i : ℕ) (x : X) → i < length xs → x ≡ get_or xs i x → AllByRecursion P (take i xs) → P x → AllByRecursion P (take (i + 1) xs)
all_more P xs i x lt is all here = rw (take_more xs i x lt) (all_append P (take i xs) (get_or xs i x) all (subst P is here))

-- of all
pub all_taken : {X : Type 0} (P : X → Type 0) (xs : List X) (i : ℕ) → length xs ≤ i → AllByRecursion P (take i xs) → AllByRecursion P xs
all_taken P xs i le all = rw (take_all i xs le) at all

-- ---- how long it is

-- values of at most N bytes each
pub at_most_each : {A : Type 0} (f : A → List (List ℕ)) (P : A → Type 0) (most : ℕ) → ((x : A) → P x → length (concat (f x)) ≤ most)
    → (xs : List A) → All P xs → length (concat (flat_map f xs)) ≤ length xs * most
at_most_each f P most each [] all = omega arith
at_most_each f P most each (x ∷ xs) all =
    let first : length (concat (f x)) ≤ most = each x (All-head P x xs all) in
    let rest : length (concat (flat_map f xs)) ≤ length xs * most = at_most_each f P most each xs (All-tail P x xs all) in
    let both : length (concat (flat_map f (x ∷ xs))) ≡ length (concat (f x)) + length (concat (flat_map f xs)) = rw (flat_map-cons f x xs, concat-append, length-append) refl in
    rw (both, suc-mul) (omega (arith, first, rest))
