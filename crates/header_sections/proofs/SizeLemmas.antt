-- How many bytes the pieces take.
use Rattle.std.proofs.Common.{◌≡◌, ℕ, zero, suc, ◌+◌, ◌%◌, ◌<◌, ◌≤◌, List, [], ◌∷◌, ◌++◌, length, take, get_or, false, refl, sym, ap, subst, ◌∙◌, arith, length-append, ◌==◌}
use Rattle.std.specs.List.{flat_map}
use Rattle.std.proofs.lemmas.Bool.{eqb-false, ne_eqb}
use Rattle.std.proofs.lemmas.List.{append-nil, take_more, take_all}
use Rattle.std.proofs.lemmas.List.Concat.{flat_map-cons, flat_map-append}
use Rattle.field_grammar.specs.Spelling.{spelled_length, listed_fields}
use Rattle.field_grammar.proofs.SectionLemmas.{size_more, size_number, size_padded}
use Rattle.field_grammar.specs.Fields.{number_fields, padded_fields}
use Rattle.field_grammar.proofs.NumberLemmas.{length_number_bytes}
use Rattle.header_sections.specs.Sections.{distance_of}
use Rattle.header_sections.specs.SectionFields.{texts_fields, user_fields, entry_size, entry_fields_after, entries_fields, HaveDistances}

-- ---- values back to back

pub even_all : {A : Type 0} (s : A → List (List ℕ)) → ((x : A) → spelled_length (s x) % 2 ≡ 0) → (xs : List A) → spelled_length (flat_map s xs) % 2 ≡ 0
even_all s each [] = refl
even_all s each (x ∷ xs) =
    let parts : spelled_length (flat_map s (x ∷ xs)) ≡ spelled_length (s x) + spelled_length (flat_map s xs) = ap (λ (f : List (List ℕ)). spelled_length f) (flat_map-cons s x xs) ∙ size_more (s x) (flat_map s xs) in
    omega (arith, parts, each x, even_all s each xs)

-- one more of them
pub size_taken : {X : Type 0} (f : X → List (List ℕ)) (xs : List X) (i : ℕ) (d : X) → i < length xs
    → spelled_length (flat_map f (take (i + 1) xs)) ≡ spelled_length (flat_map f (take i xs)) + spelled_length (f (get_or xs i d))
size_taken f xs i d lt =
    let one : flat_map f (get_or xs i d ∷ []) ≡ f (get_or xs i d) = flat_map-cons f (get_or xs i d) [] ∙ append-nil (f (get_or xs i d)) in
    ap (λ (l : List _). spelled_length (flat_map f l)) (take_more xs i d lt)
    ∙ (ap (λ (l : List (List ℕ)). spelled_length l) (flat_map-append f (take i xs) (get_or xs i d ∷ [])) ∙ (size_more (flat_map f (take i xs)) (flat_map f (get_or xs i d ∷ [])) ∙ ap (λ (l : List (List ℕ)). spelled_length (flat_map f (take i xs)) + spelled_length l) one))

-- ---- texts and user data

pub even_padded : (text : List ℕ) → spelled_length (padded_fields text) % 2 ≡ 0
even_padded text = omega (arith, size_padded text)

pub size_texts : (texts : List (List ℕ)) → spelled_length (texts_fields texts) ≡ 2 + spelled_length (flat_map padded_fields texts)
unfolding texts_fields
size_texts texts = omega (arith, size_more (number_fields 2 (length texts)) (flat_map padded_fields texts), size_number 2 (length texts))

pub even_texts : (texts : List (List ℕ)) → spelled_length (texts_fields texts) % 2 ≡ 0
even_texts texts = omega (arith, size_texts texts, even_all padded_fields even_padded texts)

pub all_texts : (texts : List (List ℕ)) (i : ℕ) → length texts ≤ i → 2 + spelled_length (flat_map padded_fields (take i texts)) ≡ spelled_length (texts_fields texts)
all_texts texts i le = ap (λ (l : List (List ℕ)). 2 + spelled_length (flat_map padded_fields l)) (take_all i texts le) ∙ sym (size_texts texts)

pub size_user : (user : List ℕ) → spelled_length (user_fields user) ≡ 2 + length user
unfolding user_fields
size_user user = simp (length-append, append-nil, length_number_bytes) refl

-- ---- entries

-- all entries, whatever their distances
abbrev pub total_of : {E : Type 0} → (E → List (List ℕ)) → List E → ℕ
total_of f [] = 0
total_of f (e ∷ es) = entry_size f e + total_of f es

size_entry : {E : Type 0} (f : E → List (List ℕ)) (n : ℕ) (so_far : List E) (e : E) → spelled_length (entry_fields_after f n so_far e) ≡ entry_size f e
size_entry f n so_far e =
    let due : ℕ = distance_of (length so_far + 1 == n) (entry_size f e) in
    omega (arith, size_more (number_fields 2 due) (f e), size_number 2 due)

size_listed : {E : Type 0} (f : E → List (List ℕ)) (n : ℕ) (so_far es : List E) → spelled_length (listed_fields (entry_fields_after f n) so_far es) ≡ total_of f es
unfolding listed_fields
size_listed f n so_far [] = refl
size_listed f n so_far (e ∷ es) =
    omega (arith, size_more (entry_fields_after f n so_far e) (listed_fields (entry_fields_after f n) (so_far ++ e ∷ []) es), size_entry f n so_far e, size_listed f n (so_far ++ e ∷ []) es)

pub size_entries : {E : Type 0} (f : E → List (List ℕ)) (es : List E) → spelled_length (entries_fields f es) ≡ 2 + total_of f es
unfolding entries_fields
size_entries f es =
    let all : List (List ℕ) = listed_fields (entry_fields_after f (length es)) [] es in
    omega (arith, size_more (number_fields 2 (length es)) all, size_number 2 (length es), size_listed f (length es) [] es)

pub even_total : {E : Type 0} (f : E → List (List ℕ)) → ((e : E) → entry_size f e % 2 ≡ 0) → (es : List E) → total_of f es % 2 ≡ 0
even_total f each [] = refl
even_total f each (e ∷ es) = omega (arith, each e, even_total f each es)

total_append : {E : Type 0} (f : E → List (List ℕ)) (es : List E) (e : E) → total_of f (es ++ e ∷ []) ≡ total_of f es + entry_size f e
total_append f [] e = omega arith
total_append f (x ∷ es) e = omega (arith, total_append f es e)

-- one more of the entries
pub total_more : {E : Type 0} (f : E → List (List ℕ)) (es : List E) (i : ℕ) (d : E) → i < length es → total_of f (take (i + 1) es) ≡ total_of f (take i es) + entry_size f (get_or es i d)
total_more f es i d lt = ap (λ (l : List _). total_of f l) (take_more es i d lt) ∙ total_append f (take i es) (get_or es i d)

pub total_taken : {E : Type 0} (f : E → List (List ℕ)) (es : List E) (i : ℕ) → length es ≤ i → 2 + total_of f (take i es) ≡ spelled_length (entries_fields f es)
total_taken f es i le = ap (λ (l : List _). 2 + total_of f l) (take_all i es le) ∙ sym (size_entries f es)

-- an entry that isn't the last is short enough for its distance
pub short_at : {E : Type 0} (f : E → List (List ℕ)) (es : List E) (i : ℕ) (d : E) → HaveDistances f es → i < length es → d ≡ get_or es i d → (i + 1 == length es) ≡ false → entry_size f d ≤ 131070
short_at f [] i d short lt is other = absurd (omega arith)
short_at f (x ∷ []) i d short lt is other = absurd (eqb-false (i + 1) 1 other (omega (arith, lt)))
short_at f (x ∷ y ∷ es) zero d short lt is other = subst (λ (e : _). entry_size f e ≤ 131070) (sym is) short.0
short_at f (x ∷ y ∷ es) (suc i) d short lt is other =
    short_at f (y ∷ es) i d short.1 (omega (arith, lt)) is (ne_eqb (i + 1) (length (y ∷ es)) (λ same. eqb-false (suc i + 1) (length (x ∷ y ∷ es)) other (omega (arith, same))))
