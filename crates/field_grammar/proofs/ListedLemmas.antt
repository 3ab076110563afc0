-- How lists spell their values, where each may depend on those before it.
use Rattle.std.proofs.Common.{◌≡◌, ℕ, zero, suc, ◌+◌, List, [], ◌∷◌, ◌++◌, length, refl, sym, ap, subst, ◌∙◌, append_assoc}
use Rattle.std.specs.List.{concat, flat_map}
use Rattle.std.proofs.lemmas.List.{append-nil}
use Rattle.field_grammar.specs.Grammar.{Grammar, listed, Follows}
use Rattle.field_grammar.specs.Spelling.{IsPlacedBy, AllPlaced, listed_fields}

-- where no spelling looks at the values before
pub listed_fields_alone : {A : Type 0} (s : A → List (List ℕ)) (so_far xs : List A) → listed_fields (λ before. s) so_far xs ≡ flat_map s xs
unfolding listed_fields
listed_fields_alone s so_far [] = refl
listed_fields_alone s so_far (x ∷ xs) = ap (λ (l : List (List ℕ)). s x ++ l) (listed_fields_alone s (so_far ++ x ∷ []) xs)

-- one more value
pub listed_fields_more : {A : Type 0} (s : List A → A → List (List ℕ)) (so_far xs : List A) (x : A) → listed_fields s so_far (xs ++ x ∷ []) ≡ listed_fields s so_far xs ++ s (so_far ++ xs) x
unfolding listed_fields
listed_fields_more s so_far [] x = append-nil (s so_far x) ∙ ap (λ (l : List _). s l x) (sym (append-nil so_far))
listed_fields_more s so_far (y ∷ xs) x =
    ap (λ (l : List (List ℕ)). s so_far y ++ l) (listed_fields_more s (so_far ++ y ∷ []) xs x ∙ ap (λ (l : List _). listed_fields s (so_far ++ y ∷ []) xs ++ s l x) (append_assoc so_far (y ∷ []) xs))
    ∙ sym (append_assoc (s so_far y) (listed_fields s (so_far ++ y ∷ []) xs) (s (so_far ++ y ∷ xs) x))

listed_to : {F A : Type 0} (item : List A → Grammar F A) (s : List A → A → List (List ℕ)) (P : List A → List ℕ → ℕ → A → Type 0) → ((so_far : List A) → IsPlacedBy (item so_far) (λ before. s so_far) (P so_far))
    → (n : ℕ) (so_far : List A) (before : List ℕ) (fields : List (List ℕ)) (after : ℕ) (value : List A) → Follows (listed n item so_far) before fields after value
    → (xs : List A) × (value ≡ so_far ++ xs) × (fields ≡ listed_fields s so_far xs) × (length xs ≡ n) × AllPlaced s P so_far before after xs
unfolding listed listed_fields
listed_to item s P one zero so_far before fields after value follows = ([], sym follows.1 ∙ sym (append-nil so_far), follows.0, refl, tt)
listed_to item s P one (suc n) so_far before fields after value follows =
    let (x, first, others, parts, fx, later) = follows in
    let a = (one so_far).to before first (length (concat others) + after) x fx in
    let (xs, is, same, size, all) = listed_to item s P one n (so_far ++ x ∷ []) (before ++ concat first) others after value later in
    let whole : fields ≡ s so_far x ++ listed_fields s (so_far ++ x ∷ []) xs = parts ∙ (ap (λ (f : List (List ℕ)). f ++ others) a.0 ∙ ap (λ (o : List (List ℕ)). s so_far x ++ o) same) in
    let here : P so_far before (length (concat (listed_fields s (so_far ++ x ∷ []) xs)) + after) x = subst (λ (o : List (List ℕ)). P so_far before (length (concat o) + after) x) same a.1 in
    let others_are : AllPlaced s P (so_far ++ x ∷ []) (before ++ concat (s so_far x)) after xs = subst (λ (f : List (List ℕ)). AllPlaced s P (so_far ++ x ∷ []) (before ++ concat f) after xs) a.0 all in
    (x ∷ xs, is ∙ append_assoc so_far (x ∷ []) xs, whole, ap suc size, (here, others_are))

listed_from : {F A : Type 0} (item : List A → Grammar F A) (s : List A → A → List (List ℕ)) (P : List A → List ℕ → ℕ → A → Type 0) → ((so_far : List A) → IsPlacedBy (item so_far) (λ before. s so_far) (P so_far))
    → (xs so_far : List A) (before : List ℕ) (after : ℕ) → AllPlaced s P so_far before after xs → Follows (listed (length xs) item so_far) before (listed_fields s so_far xs) after (so_far ++ xs)
unfolding listed listed_fields
listed_from item s P one [] so_far before after all = (refl, sym (append-nil so_far))
listed_from item s P one (x ∷ xs) so_far before after all =
    let others : List (List ℕ) = listed_fields s (so_far ++ x ∷ []) xs in
    let later = listed_from item s P one xs (so_far ++ x ∷ []) (before ++ concat (s so_far x)) after all.1 in
    let there : Follows (listed (length xs) item (so_far ++ x ∷ [])) (before ++ concat (s so_far x)) others after (so_far ++ x ∷ xs) = subst (λ (v : List _). Follows (listed (length xs) item (so_far ++ x ∷ [])) (before ++ concat (s so_far x)) others after v) (append_assoc so_far (x ∷ []) xs) later in
    (x, s so_far x, others, refl, (one so_far).from before (length (concat others) + after) x all.0, there)

-- N values, each of which may depend on those before it
pub placed-listed : {F A : Type 0} (item : List A → Grammar F A) (s : List A → A → List (List ℕ)) (P : List A → List ℕ → ℕ → A → Type 0) (n : ℕ) → ((so_far : List A) → IsPlacedBy (item so_far) (λ before. s so_far) (P so_far))
    → IsPlacedBy (listed n item []) (λ before. listed_fields s []) (λ before after xs. (length xs ≡ n) × AllPlaced s P [] before after xs)
placed-listed {A = A} item s P n one = record {
  to = λ before fields after value follows.
      let (xs, is, same, size, all) = listed_to item s P one n [] before fields after value follows in
      subst (λ (v : List A). (fields ≡ listed_fields s [] v) × ((length v ≡ n) × AllPlaced s P [] before after v)) (sym is) (same, (size, all));
  from = λ before after value fits.
      subst (λ (m : ℕ). Follows (listed m item []) before (listed_fields s [] value) after value) fits.0 (listed_from item s P one value [] before after fits.1);
}
