-- Lists that are gone through from the start.
use Rattle.std.proofs.Common.{◌≡◌, ℕ, zero, suc, ◌+◌, ◌≤◌, ◌<◌, List, [], ◌∷◌, ◌++◌, length, take, drop, get_or, refl, sym, ap, ◌∙◌, arith}
use Rattle.std.proofs.lemmas.List.{take_more}

-- what was taken, with the member at this position
pub taken_more : {A : Type 0} (xs : List A) (i : ℕ) (x : A) → i < length xs → x ≡ get_or xs i x → take (i + 1) xs ≡ take i xs ++ x ∷ []
taken_more {A = A} xs i x within is = take_more xs i x within ∙ ap (λ (y : A). take i xs ++ y ∷ []) (sym is)

-- what was taken, the member at this position, and the rest
pub split_at : {A : Type 0} (xs : List A) (i : ℕ) (x : A) → i < length xs → x ≡ get_or xs i x → xs ≡ take i xs ++ x ∷ drop (i + 1) xs
split_at [] i x within is = absurd (omega arith)
split_at (y ∷ xs) zero x within is = rw is refl
split_at {A = A} (y ∷ xs) (suc i) x within is =
    let more : suc i + 1 ≡ suc (i + 1) = omega arith in
    rw more (ap (λ (l : List A). y ∷ l) (split_at xs i x (omega (arith, within)) is))

-- all of it
pub taken_all : {A : Type 0} (xs : List A) (i : ℕ) → length xs ≤ i → take i xs ≡ xs
taken_all [] zero all = refl
taken_all [] (suc i) all = refl
taken_all (x ∷ xs) zero all = absurd (omega arith)
taken_all {A = A} (x ∷ xs) (suc i) all = ap (λ (l : List A). x ∷ l) (taken_all xs i (omega (arith, all)))
