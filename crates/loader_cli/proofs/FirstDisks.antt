-- The first disks of several are lent to a call, and the others stay as they are.
use Rattle.std.proofs.Common.{◌≡◌, ◌⊎◌, inl, inr, ℕ, zero, suc, ◌<◌, ◌≤◌, List, [], ◌∷◌, ◌++◌, length, take, drop, refl, ap, arith}
use Rattle.std.specs.Prelude.{slice_get}

module _ {A : Type 0} where
  pub taken_first : (n : ℕ) (xs ys : List A) → length ys ≡ n → n ≤ length xs → take n (ys ++ drop n xs) ≡ ys
  taken_first zero xs [] same within = refl
  taken_first zero xs (y ∷ ys) same within = absurd (omega (arith, same))
  taken_first (suc n) xs [] same within = absurd (omega (arith, same))
  taken_first (suc n) [] (y ∷ ys) same within = absurd (omega (arith, within))
  taken_first (suc n) (x ∷ xs) (y ∷ ys) same within = ap (λ (list : List A). y ∷ list) (taken_first n xs ys (omega (arith, same)) (omega (arith, within)))

  pub as_many_then : (n : ℕ) (xs ys : List A) → length ys ≡ n → n ≤ length xs → length (ys ++ drop n xs) ≡ length xs
  as_many_then zero xs [] same within = refl
  as_many_then zero xs (y ∷ ys) same within = absurd (omega (arith, same))
  as_many_then (suc n) xs [] same within = absurd (omega (arith, same))
  as_many_then (suc n) [] (y ∷ ys) same within = absurd (omega (arith, within))
  as_many_then (suc n) (x ∷ xs) (y ∷ ys) same within = ap suc (as_many_then n xs ys (omega (arith, same)) (omega (arith, within)))

  pub later_stay : (n : ℕ) (xs ys : List A) (i : ℕ) → length ys ≡ n → n ≤ length xs → n ≤ i → slice_get (ys ++ drop n xs) i ≡ slice_get xs i
  later_stay zero xs [] i same within past = refl
  later_stay zero xs (y ∷ ys) i same within past = absurd (omega (arith, same))
  later_stay (suc n) xs [] i same within past = absurd (omega (arith, same))
  later_stay (suc n) [] (y ∷ ys) i same within past = absurd (omega (arith, within))
  later_stay (suc n) (x ∷ xs) (y ∷ ys) zero same within past = absurd (omega (arith, past))
  later_stay (suc n) (x ∷ xs) (y ∷ ys) (suc i) same within past = later_stay n xs ys i (omega (arith, same)) (omega (arith, within)) (omega (arith, past))

pub get_taken : {A : Type 0} (n : ℕ) (xs : List A) (i : ℕ) → i < n → slice_get (take n xs) i ≡ slice_get xs i
get_taken zero xs i few = absurd (omega (arith, few))
get_taken (suc n) [] i few = refl
get_taken (suc n) (x ∷ xs) zero few = refl
get_taken (suc n) (x ∷ xs) (suc i) few = get_taken n xs i (omega (arith, few))

pub below_or_not : (a b : ℕ) → (a < b) ⊎ (a < b → ⊥)
below_or_not a zero = inr (λ less. omega (arith, less))
below_or_not zero (suc b) = inl (omega arith)
below_or_not (suc a) (suc b) = elim (below_or_not a b) [ inl less ↦ inl (omega (arith, less)) | inr more ↦ inr (λ less. more (omega (arith, less))) ]
