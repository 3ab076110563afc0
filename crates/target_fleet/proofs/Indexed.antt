-- Lists of which one member changed, or that have one more.
use Rattle.std.proofs.Common.{◌≡◌, ◌≢◌, ◌⊎◌, inl, inr, ℕ, zero, suc, ◌<◌, List, [], ◌∷◌, ◌++◌, length, Some, arith, refl, sym, ap, ◌∙◌}
use Rattle.std.specs.Prelude.{slice_get, slice_set}
use Rattle.target_fleet.specs.Units.{ChangesAt}

module _ {A : Type 0} where
  -- one index has one member
  pub same_there : (xs : List A) (i : ℕ) (y z : A) → slice_get xs i ≡ Some y → slice_get xs i ≡ Some z → y ≡ z
  same_there [] i y z one other = absurd cc
  same_there (x ∷ xs) zero y z one other = cc
  same_there (x ∷ xs) (suc i) y z one other = same_there xs i y z one other

  pub set_read : (xs : List A) (i j : ℕ) (y z : A) → slice_get (slice_set xs i y) j ≡ Some z
      → ((j ≡ i) × (z ≡ y)) ⊎ ((j ≢ i) × (slice_get xs j ≡ Some z))
  set_read [] i j y z e = absurd cc
  set_read (x ∷ xs) zero zero y z e = inl (refl, cc)
  set_read (x ∷ xs) zero (suc j) y z e = inr (λ same. omega (arith, same), e)
  set_read (x ∷ xs) (suc i) zero y z e = inr (λ same. omega (arith, same), e)
  set_read (x ∷ xs) (suc i) (suc j) y z e = by (set_read xs i j y z e)
    where
      by : ((j ≡ i) × (z ≡ y)) ⊎ ((j ≢ i) × (slice_get xs j ≡ Some z))
          → ((suc j ≡ suc i) × (z ≡ y)) ⊎ ((suc j ≢ suc i) × (slice_get xs j ≡ Some z))
      by (inl here) = inl (ap suc here.0, here.1)
      by (inr there) = inr (λ same. there.0 (omega (arith, same)), there.1)

  pub set_other : (xs : List A) (i j : ℕ) (y : A) → j ≢ i → slice_get (slice_set xs i y) j ≡ slice_get xs j
  set_other [] i j y other = refl
  set_other (x ∷ xs) zero zero y other = absurd (other refl)
  set_other (x ∷ xs) zero (suc j) y other = refl
  set_other (x ∷ xs) (suc i) zero y other = refl
  set_other (x ∷ xs) (suc i) (suc j) y other = set_other xs i j y (λ same. other (ap suc same))

  pub set_same : (xs : List A) (i : ℕ) (y z : A) → slice_get xs i ≡ Some z → slice_get (slice_set xs i y) i ≡ Some y
  set_same [] i y z e = absurd cc
  set_same (x ∷ xs) zero y z e = refl
  set_same (x ∷ xs) (suc i) y z e = set_same xs i y z e

  pub set_length : (xs : List A) (i : ℕ) (y : A) → length (slice_set xs i y) ≡ length xs
  set_length [] i y = refl
  set_length (x ∷ xs) zero y = refl
  set_length (x ∷ xs) (suc i) y = ap suc (set_length xs i y)

  pub more_read : (xs : List A) (k : ℕ) (y z : A) → slice_get (xs ++ y ∷ []) k ≡ Some z
      → ((k ≡ length xs) × (z ≡ y)) ⊎ ((k < length xs) × (slice_get xs k ≡ Some z))
  more_read [] zero y z e = inl (refl, cc)
  more_read [] (suc k) y z e = absurd cc
  more_read (x ∷ xs) zero y z e = inr (omega arith, e)
  more_read (x ∷ xs) (suc k) y z e = by (more_read xs k y z e)
    where
      by : ((k ≡ length xs) × (z ≡ y)) ⊎ ((k < length xs) × (slice_get xs k ≡ Some z))
          → ((suc k ≡ suc (length xs)) × (z ≡ y)) ⊎ ((suc k < suc (length xs)) × (slice_get xs k ≡ Some z))
      by (inl here) = inl (ap suc here.0, here.1)
      by (inr there) = inr (omega (arith, there.0), there.1)

  -- where one changed, what stands anywhere is the new one, or what stood there
  pub changed_read : (index : ℕ) (before after : A) (old new : List A) → ChangesAt index before after old new
      → (i : ℕ) (z : A) → slice_get new i ≡ Some z
      → ((i ≡ index) × (z ≡ after)) ⊎ ((i ≢ index) × (slice_get old i ≡ Some z))
  changed_read index before after old new changes i z e = set_read old index i after z (ap (λ (xs : List A). slice_get xs i) (sym changes.kept) ∙ e)

  -- one more, behind what was there
  pub added : (old room new : List A) (x : A) → new ≡ room ++ x ∷ [] → room ≡ old → new ≡ old ++ x ∷ []
  added old room new x more same = more ∙ ap (λ (all : List A). all ++ x ∷ []) same
