-- Lists that are compared from the start.
use Rattle.std.proofs.Common.{◌≡◌, ℕ, zero, suc, ◌+◌, ◌<◌, ◌≢◌, List, [], ◌∷◌, length, drop, get_or, Bool, true, false, ◌&&◌, refl, sym, ap, ◌∙◌, arith}
use Rattle.std.proofs.Math.ListN.{get_or-map}
use Rattle.std.specs.Cmp.Lexicographic.{pointwise}
use Rattle.std.specs.Prelude.{map}

-- Lists of other lengths differ.
pub other_length : {A : Type 0} (same : A → A → Bool) (xs ys : List A) → length xs ≢ length ys → pointwise same xs ys ≡ false
other_length same [] [] other = absurd (other refl)
other_length same [] (y ∷ ys) other = refl
other_length same (x ∷ xs) [] other = refl
other_length same (x ∷ xs) (y ∷ ys) other = by (same x y) (other_length same xs ys (λ e. other (ap suc e)))
  where
    by : (b : Bool) → pointwise same xs ys ≡ false → (b && pointwise same xs ys) ≡ false
    by true e = e
    by false e = refl

-- what is left of the lists at a position: their members there, and what is left after them
pub same_from : {A : Type 0} (same : A → A → Bool) (xs ys : List A) (i : ℕ) (x y : A) → i < length xs → i < length ys → x ≡ get_or xs i x → y ≡ get_or ys i y
    → pointwise same (drop i xs) (drop i ys) ≡ (same x y && pointwise same (drop (i + 1) xs) (drop (i + 1) ys))
same_from same [] ys i x y inside other p q = absurd (omega arith)
same_from same (a ∷ xs) [] i x y inside other p q = absurd (omega arith)
same_from same (a ∷ xs) (b ∷ ys) zero x y inside other p q = rw (p, q) refl
same_from same (a ∷ xs) (b ∷ ys) (suc i) x y inside other p q =
    let more : suc i + 1 ≡ suc (i + 1) = omega arith in
    rw more (same_from same xs ys i x y (omega (arith, inside)) (omega (arith, other)) p q)

-- lists of one length, of which as much as this was the same, differ where their members there do
pub differs_at : {A : Type 0} (same : A → A → Bool) (xs ys : List A) (i : ℕ) (x y : A) → i < length xs → i < length ys → x ≡ get_or xs i x → y ≡ get_or ys i y
    → pointwise same xs ys ≡ pointwise same (drop i xs) (drop i ys) → same x y ≡ false → false ≡ pointwise same xs ys
differs_at same xs ys i x y inside other p q so_far differ =
    sym (so_far ∙ same_from same xs ys i x y inside other p q ∙ ap (λ (b : Bool). b && pointwise same (drop (i + 1) xs) (drop (i + 1) ys)) differ)

pub same_more : {A : Type 0} (same : A → A → Bool) (xs ys : List A) (i : ℕ) (x y : A) → i < length xs → i < length ys → x ≡ get_or xs i x → y ≡ get_or ys i y
    → pointwise same xs ys ≡ pointwise same (drop i xs) (drop i ys) → same x y ≡ true → pointwise same xs ys ≡ pointwise same (drop (i + 1) xs) (drop (i + 1) ys)
same_more same xs ys i x y inside other p q so_far alike =
    so_far ∙ same_from same xs ys i x y inside other p q ∙ ap (λ (b : Bool). b && pointwise same (drop (i + 1) xs) (drop (i + 1) ys)) alike

-- the member of a list that is seen through a view
pub seen_at : {A B : Type 0} (view : A → B) (xs : List A) (i : ℕ) (x : A) → x ≡ get_or xs i x → view x ≡ get_or (map view xs) i (view x)
seen_at view xs i x is = ap view is ∙ sym (get_or-map view xs i x)
