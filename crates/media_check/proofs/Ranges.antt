-- Numbers in a row.
use Rattle.std.proofs.Common.{◌≡◌, ℕ, zero, suc, ◌+◌, ◌<◌, List, [], ◌∷◌, ◌++◌, ap, ◌∙◌, arith}
use Rattle.std.specs.List.{range_with_len}

-- one more
pub range_more : (from count : ℕ) → range_with_len from (count + 1) ≡ range_with_len from count ++ (from + count) ∷ []
range_more from zero = let e : from ≡ from + 0 = omega arith in ap (λ (n : ℕ). n ∷ []) e
range_more from (suc count) =
    let e : (from + 1) + count ≡ from + suc count = omega arith in
    let more : suc count + 1 ≡ suc (count + 1) = omega arith in
    rw more (ap (λ (rest : List ℕ). from ∷ rest) (range_more (from + 1) count ∙ ap (λ (n : ℕ). range_with_len (from + 1) count ++ n ∷ []) e))

-- the number at this position, those before it, and those after it
pub range_at : (from count at : ℕ) → at < count → (rest : List ℕ) × (range_with_len from count ≡ range_with_len from at ++ (from + at) ∷ rest)
range_at from zero at within = absurd (omega arith)
range_at from (suc count) zero within =
    let e : from ≡ from + 0 = omega arith in
    (range_with_len (from + 1) count, ap (λ (n : ℕ). n ∷ range_with_len (from + 1) count) e)
range_at from (suc count) (suc at) within =
    let (rest, is) = range_at (from + 1) count at (omega (arith, within)) in
    let e : (from + 1) + at ≡ from + suc at = omega arith in
    (rest, ap (λ (l : List ℕ). from ∷ l) (is ∙ ap (λ (n : ℕ). range_with_len (from + 1) at ++ n ∷ rest) e))
