-- Lists of a known length and numbers below a known one, case by case.
use Rattle.std.proofs.Common.{◌≡◌, ℕ, zero, suc, ◌<◌, List, [], ◌∷◌, length, arith}

-- what holds of each list of N numbers, said of its numbers
abbrev pub OfEach : ℕ → (List ℕ → Type 0) → Type 0
OfEach zero P = P []
OfEach (suc n) P = (x : ℕ) → OfEach n (λ xs. P (x ∷ xs))

pub of_each : (n : ℕ) (P : List ℕ → Type 0) → OfEach n P → (xs : List ℕ) → length xs ≡ n → P xs
of_each zero P at_each [] size = at_each
of_each zero P at_each (x ∷ xs) size = absurd (omega arith)
of_each (suc n) P at_each [] size = absurd (omega arith)
of_each (suc n) P at_each (x ∷ xs) size = of_each n (λ (ys : List ℕ). P (x ∷ ys)) (at_each x) xs (omega arith)

-- what holds of each number below a known one
abbrev pub AtEach : ℕ → (ℕ → Type 0) → Type 0
AtEach zero P = Unit {0}
AtEach (suc n) P = P zero × AtEach n (λ k. P (suc k))

pub at_each : (n : ℕ) (P : ℕ → Type 0) → AtEach n P → (k : ℕ) → k < n → P k
at_each zero P all k below = absurd (omega arith)
at_each (suc n) P all zero below = all.0
at_each (suc n) P all (suc k) below = at_each n (λ (j : ℕ). P (suc j)) (all.1) k (omega arith)
