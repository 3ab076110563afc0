-- Bytes that a text may have.
use Rattle.std.specs.Prelude.{◌≡◌, ℕ, ◌<◌, List, length, slice_index, Bool, true, false, nat_eq}
use Rattle.std.specs.Cmp.Lexicographic.{pointwise}

-- whether two lists of bytes are the same
abbrev pub same_bytes : List ℕ → List ℕ → Bool
same_bytes xs ys = pointwise nat_eq xs ys

-- each byte passes the test
abbrev pub AllGood : (ℕ → Bool) → List ℕ → Type 0
AllGood good bytes = (k : ℕ) → k < length bytes → good (slice_index bytes k) ≡ true

-- the first byte that doesn't is at this offset
pub record IsFirstBad (good : ℕ → Bool) (bytes : List ℕ) (offset : ℕ) : Type 0 where
  pub within : offset < length bytes
  pub before : (k : ℕ) → k < offset → good (slice_index bytes k) ≡ true
  pub bad : good (slice_index bytes offset) ≡ false
