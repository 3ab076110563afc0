-- A text in an array of a fixed size, with zeros after it.
use Rattle.std.specs.Prelude.{◌≡◌, ℕ, ◌-◌, ◌≤◌, List, ◌++◌, length, take, drop, replicate}
use Rattle.std.proofs.Common.{ap, sym, ◌∙◌, arith, take-append-drop, length-take-le}

-- the array of this size that has the text
abbrev pub padded : ℕ → List ℕ → List ℕ
padded size text = text ++ replicate (size - length text) 0

-- the array has this size, a text of this length, and zeros after it
pub record IsPadded (size : ℕ) (cells : List ℕ) (len : ℕ) : Type 0 where
  pub fits : len ≤ size
  pub whole : length cells ≡ size
  pub zeros : drop len cells ≡ replicate (size - len) 0

pub length-take_padded : (size : ℕ) (cells : List ℕ) (len : ℕ) → IsPadded size cells len → length (take len cells) ≡ len
length-take_padded size cells len is = length-take-le len cells (omega (arith, is.fits, is.whole))

-- the text gives the array back
pub padded-take : (size : ℕ) (cells : List ℕ) (len : ℕ) → IsPadded size cells len → padded size (take len cells) ≡ cells
padded-take size cells len is =
    ap (λ (n : ℕ). take len cells ++ replicate (size - n) 0) (length-take_padded size cells len is)
    ∙ ap (λ (after : List ℕ). take len cells ++ after) (sym is.zeros) ∙ take-append-drop len cells
