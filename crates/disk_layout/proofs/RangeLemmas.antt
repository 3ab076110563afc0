-- Ranges of an image, back to back.
use Rattle.std.proofs.Common.{◌≡◌, ℕ, ◌+◌, List, ◌++◌, sym, ap₂, ◌∙◌, arith}
use Rattle.std.proofs.lemmas.List.{take-append-drop}
use Rattle.disk_model.specs.Image.{Image, range}
use Rattle.disk_model.proofs.RangeLemmas.{take_range, drop_range}

-- two ranges, of which the second begins where the first ends, are one
pub ranges_joined : (image : Image) (at n next m : ℕ) → next ≡ at + n → range image at n ++ range image next m ≡ range image at (n + m)
ranges_joined image at n next m follows =
    ap₂ (λ (a : List ℕ) (b : List ℕ). a ++ b) (sym (take_range image at (n + m) n (omega arith)))
    (ap₂ (λ (p : ℕ) (k : ℕ). range image p k) follows (omega arith) ∙ sym (drop_range image at (n + m) n))
    ∙ take-append-drop n (range image at (n + m))
