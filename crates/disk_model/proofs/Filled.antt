-- A buffer that is filled piece by piece from a file.
use Rattle.std.proofs.Common.{◌≡◌, ℕ, ◌+◌, ◌≤◌, List, ◌++◌, length, take, Option, None, Some, sym, refl, ap, ap₂, ◌∙◌, arith, length-append}
use Rattle.std.proofs.Math.Seq.{take-append-add, length-take-le}
use Rattle.std.proofs.lemmas.List.{append_assoc, length-take, take-take}
use Rattle.std.proofs.lemmas.Slice.{take-put_mid}
use Rattle.std.specs.Io.KnownBytes.{Consumes}
use borrow.Rule.Slice.PartMut.{put_mid}

-- the first bytes of a buffer after a read into its rest
pub piece_taken : (a k n : ℕ) (xs ys : List ℕ) → n ≤ length ys → a ≤ length xs → take (a + n) (put_mid a k xs ys) ≡ take a xs ++ take n ys
piece_taken a k n xs ys short within =
    let first : length (take a xs) ≡ a = length-take-le a xs within in
    sym (take-take (a + n) (a + length ys) (put_mid a k xs ys) (omega (arith, short)))
    ∙ ap (λ (l : List ℕ). take (a + n) l) (take-put_mid a k xs ys (a + length ys) refl within)
    ∙ ap (λ (m : ℕ). take (m + n) (take a xs ++ ys)) (sym first) ∙ take-append-add (take a xs) ys n

pub piece_within : (a k n : ℕ) (xs ys : List ℕ) → n ≤ length ys → a ≤ length xs → a + n ≤ length (put_mid a k xs ys)
piece_within a k n xs ys short within =
    let both : length (take (a + n) (put_mid a k xs ys)) ≡ a + n =
    ap length (piece_taken a k n xs ys short within) ∙ length-append (take a xs) (take n ys) ∙ ap₂ (λ (m : ℕ) (o : ℕ). m + o) (length-take-le a xs within) (length-take-le n ys short) in
    omega (arith, both, length-take (a + n) (put_mid a k xs ys))

-- what was taken before, and a piece more
pub consumed_more : (a b c : Option (List ℕ)) (so_far piece : List ℕ) → Consumes a b so_far → Consumes b c piece → Consumes a c (so_far ++ piece)
consumed_more None b c so_far piece first now = tt
consumed_more (Some xs) None c so_far piece first now = absurd first
consumed_more (Some xs) (Some ys) None so_far piece first now = absurd now
consumed_more (Some xs) (Some ys) (Some zs) so_far piece first now = first ∙ ap (λ (l : List ℕ). so_far ++ l) now ∙ sym (append_assoc so_far piece zs)
