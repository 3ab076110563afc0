-- An image with bytes written over it, by its offsets.
use Rattle.std.proofs.Common.{◌≡◌, ℕ, ◌+◌, ◌-◌, ◌<◌, ◌≤◌, List, [], ◌++◌, length, get_or, inl, inr, refl, sym, ◌∙◌, ap, subst, arith, length-append}
use Rattle.std.specs.Prelude.{◌⊎◌}
use Rattle.std.proofs.lemmas.Bool.{cases_lt}
use Rattle.std.proofs.lemmas.Bool.Decides.{nat_tests}
use Rattle.std.proofs.lemmas.List.{get_or_append_left, get_or-append_right}
use Rattle.disk_model.specs.Image.{Image, range, overlay, SameOutside}
use Rattle.disk_model.proofs.RangeLemmas.{same_range, range_from_offsets, length_range, byte_of_range}

pub overlay_inside : (image : Image) (at : ℕ) (bytes : List ℕ) (k : ℕ) → k < length bytes → overlay image at bytes (at + k) ≡ get_or bytes k 0
unfolding overlay
overlay_inside image at bytes k within = let there : at + k - at ≡ k = omega arith in grind (arith, nat_tests, there)

pub overlay_outside : (image : Image) (at : ℕ) (bytes : List ℕ) → SameOutside at (length bytes) image (overlay image at bytes)
unfolding overlay
overlay_outside image at bytes offset (inl before) = grind (arith, nat_tests)
overlay_outside image at bytes offset (inr after) = grind (arith, nat_tests)

-- an offset is before a range, in it or after it
pub offset_cases : (at n offset : ℕ) → ((offset < at) ⊎ (at + n ≤ offset)) ⊎ ((at ≤ offset) × (offset - at < n))
offset_cases at n offset = elim (cases_lt offset at) [
  | inl before ↦ inl (inl before)
  | inr from ↦ elim (cases_lt offset (at + n)) [
    | inl within ↦ inr (from, omega (arith, from, within))
    | inr after ↦ inl (inr after)
  ]
]

-- an image that has the bytes in the range, and those of the old one elsewhere
pub overlay_is : (old new : Image) (at : ℕ) (bytes : List ℕ) → ((k : ℕ) → k < length bytes → new (at + k) ≡ get_or bytes k 0) → SameOutside at (length bytes) old new
    → (offset : ℕ) → new offset ≡ overlay old at bytes offset
overlay_is old new at bytes inside outside offset = elim (offset_cases at (length bytes) offset) [
  | inl out ↦ outside offset out ∙ sym (overlay_outside old at bytes offset out)
  | inr within ↦
      let there : offset ≡ at + (offset - at) = omega (arith, within.0) in
      ap new there ∙ inside (offset - at) within.1 ∙ sym (overlay_inside old at bytes (offset - at) within.1) ∙ ap (overlay old at bytes) (sym there)
]

-- the bytes of another image, laid into a range
pub laid_inside : (old new : Image) (at n offset : ℕ) → at ≤ offset → offset - at < n → overlay old at (range new at n) offset ≡ new offset
laid_inside old new at n offset from within =
    let there : offset ≡ at + (offset - at) = omega (arith, from) in
    ap (overlay old at (range new at n)) there ∙ overlay_inside old at (range new at n) (offset - at) (omega (arith, within, length_range new at n))
    ∙ byte_of_range new at n (offset - at) within ∙ ap new (sym there)

-- and the rest stays
pub laid_outside : (old new : Image) (at n : ℕ) → SameOutside at n old (overlay old at (range new at n))
laid_outside old new at n offset out =
    overlay_outside old at (range new at n) offset (subst (λ (k : ℕ). (offset < at) ⊎ (at + k ≤ offset)) (sym (length_range new at n)) out)

-- nothing is written
pub overlay_nothing : (image : Image) (at : ℕ) → overlay image at [] ≡ image
overlay_nothing image at = λ i offset. same offset i
  where
    same : (offset : ℕ) → overlay image at [] offset ≡ image offset
    same offset = elim (cases_lt offset at) [
      | inl before ↦ overlay_outside image at [] offset (inl before)
      | inr after ↦ overlay_outside image at [] offset (inr (omega (arith, after)))
    ]

-- the range that was written
pub range_of_overlay : (image : Image) (at n : ℕ) (bytes : List ℕ) → n ≡ length bytes → range (overlay image at bytes) at n ≡ bytes
range_of_overlay image at n bytes whole =
    sym (range_from_offsets (overlay image at bytes) at n bytes (sym whole) (λ k within. sym (overlay_inside image at bytes k (omega (arith, within, whole)))))

-- a range of an image that differs in another range alone
pub range_apart : (old new : Image) (at n from m : ℕ) → SameOutside at n old new → (from + m ≤ at) ⊎ (at + n ≤ from) → range new from m ≡ range old from m
range_apart old new at n from m same (inl before) = same_range new old from m (λ k within. same (from + k) (inl (omega (arith, before, within))))
range_apart old new at n from m same (inr after) = same_range new old from m (λ k within. same (from + k) (inr (omega (arith, after))))

-- a range beside the one that was written
pub range_beside_overlay : (image : Image) (at : ℕ) (bytes : List ℕ) (from m : ℕ) → (from + m ≤ at) ⊎ (at + length bytes ≤ from)
    → range (overlay image at bytes) from m ≡ range image from m
range_beside_overlay image at bytes from m apart =
    range_apart image (overlay image at bytes) at (length bytes) from m (overlay_outside image at bytes) apart

-- two writes, of which the second begins where the first ends, are one
pub overlay_joined : (image : Image) (at next : ℕ) (a b : List ℕ) → next ≡ at + length a → overlay (overlay image at a) next b ≡ overlay image at (a ++ b)
overlay_joined image at next a b follows = λ i offset. same offset i
  where
    size : length (a ++ b) ≡ length a + length b
    size = length-append a b

    first : (k : ℕ) → k < length a → overlay (overlay image at a) next b (at + k) ≡ get_or (a ++ b) k 0
    first k within =
        overlay_outside (overlay image at a) next b (at + k) (inl (omega (arith, follows, within))) ∙ overlay_inside image at a k within
        ∙ sym (get_or_append_left a b 0 k within)

    second : (k : ℕ) → length a ≤ k → k < length (a ++ b) → overlay (overlay image at a) next b (at + k) ≡ get_or (a ++ b) k 0
    second k past within =
        let there : at + k ≡ next + (k - length a) = omega (arith, follows, past) in
        ap (overlay (overlay image at a) next b) there ∙ overlay_inside (overlay image at a) next b (k - length a) (omega (arith, past, within, size))
        ∙ sym (get_or-append_right a b (length a) k 0 refl past)

    inside : (k : ℕ) → k < length (a ++ b) → overlay (overlay image at a) next b (at + k) ≡ get_or (a ++ b) k 0
    inside k within = elim (cases_lt k (length a)) [ inl early ↦ first k early | inr late ↦ second k late within ]

    outside : SameOutside at (length (a ++ b)) image (overlay (overlay image at a) next b)
    outside offset (inl before) =
        overlay_outside (overlay image at a) next b offset (inl (omega (arith, follows, before))) ∙ overlay_outside image at a offset (inl before)
    outside offset (inr after) =
        overlay_outside (overlay image at a) next b offset (inr (omega (arith, follows, after, size))) ∙ overlay_outside image at a offset (inr (omega (arith, after, size)))

    same : (offset : ℕ) → overlay (overlay image at a) next b offset ≡ overlay image at (a ++ b) offset
    same = overlay_is image (overlay (overlay image at a) next b) at (a ++ b) inside outside
