-- Images with bytes written over them.
use Rattle.std.proofs.Common.{◌≡◌, ℕ, ◌+◌, ◌≤◌, ◌⊎◌, List, length, Option, Some, None, true, false, inl, inr, refl, sym, ap, ◌∙◌, arith}
use Rattle.std.specs.Prelude.{is_some}
use Rattle.disk_model.specs.Image.{Image, range, overlay, SameOutside}
use Rattle.disk_model.proofs.OverlayLemmas.{overlay_inside}
use Rattle.disk_model.proofs.RangeLemmas.{range_from_offsets, same_range}

-- the bytes that were written stand there
pub written : (image : Image) (at : ℕ) (bytes : List ℕ) → range (overlay image at bytes) at (length bytes) ≡ bytes
written image at bytes =
    sym (range_from_offsets (overlay image at bytes) at (length bytes) bytes refl (λ k within. sym (overlay_inside image at bytes k within)))

-- a range apart from a change is as it was
pub apart : (before after : Image) (at n offset m : ℕ) → SameOutside at n before after → (offset + m ≤ at) ⊎ (at + n ≤ offset) → range after offset m ≡ range before offset m
apart before after at n offset m same (inl early) = same_range after before offset m (λ k within. same (offset + k) (inl (omega (arith, early, within))))
apart before after at n offset m same (inr late) = same_range after before offset m (λ k within. same (offset + k) (inr (omega (arith, late, within))))

-- a disk that tells its content now told it before
pub told_before : (old new : Option Image) (image : Image) → is_some new ≡ is_some old → new ≡ Some image → (before : Image) × (old ≡ Some before)
told_before (Some before) new image tells told = (before, refl)
told_before None new image tells told =
    let is : is_some new ≡ true = ap is_some told in
    let clash : true ≡ false = sym is ∙ tells in
    cc
