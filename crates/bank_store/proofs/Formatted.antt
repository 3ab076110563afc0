-- What a power loss leaves while a disk is formatted.
use Rattle.std.proofs.Common.{◌≡◌, inl, inr, ℕ, ◌≤◌, Option, Some, None, Result, true, false, refl, sym, ap, subst, ◌∙◌}
use Rattle.std.specs.Prelude.{is_some}
use Rattle.disk_model.specs.Image.{Image}
use Rattle.disk_model.specs.State.{DiskState, IsSettled, Torn}
use Rattle.disk_layout.specs.Offsets.{IsBankSize, slot_a}
use Rattle.disk_layout.specs.declared.identity.Identity.{Identity}
use Rattle.bank_store.specs.DiskWrites.{AddsOnly}
use Rattle.bank_store.specs.Formatting.{IsShut, HoldsTheSame, IsLaidOut, IsOldOrFormatted, WhileFormatting, LeavesOldOrFormatted, ShutsGates}
use Rattle.bank_store.specs.declared.fault.StoreFault.{StoreFault}
use Rattle.bank_store.proofs.Gates.{same_image, opened_or_shut, as_it_was}
use Rattle.bank_store.proofs.Moments.{adds_joined, adds_less, adds_none, leaves_only}
use Rattle.bank_store.proofs.Shutting.{same_holds}

-- a disk that told its content tells it still
pub told_after : (old new : Option Image) (image : Image) → is_some new ≡ is_some old → old ≡ Some image → (later : Image) × (new ≡ Some later)
told_after old (Some later) image tells told = (later, refl)
told_after old None image tells told =
    let is : is_some old ≡ true = ap is_some told in
    let clash : true ≡ false = sym is ∙ sym tells in
    cc

-- Since each moment has only images that were there, or that the calls added, it is enough to look at those.
leaves_old_or_formatted : (id : Identity) (old new : DiskState) → ((t u : ℕ) (image : Image) → old.clock ≤ t → old.between t u image → old.now image)
    → AddsOnly old new (WhileFormatting old.now id) → (IsSettled old → (before : Image) → old.reads ≡ Some before → AddsOnly old new (IsOldOrFormatted before id))
    → LeavesOldOrFormatted id old new
leaves_old_or_formatted id old new only any settled = record {
  settled = λ alone before told. leaves_only old new (IsOldOrFormatted before id) only
      (λ image was. inl (subst (HoldsTheSame before) (sym (same_image image before (sym (alone.only image was) ∙ told))) (same_holds before))) (settled alone before told);
  any = leaves_only old new (WhileFormatting old.now id) only (λ image was. inl (as_it_was old.now image was)) any;
}

pub while_shutting : {T : Type 0} (id : Identity) (old shut : DiskState) (result : Result T StoreFault) → ((t u : ℕ) (image : Image) → old.clock ≤ t → old.between t u image → old.now image)
    → ShutsGates old shut result → LeavesOldOrFormatted id old shut
while_shutting id old shut result only shuts =
    leaves_old_or_formatted id old shut only (adds_less old shut _ _ (λ image is. inl is) shuts.gates)
    (λ alone before told. adds_less old shut _ _ (λ image is. elim is [ inl same ↦ inl same | inr none ↦ inr (inl none) ]) (shuts.holds alone before told))

pub while_laying_out : {T : Type 0} (id : Identity) (old shut laid : DiskState) (result : Result T StoreFault) → ((t u : ℕ) (image : Image) → old.clock ≤ t → old.between t u image → old.now image)
    → ShutsGates old shut result → AddsOnly shut laid (λ image. IsShut image) → LeavesOldOrFormatted id old laid
while_laying_out id old shut laid result only shuts second =
    leaves_old_or_formatted id old laid only (adds_joined old shut laid _ _ _ shuts.gates second (λ image is. inl is) (λ image is. inr (inl is)))
    (λ alone before told. adds_joined old shut laid _ _ _ (shuts.holds alone before told) second
    (λ image is. elim is [ inl same ↦ inl same | inr none ↦ inr (inl none) ]) (λ image is. inr (inl is)))

pub while_opening : {T : Type 0} (id : Identity) (old shut laid new : DiskState) (result : Result T StoreFault) → IsBankSize id.bank
    → ((t u : ℕ) (image : Image) → old.clock ≤ t → old.between t u image → old.now image) → ShutsGates old shut result → AddsOnly shut laid (λ image. IsShut image)
    → ((image : Image) → laid.now image → IsLaidOut id image) → AddsOnly laid new (Torn slot_a 1 laid.now) → LeavesOldOrFormatted id old new
while_opening id old shut laid new result size only shuts second is_laid third =
    leaves_old_or_formatted id old new only
    (adds_joined old laid new _ _ _ (adds_joined old shut laid _ _ (WhileFormatting old.now id) shuts.gates second (λ image is. inl is) (λ image is. inr (inl is))) third
    (λ image is. is) (λ image torn. inr (opened_or_shut id size laid.now is_laid image torn)))
    (λ alone before told. adds_joined old laid new _ _ _
    (adds_joined old shut laid _ _ (IsOldOrFormatted before id) (shuts.holds alone before told) second
    (λ image is. elim is [ inl same ↦ inl same | inr none ↦ inr (inl none) ]) (λ image is. inr (inl is))) third
    (λ image is. is) (λ image torn. inr (opened_or_shut id size laid.now is_laid image torn)))

-- nothing was done yet
pub not_begun : (id : Identity) (disk : DiskState) → ((t u : ℕ) (image : Image) → disk.clock ≤ t → disk.between t u image → disk.now image) → LeavesOldOrFormatted id disk disk
not_begun id disk only =
    leaves_old_or_formatted id disk disk only (adds_none disk _ (λ image was. inl (as_it_was disk.now image was)))
    (λ alone before told. adds_none disk _ (λ image was. inl (subst (HoldsTheSame before) (sym (same_image image before (sym (alone.only image was) ∙ told))) (same_holds before))))
