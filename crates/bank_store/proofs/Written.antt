-- What calls of the store write.
use Rattle.std.proofs.Common.{◌≡◌, ◌⊎◌, inl, inr, ℕ, ◌+◌, ◌<◌, ◌≤◌, List, [], ◌∷◌, length, Option, Some, true, false, refl, sym, ap, ap₂, ◌∙◌, arith}
use Rattle.std.proofs.lemmas.Bool.{cases_lt}
use Rattle.disk_model.specs.Image.{Image, overlay}
use Rattle.disk_model.proofs.OverlayLemmas.{overlay_outside}
use Rattle.disk_layout.specs.Slots.{other_slot}
use Rattle.bank_store.specs.Store.{active_slot, IsFilling, work_at, manifest_length, with_gate_shut, with_piece, with_manifest, with_slot}
use Rattle.bank_store.specs.declared.stage.Filling.{Filling}
use Rattle.bank_store.specs.declared.store.Store.{Store}
use Rattle.bank_store.proofs.Giving.{same_filling}

abbrev pub told_as : Image → Option Image
told_as image = Some image

pub shut_kept : (store : Store) (image : Image) → store.other_is_open ≡ false → told_as image ≡ told_as (with_gate_shut store image)
shut_kept store image shut = rw shut refl

pub shut_written : (store : Store) (image : Image) (at : ℕ) → store.other_is_open ≡ true → at ≡ other_slot (active_slot store) → told_as (overlay image at (0 ∷ [])) ≡ told_as (with_gate_shut store image)
shut_written store image at opened is = rw opened (ap (λ (n : ℕ). told_as (overlay image n (0 ∷ []))) is)

-- no bytes change nothing
nothing_laid : (image : Image) (at : ℕ) (bytes : List ℕ) → length bytes ≡ 0 → image ≡ overlay image at bytes
nothing_laid image at bytes none = λ i offset. sym (overlay_outside image at bytes offset (apart offset)) i
  where
    apart : (offset : ℕ) → (offset < at) ⊎ (at + length bytes ≤ offset)
    apart offset = elim (cases_lt offset at) [ inl before ↦ inl before | inr from ↦ inr (omega (arith, from, none)) ]

pub no_piece : (store : Store) (progress : Filling) (image : Image) (bytes : List ℕ) → length bytes ≡ 0 → told_as image ≡ told_as (with_piece store progress bytes image)
no_piece store progress image bytes none = ap told_as (nothing_laid image (work_at store + progress.end) bytes none)

pub piece_written : (store : Store) (progress other : Filling) (image : Image) (bytes : List ℕ) (at : ℕ) → at ≡ work_at store → IsFilling store progress → IsFilling store other
    → told_as (overlay image (at + progress.end) bytes) ≡ told_as (with_piece store other bytes image)
piece_written store progress other image bytes at is filling too =
    ap₂ (λ (n : ℕ) (f : Filling). told_as (overlay image (n + f.end) bytes)) is (same_filling progress other (sym filling ∙ too))

pub seal_written : (store : Store) (progress other : Filling) (image : Image) (length : ℕ) → length ≡ manifest_length store → IsFilling store progress → IsFilling store other
    → told_as (with_slot store progress.end length (with_manifest store progress image)) ≡ told_as (with_slot store other.end (manifest_length store) (with_manifest store other image))
seal_written store progress other image length is filling too =
    ap₂ (λ (n : ℕ) (f : Filling). told_as (with_slot store f.end n (with_manifest store f image))) is (same_filling progress other (sym filling ∙ too))
