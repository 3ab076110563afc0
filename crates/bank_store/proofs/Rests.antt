-- What calls of the store leave as it was.
use Rattle.std.proofs.Common.{◌≡◌, ◌⊎◌, inl, inr, ℕ, ◌+◌, ◌<◌, ◌≤◌, length, [], ◌∷◌, sym, ap, ◌∙◌, arith}
use Rattle.std.proofs.lemmas.Bool.{cases_lt}
use Rattle.disk_model.specs.Image.{Image, overlay}
use Rattle.disk_model.specs.State.{DiskState}
use Rattle.disk_model.proofs.OverlayLemmas.{overlay_outside}
use Rattle.disk_layout.specs.Slots.{other_slot}
use Rattle.bank_store.specs.Fits.{MayChange, SameButForWork}
use Rattle.bank_store.specs.Keeps.{IsBeside, LeavesRest}
use Rattle.bank_store.specs.Store.{active_slot}
use Rattle.bank_store.specs.declared.store.Store.{Store}
use Rattle.bank_store.proofs.Gates.{same_image}

-- nothing was read differently
pub rest_unread : (store : Store) (old new : DiskState) → new.reads ≡ old.reads → LeavesRest store old new
rest_unread store old new kept image told now later offset out = ap (λ (i : Image). i offset) (same_image now image (sym later ∙ kept ∙ told))

beside_work : (store : Store) (offset : ℕ) → MayChange store offset → IsBeside store offset
beside_work store offset (inl bank) = inl bank
beside_work store offset (inr body) = inr (omega (arith, body.1), body.2)

-- an installation wrote
pub rest_near : (store : Store) (image now : Image) (offset : ℕ) → SameButForWork store image now → ¬ IsBeside store offset → now offset ≡ image offset
rest_near store image now offset same out = same offset (λ may. out (beside_work store offset may))

-- the other gate was written
pub rest_gate : (store : Store) (image now : Image) (at byte offset : ℕ) → at ≡ other_slot (active_slot store) → now ≡ overlay image at (byte ∷ []) → ¬ IsBeside store offset → now offset ≡ image offset
rest_gate store image now at byte offset is written out = ap (λ (i : Image). i offset) written ∙ overlay_outside image at (byte ∷ []) offset apart
  where
    apart : (offset < at) ⊎ (at + length (byte ∷ []) ≤ offset)
    apart = elim (cases_lt offset at) [
      | inl before ↦ inl before
      | inr from ↦ elim (cases_lt offset (at + 1)) [
        | inl here ↦ absurd (out (inr (omega (arith, is, from), omega (arith, is, here))))
        | inr after ↦ inr after
      ]
    ]
