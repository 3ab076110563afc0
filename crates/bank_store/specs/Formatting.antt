-- What formatting leaves on a disk (docs/DISK.md).
use Rattle.std.specs.Prelude.{◌≡◌, ◌⊎◌, ◌↔◌, ℕ, [], ◌∷◌, ◌+◌, ◌<◌, ◌≤◌, length, Result, OnOk}
use Rattle.std.specs.Option.{ForSome}
use Rattle.disk_model.specs.Image.{Image, range, overlay}
use Rattle.disk_model.specs.Moments.{LeavesOnly}
use Rattle.disk_model.specs.State.{DiskState, IsSettled}
use Rattle.disk_layout.specs.Offsets.{slot_a, slot_b, bank_at}
use Rattle.disk_layout.specs.Identity.{HasIdentity, identity_text}
use Rattle.disk_layout.specs.Slots.{IsOpen, IsActiveSlot, slot_offset, other_slot, sequence_of, bank_of, manifest_offset_of, manifest_length_of}
use Rattle.disk_layout.specs.Holds.{StandingView, HoldsConfig}
use Rattle.disk_layout.specs.declared.active.Slot.{Slot}
use Rattle.disk_layout.specs.declared.identity.Identity.{Identity}
use Rattle.bank_store.specs.DiskWrites.{AddsOnly}
use Rattle.bank_store.specs.declared.fault.StoreFault.{StoreFault}
use Rattle.bank_store.specs.declared.formatting.OpenSlots.{OpenSlots}
use Rattle.bank_store.specs.declared.formatting.OpenSlots.TheVariants.{Neither, One, Both}

-- a target with bank 0, sequence 1 and no loads
abbrev pub formatted : Identity → StandingView
formatted id = record { identity = id; bank = 0; sequence = 1; loads = [] }

-- neither slot is open, so that the image holds nothing
pub record IsShut (image : Image) : Type 0 where
  pub a : ¬ IsOpen image slot_a
  pub b : ¬ IsOpen image slot_b

-- one of these images, but for the two gates, which may be anything
pub record GatesTorn (images : Image → Type 0) (image : Image) : Type 0 where
  pub before : Image
  pub was : images before
  pub same : (offset : ℕ) → ¬ (offset ≡ slot_a) → ¬ (offset ≡ slot_b) → image offset ≡ before offset

-- What a power loss may leave while a disk is formatted: what it might have left before, but for the gates; an image
-- that holds nothing, since both are shut; or the formatted disk.
abbrev pub WhileFormatting : (Image → Type 0) → Identity → Image → Type 0
WhileFormatting images id image = GatesTorn images image ⊎ (IsShut image ⊎ HoldsConfig image (formatted id))

-- it holds the configuration that the other image holds, and none where that holds none
abbrev pub HoldsTheSame : Image → Image → Type 0
HoldsTheSame before image = (s : StandingView) → HoldsConfig image s ↔ HoldsConfig before s

-- the old configuration, nothing, since both gates are shut, or the formatted disk
abbrev pub IsOldOrFormatted : Image → Identity → Image → Type 0
IsOldOrFormatted before id image = HoldsTheSame before image ⊎ (IsShut image ⊎ HoldsConfig image (formatted id))

-- What a power loss might leave since formatting began: on a disk that was settled the old configuration whole, nothing,
-- or the formatted disk; and on any disk at least what there was but for the gates, nothing, or the formatted disk.
pub record LeavesOldOrFormatted (id : Identity) (old new : DiskState) : Type 0 where
  pub settled : IsSettled old → ForSome old.reads (λ before. LeavesOnly old.clock (IsOldOrFormatted before id) new)
  pub any : LeavesOnly old.clock (WhileFormatting old.now id) new

-- ---- the parts

-- neither slot is open, and all that a formatted disk has stands there but for the open gate
pub record IsLaidOut (id : Identity) (image : Image) : Type 0 where
  pub shut : IsShut image
  pub identity : HasIdentity image id
  pub sequence : sequence_of image slot_a ≡ 1
  pub bank : bank_of image slot_a ≡ 0
  pub offset : manifest_offset_of image slot_a ≡ 0
  pub length : manifest_length_of image slot_a ≡ 4
  pub manifest : range image (bank_at id.bank 0) 4 ≡ 160 ∷ 2 ∷ 0 ∷ 0 ∷ []

-- which slots are open
abbrev pub AreOpen : Image → OpenSlots → Type 0
AreOpen image Neither = IsShut image
AreOpen image (One slot) = IsOpen image (slot_offset slot) × ¬ IsOpen image (other_slot (slot_offset slot))
AreOpen image (Both active) = IsActiveSlot image (slot_offset active) × IsOpen image (other_slot (slot_offset active))

-- all but the two gates is the same
abbrev pub SameButForGates : Image → Image → Type 0
SameButForGates before image = (offset : ℕ) → ¬ (offset ≡ slot_a) → ¬ (offset ≡ slot_b) → image offset ≡ before offset

-- The gates are shut: with Ok neither slot is open, whatever a power loss leaves, and all else is as it was. Meanwhile a
-- power loss leaves what there was but for the gates, and of a settled disk the old configuration, or nothing.
pub record ShutsGates {T : Type 0} (old new : DiskState) (result : Result T StoreFault) : Type 0 where
  pub shut : OnOk result ((image : Image) → new.now image → IsShut image)
  pub rest : OnOk result (ForSome old.reads (λ before. ForSome new.reads (λ image. SameButForGates before image)))
  pub gates : AddsOnly old new (GatesTorn old.now)
  pub holds : IsSettled old → ForSome old.reads (λ before. AddsOnly old new (λ image. HoldsTheSame before image ⊎ IsShut image))

-- ---- the changes

-- the image with this byte as the gate of a slot
abbrev pub with_gate : Slot → (byte : ℕ) → Image → Image
with_gate slot byte image = overlay image (slot_offset slot) (byte ∷ [])

-- the image with an empty manifest, slot A's body from its sequence on (sequence 1, bank 0, and a manifest of 4 bytes at
-- its start), and an identity
abbrev pub laid_out : Identity → Image → Image
laid_out id image =
    overlay (overlay (overlay image 8192 (160 ∷ 2 ∷ 0 ∷ 0 ∷ [])) 4112 (0 ∷ 0 ∷ 0 ∷ 1 ∷ 0 ∷ 0 ∷ 0 ∷ 0 ∷ 0 ∷ 0 ∷ 0 ∷ 0 ∷ 4 ∷ [])) 0 (identity_text id)

-- formatting writes nothing at this offset
pub record IsUntouched (id : Identity) (offset : ℕ) : Type 0 where
  pub identity : length (identity_text id) ≤ offset
  pub a : ¬ (offset ≡ slot_a)
  pub b : ¬ (offset ≡ slot_b)
  pub body : (offset < slot_a + 16) ⊎ (slot_a + 29 ≤ offset)
  pub manifest : (offset < 8192) ⊎ (8196 ≤ offset)

-- all else stays
abbrev pub KeepsRest : Identity → Image → Image → Type 0
KeepsRest id before after = (offset : ℕ) → IsUntouched id offset → after offset ≡ before offset
