-- The two slots of a disk, which say what its banks hold (docs/DISK.md).
use Rattle.std.specs.Prelude.{◌≡◌, ◌⊎◌, ℕ, ◌+◌, ◌-◌, ◌<◌, ◌≤◌, List, [], ◌∷◌, ◌++◌}
use Rattle.field_grammar.specs.Fields.{number_bytes}
use Rattle.disk_model.specs.Image.{Image, range}
use Rattle.disk_layout.specs.Offsets.{slot_a, slot_b, longest_manifest, number_at}
use Rattle.disk_layout.specs.declared.active.Slot.{Slot}
use Rattle.disk_layout.specs.declared.active.Slot.TheVariants as slots
use Rattle.disk_layout.specs.declared.active.Bank.{Bank}
use Rattle.disk_layout.specs.declared.active.Bank.TheVariants as banks
use Rattle.disk_layout.specs.declared.active.ManifestRange.{ManifestRange}
use Rattle.disk_layout.specs.declared.slot.SlotFields.{SlotFields}

-- where a slot begins
abbrev pub slot_offset : Slot → ℕ
slot_offset slots.A = slot_a
slot_offset slots.B = slot_b

-- where the slot begins that isn't the one which begins here
abbrev pub other_slot : ℕ → ℕ
other_slot slot = slot_a + slot_b - slot

abbrev pub bank_number : Bank → ℕ
bank_number banks.Zero = 0
bank_number banks.One = 1

-- the bank that isn't this one
abbrev pub other_bank : ℕ → ℕ
other_bank bank = 1 - bank

-- the manifest isn't too long, and lies in a bank of this size
pub record IsManifestRange (size : ℕ) (manifest : ManifestRange) : Type 0 where
  pub short : manifest.length ≤ longest_manifest
  pub within : manifest.offset + manifest.length ≤ size

-- a slot counts exactly where its gate is open
abbrev pub IsOpen : Image → ℕ → Type 0
IsOpen image slot = image slot ≡ 0xA5

-- its sequence number, which is one greater at each change of the configuration
abbrev pub sequence_of : Image → ℕ → ℕ
sequence_of image slot = number_at 4 image (slot + 16)

-- the bank that it names
abbrev pub bank_of : Image → ℕ → ℕ
bank_of image slot = image (slot + 20)

-- where its manifest begins, counted from the bank's start
abbrev pub manifest_offset_of : Image → ℕ → ℕ
manifest_offset_of image slot = number_at 4 image (slot + 21)

-- the bytes of its manifest
abbrev pub manifest_length_of : Image → ℕ → ℕ
manifest_length_of image slot = number_at 4 image (slot + 25)

abbrev pub IsSlot : ℕ → Type 0
IsSlot slot = (slot ≡ slot_a) ⊎ (slot ≡ slot_b)

-- the open slot with the greatest sequence is active, and slot A where both have the same
pub record IsActiveSlot (image : Image) (slot : ℕ) : Type 0 where
  pub is_slot : IsSlot slot
  pub gate : IsOpen image slot
  pub greatest : (other : ℕ) → IsSlot other → IsOpen image other → sequence_of image other ≤ sequence_of image slot
  pub tie : slot ≡ slot_b → IsOpen image slot_a → sequence_of image slot_a < sequence_of image slot_b

-- what the slot at this offset says
pub record IsSlotAt (image : Image) (at : ℕ) (slot : SlotFields) : Type 0 where
  pub gate : slot.gate ≡ image at
  pub sequence : slot.sequence ≡ sequence_of image at
  pub bank : slot.bank ≡ bank_of image at
  pub offset : slot.manifest.offset ≡ manifest_offset_of image at
  pub length : slot.manifest.length ≡ manifest_length_of image at

-- What a slot says can be on a disk with banks of this size: its bank is one of the two, and its manifest isn't too
-- long and lies in the bank.
pub record IsSound (size bank offset length : ℕ) : Type 0 where
  pub is_bank : bank < 2
  pub short : length ≤ longest_manifest
  pub within : offset + length ≤ size

-- the body of a slot that says this, from its sequence number on
abbrev pub slot_body_bytes : (sequence bank : ℕ) → ManifestRange → List ℕ
slot_body_bytes sequence bank manifest = number_bytes 4 sequence ++ (bank ∷ []) ++ number_bytes 4 manifest.offset ++ number_bytes 4 manifest.length

-- such a body stands in the slot at this offset
abbrev pub HasBody : Image → (at sequence bank : ℕ) → ManifestRange → Type 0
HasBody image at sequence bank manifest = range image (at + 16) 13 ≡ slot_body_bytes sequence bank manifest
