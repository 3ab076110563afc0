-- What the parts of the search for a former configuration find.
use Rattle.std.specs.Prelude.{◌≡◌, ◌≢◌, ◌⊎◌, ℕ, ◌+◌, ◌<◌, ◌≤◌, ◌^◌, List, ⊤}
use Rattle.disk_model.specs.Image.{Image, range}
use Rattle.disk_layout.specs.Slots.{IsSlotAt, bank_number, other_bank, other_slot, slot_offset}
use Rattle.disk_layout.specs.Holds.{HasActiveSlot, HasOutline}
use Rattle.disk_layout.specs.Manifest.{LoadEntry}
use Rattle.disk_layout.specs.declared.active.Active.{Active}
use Rattle.disk_layout.specs.declared.fault.RecoverFault.{RecoverFault}
use Rattle.disk_layout.specs.declared.fault.RecoverFault.TheVariants as recovers
use Rattle.disk_layout.specs.declared.identity.Identity.{Identity}
use Rattle.disk_layout.specs.declared.slot.SlotFields.{SlotFields}
use Rattle.recovery.specs.Surveys.{outline_with}
use Rattle.recovery.specs.declared.former_fault.FormerFault.{FormerFault}
use Rattle.recovery.specs.declared.former_fault.FormerFault.TheVariants as formers

-- this is active, on the disk of this target, with some loads
pub record IsActiveOn (image : Image) (id : Identity) (active : Active) : Type 0 where
  pub loads : List LoadEntry
  pub outline : HasOutline image (slot_offset active.slot) (outline_with id active loads)

-- A slot that says this is open, and older than what is active, and of the other bank.
pub record IsOlderSlot (active : Active) (says : SlotFields) : Type 0 where
  pub gate : says.gate ≡ 0xA5
  pub older : says.sequence < active.sequence
  pub bank : says.bank ≡ other_bank (bank_number active.bank)

-- the first of these that the slot at this offset isn't
pub data RefusesOlder (active : Active) (at : ℕ) (says : SlotFields) (fault : FormerFault) : Type 0 where
  is_shut : says.gate ≢ 0xA5 → fault ≡ formers.SlotClosed → RefusesOlder active at says fault
  as_new : says.gate ≡ 0xA5 → active.sequence ≤ says.sequence → fault ≡ formers.SlotBad (at + 16) → RefusesOlder active at says fault
  same_bank : says.gate ≡ 0xA5 → says.sequence < active.sequence → says.bank ≢ other_bank (bank_number active.bank) → fault ≡ formers.SlotBad (at + 20) → RefusesOlder active at says fault

-- the disk or memory failed: the fault says nothing of what stands on the disk
abbrev pub IsOfDiskOrMemory : FormerFault → Type 0
IsOfDiskOrMemory formers.DiskFailed = ⊤
IsOfDiskOrMemory formers.Memory = ⊤
IsOfDiskOrMemory fault = ⊥

-- the same of the other slot of an image, or the disk or memory failed
abbrev pub RefusesOlderSlot : Image → Active → FormerFault → Type 0
RefusesOlderSlot image active fault =
    IsOfDiskOrMemory fault ⊎ ((says : SlotFields) × IsSlotAt image (other_slot (slot_offset active.slot)) says × RefusesOlder active (other_slot (slot_offset active.slot)) says fault)

-- Another image with the same banks, on which this slot is active and says this.
pub record IsSeen (image seen : Image) (id : Identity) (slot : ℕ) (fields : SlotFields) : Type 0 where
  pub has_active : HasActiveSlot seen id slot
  pub says : IsSlotAt seen slot fields
  pub banks : (at count : ℕ) → 8192 ≤ at → range seen at count ≡ range image at count

-- a fault of a slot that is open on the disk of a target, of its manifest, or of the disk or memory; the offset that it names
-- fits four bytes
abbrev pub IsOfSlot : RecoverFault → Type 0
IsOfSlot (recovers.NotFormatted offset) = ⊥
IsOfSlot recovers.NoOpenSlot = ⊥
IsOfSlot (recovers.BadSlot offset) = offset < 2 ^ 32
IsOfSlot (recovers.BadManifest offset) = offset < 2 ^ 32
IsOfSlot recovers.DiskFailed = ⊤
IsOfSlot recovers.Memory = ⊤
