-- What the parts of a recovery find.
use Rattle.std.specs.Prelude.{◌≡◌, ◌≢◌, ◌⊎◌, ◌↔◌, ℕ, ◌+◌, ◌<◌, ◌≤◌, List, length, Bool, true, Option}
use Rattle.std.specs.Option.{ForSome}
use Rattle.load_base.specs.Config.{LoadView}
use Rattle.crc_fields.specs.CheckSums.{crc16_of}
use Rattle.disk_model.specs.Image.{Image, range}
use Rattle.field_grammar.specs.Grammar.{Spelled, Fault}
use Rattle.disk_layout.specs.Offsets.{IsBankSize, slot_a, slot_b, longest_manifest}
use Rattle.disk_layout.specs.Slots.{slot_offset, IsOpen, IsSlot, IsActiveSlot, IsSlotAt, IsSound}
use Rattle.disk_layout.specs.Contents.{HeaderIsFirst, entry_of}
use Rattle.disk_layout.specs.Manifest.{LoadEntry, manifest, total_length}
use Rattle.disk_layout.specs.DiskReads.{IsOfDisk}
use Rattle.disk_layout.specs.Holds.{HasActiveSlot}
use Rattle.disk_layout.specs.declared.identity.Identity.{Identity}
use Rattle.disk_layout.specs.declared.fault.RecoverFault.{RecoverFault}
use Rattle.disk_layout.specs.declared.fault.RecoverFault.TheVariants.{NoOpenSlot, BadSlot, BadManifest}
use Rattle.disk_layout.specs.declared.manifest.ManifestFault.TheVariants.{Wrong}
use Rattle.disk_layout.specs.declared.slot.SlotFields.{SlotFields}
use Rattle.recovery.specs.declared.slots.ActiveSlot.{ActiveSlot}

-- ---- bytes

-- This is the check sum of this many bytes, those that the disk has from this offset on, where it tells its content.
pub record IsSumAt (reads : Option Image) (at count sum : ℕ) : Type 0 where
  pub bytes : List ℕ
  pub size : length bytes ≡ count
  pub are_there : ForSome reads (λ image. bytes ≡ range image at count)
  pub is_sum : sum ≡ crc16_of bytes

-- ---- the slots

-- whether another slot than this one is open
abbrev pub TellsOther : Image → ℕ → Bool → Type 0
TellsOther image at open_too = (other : ℕ) → IsSlot other → other ≢ at → (open_too ≡ true) ↔ IsOpen image other

-- this slot is active, and says this
pub record IsActiveSlotOn (image : Image) (active_slot : ActiveSlot) : Type 0 where
  pub is_active : IsActiveSlot image (slot_offset active_slot.slot)
  pub says : IsSlotAt image (slot_offset active_slot.slot) active_slot.says
  pub other : TellsOther image (slot_offset active_slot.slot) active_slot.other_is_open

-- neither slot is open, or the disk or memory failed
abbrev pub RefusesSlots : Image → RecoverFault → Type 0
RefusesSlots image fault = IsOfDisk fault ⊎ (¬ IsOpen image slot_a × ¬ IsOpen image slot_b × (fault ≡ NoOpenSlot))

-- this slot is active on the disk of this target
pub record IsActiveSlotOfTarget (image : Image) (id : Identity) (active_slot : ActiveSlot) : Type 0 where
  pub has_active : HasActiveSlot image id (slot_offset active_slot.slot)
  pub says : IsSlotAt image (slot_offset active_slot.slot) active_slot.says
  pub other : TellsOther image (slot_offset active_slot.slot) active_slot.other_is_open

-- what the slot says can be on a disk with banks of this size
abbrev pub IsSoundFor : (size : ℕ) → SlotFields → Type 0
IsSoundFor size slot = IsSound size slot.bank slot.manifest.offset slot.manifest.length

-- a bank has this size, and in one such the slot can name a manifest
pub record CanNameManifest (bank_size : ℕ) (slot : SlotFields) : Type 0 where
  pub size : IsBankSize bank_size
  pub sound : IsSoundFor bank_size slot

-- the first that can't be in what the slot at this offset says
pub data RefusesSlot (size at : ℕ) (slot : SlotFields) (fault : RecoverFault) : Type 0 where
  other_bank : 2 ≤ slot.bank → fault ≡ BadSlot (at + 20) → RefusesSlot size at slot fault
  long : slot.bank < 2 → longest_manifest < slot.manifest.length → fault ≡ BadSlot (at + 25) → RefusesSlot size at slot fault
  past : slot.bank < 2 → slot.manifest.length ≤ longest_manifest → size < slot.manifest.offset + slot.manifest.length → fault ≡ BadSlot (at + 21) → RefusesSlot size at slot fault

-- ---- the manifest

-- a load has a file at least, its header
abbrev pub HasAFile : LoadEntry → Type 0
HasAFile entry = 1 ≤ length entry.files

-- a load as the manifest tells it, whose header is its first file
pub record IsLoadOfEntry (load : LoadView) (told : LoadEntry) : Type 0 where
  pub entry : entry_of load ≡ told
  pub header : HeaderIsFirst load

-- these bytes, which begin at an offset of the disk, are no manifest from one offset on, or the disk or memory failed
abbrev pub IsNoManifest : List ℕ → (start : ℕ) → RecoverFault → Type 0
IsNoManifest bytes start fault = IsOfDisk fault ⊎ ((offset : ℕ) × Fault manifest bytes (Wrong offset) × (fault ≡ BadManifest (start + offset)))

-- the lengths of its files don't add up to its offset in the bank
pub record HasOtherLengths (bytes : List ℕ) (start offset : ℕ) (fault : RecoverFault) : Type 0 where
  pub loads : List LoadEntry
  pub spelled : Spelled manifest bytes loads
  pub differ : total_length loads ≢ offset
  pub is : fault ≡ BadManifest start

-- either of both
abbrev pub RefusesLoads : List ℕ → (start offset : ℕ) → RecoverFault → Type 0
RefusesLoads bytes start offset fault = IsNoManifest bytes start fault ⊎ HasOtherLengths bytes start offset fault

-- the same of bytes of the disk
abbrev pub RefusesManifest : Image → (start size offset : ℕ) → RecoverFault → Type 0
RefusesManifest image start size offset fault = RefusesLoads (range image start size) start offset fault
