-- What an image of a disk holds, and why it holds nothing (docs/DISK.md).
use Rattle.std.specs.Prelude.{◌≡◌, ◌≢◌, ℕ, ◌+◌, ◌<◌, ◌≤◌, List}
use Rattle.load_base.specs.Config.{LoadView, loads_view}
use Rattle.disk_model.specs.Image.{Image, range}
use Rattle.field_grammar.specs.Grammar.{Spelled, Fault}
use Rattle.disk_layout.specs.Offsets.{slot_a, slot_b, bank_at, longest_manifest}
use Rattle.disk_layout.specs.Identity.{HasIdentity, HasNoIdentity}
use Rattle.disk_layout.specs.Slots.{IsOpen, IsSound, IsActiveSlot, sequence_of, bank_of, manifest_offset_of, manifest_length_of}
use Rattle.disk_layout.specs.Manifest.{LoadEntry, manifest, total_length}
use Rattle.disk_layout.specs.Contents.{entries_of, contents_of_loads, HeadersAreFirst}
use Rattle.disk_layout.specs.declared.identity.Identity.{Identity}
use Rattle.disk_layout.specs.declared.standing.Standing.{Standing}
use Rattle.disk_layout.specs.declared.fault.RecoverFault.{RecoverFault}
use Rattle.disk_layout.specs.declared.fault.RecoverFault.TheVariants.{NotFormatted, NoOpenSlot, BadSlot, BadManifest, DiskFailed, Memory}
use Rattle.disk_layout.specs.declared.manifest.ManifestFault.TheVariants.{Wrong}

-- a standing without the spare capacity of its lists
pub record StandingView : Type 0 where
  pub identity : Identity
  pub bank : ℕ
  pub sequence : ℕ
  pub loads : List LoadView

abbrev pub standing_view : Standing → StandingView
standing_view s = record { identity = s.identity; bank = s.bank; sequence = s.sequence; loads = loads_view s.config }

-- what can be said of a standing without its contents: the loads by their part numbers, and the names and lengths of
-- their files
pub record Outline : Type 0 where
  pub identity : Identity
  pub bank : ℕ
  pub sequence : ℕ
  pub loads : List LoadEntry

abbrev pub outline_of : StandingView → Outline
outline_of s = record { identity = s.identity; bank = s.bank; sequence = s.sequence; loads = entries_of s.loads }

-- ---- the active slot

-- what the slot at this offset says can be on the disk
abbrev pub IsSoundSlot : Image → Identity → (slot : ℕ) → Type 0
IsSoundSlot image id slot = IsSound id.bank (bank_of image slot) (manifest_offset_of image slot) (manifest_length_of image slot)

-- the first of these that can't be, and the offset on the disk of what says so: the bank, the length, and the offset
pub data IsBadSlot (image : Image) (id : Identity) (slot offset : ℕ) : Type 0 where
  no_such_bank : 2 ≤ bank_of image slot → offset ≡ slot + 20 → IsBadSlot image id slot offset
  too_long : bank_of image slot < 2 → longest_manifest < manifest_length_of image slot → offset ≡ slot + 25 → IsBadSlot image id slot offset
  past_the_bank : bank_of image slot < 2 → manifest_length_of image slot ≤ longest_manifest
      → id.bank < manifest_offset_of image slot + manifest_length_of image slot → offset ≡ slot + 21 → IsBadSlot image id slot offset

-- the target, and the active slot on its disk
pub record HasActiveSlot (image : Image) (id : Identity) (slot : ℕ) : Type 0 where
  pub identity : HasIdentity image id
  pub is_active : IsActiveSlot image slot

-- ---- the manifest

-- where the manifest that a slot names begins on the disk
abbrev pub manifest_at : Image → Identity → ℕ → ℕ
manifest_at image id slot = bank_at id.bank (bank_of image slot) + manifest_offset_of image slot

-- the bytes of that manifest
abbrev pub manifest_of : Image → Identity → ℕ → List ℕ
manifest_of image id slot = range image (manifest_at image id slot) (manifest_length_of image slot)

-- ---- the configuration that an image holds

-- This slot is active, what it says can be, and the manifest that it names spells these loads, whose files have as many
-- bytes as stand before it in the bank.
pub record HasOutline (image : Image) (slot : ℕ) (o : Outline) : Type 0 where
  pub has_active : HasActiveSlot image o.identity slot
  pub can_be : IsSoundSlot image o.identity slot
  pub bank : o.bank ≡ bank_of image slot
  pub sequence : o.sequence ≡ sequence_of image slot
  pub manifest : Spelled manifest (manifest_of image o.identity slot) o.loads
  pub lengths : total_length o.loads ≡ manifest_offset_of image slot

-- By this slot the image holds a configuration: it has its outline, each load's header is its first file, and the
-- files stand in the bank, back to back from its start on.
pub record HoldsBy (image : Image) (slot : ℕ) (s : StandingView) : Type 0 where
  pub outline : HasOutline image slot (outline_of s)
  pub headers : HeadersAreFirst s.loads
  pub contents : contents_of_loads s.loads ≡ range image (bank_at s.identity.bank s.bank) (manifest_offset_of image slot)

-- the configuration that an image holds
pub record HoldsConfig (image : Image) (s : StandingView) : Type 0 where
  pub slot : ℕ
  pub by : HoldsBy image slot s

-- the first condition of a standing that fails
pub data HasDiskFault (image : Image) (f : RecoverFault) : Type 0 where
  not_formatted : (offset : ℕ) → HasNoIdentity image offset → f ≡ NotFormatted offset → HasDiskFault image f
  no_open_slot : (id : Identity) → HasIdentity image id → ¬ IsOpen image slot_a → ¬ IsOpen image slot_b → f ≡ NoOpenSlot → HasDiskFault image f
  bad_slot : (id : Identity) (slot offset : ℕ) → HasActiveSlot image id slot → IsBadSlot image id slot offset → f ≡ BadSlot offset → HasDiskFault image f
  bad_manifest : (id : Identity) (slot offset : ℕ) → HasActiveSlot image id slot → IsSoundSlot image id slot
      → Fault manifest (manifest_of image id slot) (Wrong offset) → f ≡ BadManifest (manifest_at image id slot + offset) → HasDiskFault image f
  other_lengths : (id : Identity) (slot : ℕ) (loads : List LoadEntry) → HasActiveSlot image id slot → IsSoundSlot image id slot
      → Spelled manifest (manifest_of image id slot) loads → total_length loads ≢ manifest_offset_of image slot → f ≡ BadManifest (manifest_at image id slot)
      → HasDiskFault image f

-- A refusal of recovery names the condition that fails; one of the disk, or because it is out of memory, says nothing of the image.
abbrev pub Refuses : Image → RecoverFault → Type 0
Refuses image DiskFailed = Unit {0}
Refuses image Memory = Unit {0}
Refuses image f = HasDiskFault image f
