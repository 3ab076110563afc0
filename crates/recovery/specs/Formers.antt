-- The former configuration of a disk, which its other slot still names (docs/DISK.md, "The former configuration").
use Rattle.std.specs.Prelude.{◌≡◌, ◌≢◌, ◌⊎◌, ℕ, ◌+◌, ◌<◌, ◌≤◌, List, [], ◌∷◌, Result, OnOk, IfErr, codes, ⊤}
use Rattle.printed_text.specs.FaultTexts.{coded}
use Rattle.disk_model.specs.Image.{Image, overlay}
use Rattle.disk_model.specs.State.{DiskState, OnlyReads}
use Rattle.disk_layout.specs.DiskReads.{HasDiskCause, IsOutOfMemory, RunsOn}
use Rattle.disk_layout.specs.Faults.{recover_fault_text}
use Rattle.disk_layout.specs.Slots.{IsOpen, other_slot, other_bank, sequence_of, bank_of, manifest_offset_of, manifest_length_of}
use Rattle.disk_layout.specs.Holds.{StandingView, HoldsBy, HoldsConfig, HasDiskFault, standing_view}
use Rattle.disk_layout.specs.declared.active.ManifestRange.{ManifestRange}
use Rattle.disk_layout.specs.declared.fault.RecoverFault.{RecoverFault}
use Rattle.disk_layout.specs.declared.fault.RecoverFault.TheVariants as recovers
use Rattle.recovery.specs.declared.former_config.Former.{Former}
use Rattle.recovery.specs.declared.former_fault.FormerFault.{FormerFault}
use Rattle.recovery.specs.declared.former_fault.FormerFault.TheVariants as formers

-- ---- what the other slot has to be

-- the image with this slot shut
abbrev pub without_slot : (slot : ℕ) → Image → Image
without_slot slot image = overlay image slot (0 ∷ [])

-- Beside the active slot, which begins here, the other one is open too, its sequence number is lower, and it names the other
-- bank.
pub record HasOlderSlot (image : Image) (slot : ℕ) : Type 0 where
  pub gate : IsOpen image (other_slot slot)
  pub older : sequence_of image (other_slot slot) < sequence_of image slot
  pub bank : bank_of image (other_slot slot) ≡ other_bank (bank_of image slot)

-- ---- the former configuration

-- The former configuration is what the disk would hold without its active slot, where the other slot is older.
pub record HoldsFormer (image : Image) (former : StandingView) : Type 0 where
  pub slot : ℕ
  pub active : StandingView
  pub by : HoldsBy image slot active
  pub older : HasOlderSlot image slot
  pub holds : HoldsConfig (without_slot slot image) former

-- It is found, with the range of its manifest as the other slot names it.
pub record FindsFormer (image : Image) (found : Former) : Type 0 where
  pub former : HoldsFormer image (standing_view found.standing)
  pub offset : found.place ≡ manifest_offset_of image (other_slot former.slot)
  pub length : found.length ≡ manifest_length_of image (other_slot former.slot)

-- that range
abbrev pub manifest_range_of : Former → ManifestRange
manifest_range_of found = record { offset = found.place; length = found.length }

-- ---- why there is none

-- a fault of the other slot or of its manifest, in the words of what is former; that slot is open, on the disk of the same
-- target, so that no other fault comes
abbrev pub other_fault_of : RecoverFault → FormerFault
other_fault_of (recovers.BadSlot offset) = formers.SlotBad offset
other_fault_of (recovers.BadManifest offset) = formers.ManifestBad offset
other_fault_of recovers.DiskFailed = formers.DiskFailed
other_fault_of recovers.Memory = formers.Memory
other_fault_of fault = formers.Recover fault

-- The first of the conditions on the other slot that fails, where the slot that begins here is active: its gate, its sequence
-- number, its bank; and then what it says of the manifest, and the manifest.
pub data LacksFormer (image : Image) (slot : ℕ) (fault : FormerFault) : Type 0 where
  slot_is_shut : ¬ IsOpen image (other_slot slot) → fault ≡ formers.SlotClosed → LacksFormer image slot fault
  not_older : IsOpen image (other_slot slot) → sequence_of image slot ≤ sequence_of image (other_slot slot) → fault ≡ formers.SlotBad (other_slot slot + 16) → LacksFormer image slot fault
  not_other_bank : IsOpen image (other_slot slot) → sequence_of image (other_slot slot) < sequence_of image slot
      → bank_of image (other_slot slot) ≢ other_bank (bank_of image slot) → fault ≡ formers.SlotBad (other_slot slot + 20) → LacksFormer image slot fault
  holds_none : (of_disk : RecoverFault) → HasOlderSlot image slot → HasDiskFault (without_slot slot image) of_disk → fault ≡ other_fault_of of_disk → LacksFormer image slot fault

-- The image holds a configuration, and for this reason no former one.
pub record HasNoFormer (image : Image) (fault : FormerFault) : Type 0 where
  pub slot : ℕ
  pub active : StandingView
  pub by : HoldsBy image slot active
  pub lacks : LacksFormer image slot fault

-- A refusal names the condition that fails; one of the disk, or because it is out of memory, says nothing of the image.
abbrev pub RefusesFormer : Image → FormerFault → Type 0
RefusesFormer image formers.DiskFailed = Unit {0}
RefusesFormer image formers.Memory = Unit {0}
RefusesFormer image (formers.Recover fault) = HasDiskFault image fault
RefusesFormer image fault = HasNoFormer image fault

-- ---- faults

-- a fault of what is active
abbrev pub active_fault_of : RecoverFault → FormerFault
active_fault_of recovers.DiskFailed = formers.DiskFailed
active_fault_of recovers.Memory = formers.Memory
active_fault_of fault = formers.Recover fault

-- a failure of the disk, and out of memory, have names of their own, and are told by these
abbrev pub HasOwnName : FormerFault → Type 0
HasOwnName (formers.Recover recovers.DiskFailed) = ⊥
HasOwnName (formers.Recover recovers.Memory) = ⊥
HasOwnName fault = ⊤

-- the code and its offset; a failure of the disk and out of memory are told otherwise
abbrev pub former_fault_text : FormerFault → List ℕ
former_fault_text (formers.Recover fault) = recover_fault_text fault
former_fault_text formers.SlotClosed = coded (codes "G1") []
former_fault_text (formers.SlotBad offset) = coded (codes "G2") (offset ∷ [])
former_fault_text (formers.ManifestBad offset) = coded (codes "G3") (offset ∷ [])
former_fault_text formers.DiskFailed = []
former_fault_text formers.Memory = []

-- ---- what looking for it does to the disk

-- a fault of what stands on the disk leaves the disk running, and so does out of memory where it isn't the disk's
abbrev pub RunsOnAfterFormer : DiskState → DiskState → FormerFault → Type 0
RunsOnAfterFormer old new formers.DiskFailed = Unit {0}
RunsOnAfterFormer old new formers.Memory = RunsOn old new ⊎ IsOutOfMemory old new
RunsOnAfterFormer old new fault = RunsOn old new

-- Nothing is written. The disk runs on unless a call of it was refused, and each of its refusals has its cause.
pub record ReadsFormer {T : Type 0} (old new : DiskState) (result : Result T FormerFault) : Type 0 where
  pub only_reads : OnlyReads old new
  pub ok : OnOk result (RunsOn old new)
  pub err : IfErr result (λ fault. RunsOnAfterFormer old new fault)
  pub cause : HasDiskCause formers.DiskFailed old new result
