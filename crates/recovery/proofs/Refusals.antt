-- What the parts find and refuse, as what the whole survey does.
use Rattle.std.proofs.Common.{◌≡◌, ℕ, ◌+◌, List, inl, inr, refl, sym, ap, ◌∙◌}
use Rattle.disk_model.specs.Image.{Image, range}
use Rattle.field_grammar.specs.Grammar.{Spelled}
use Rattle.disk_layout.specs.Offsets.{bank_at}
use Rattle.disk_layout.specs.Identity.{HasIdentity}
use Rattle.disk_layout.specs.Slots.{bank_of, IsSlotAt}
use Rattle.disk_layout.specs.Manifest.{LoadEntry, manifest, total_length}
use Rattle.disk_layout.specs.DiskReads.{IsOfDisk}
use Rattle.disk_layout.specs.Holds.{IsSoundSlot, IsBadSlot, HasActiveSlot, manifest_at, manifest_of, HasOutline, Refuses}
use Rattle.disk_layout.specs.Holds.IsBadSlot.{no_such_bank, too_long, past_the_bank}
use Rattle.disk_layout.specs.Holds.HasDiskFault.{no_open_slot, bad_slot, bad_manifest, other_lengths}
use Rattle.disk_layout.specs.declared.identity.Identity.{Identity}
use Rattle.disk_layout.specs.declared.fault.RecoverFault.{RecoverFault}
use Rattle.disk_layout.specs.declared.fault.RecoverFault.TheVariants.{NotFormatted, NoOpenSlot, BadSlot, BadManifest, DiskFailed, Memory}
use Rattle.disk_layout.specs.declared.slot.SlotFields.{SlotFields}
use Rattle.recovery.specs.Parts.{RefusesSlots, IsSoundFor, RefusesSlot, RefusesManifest}
use Rattle.recovery.specs.Parts.RefusesSlot.{other_bank, long, past}

-- a fault of the disk says nothing of the image
pub of_disk : (image : Image) (fault : RecoverFault) → IsOfDisk fault → Refuses image fault
of_disk image DiskFailed is = tt
of_disk image Memory is = tt
of_disk image (NotFormatted offset) is = absurd is
of_disk image NoOpenSlot is = absurd is
of_disk image (BadSlot offset) is = absurd is
of_disk image (BadManifest offset) is = absurd is

-- ---- no slot is active

pub slots_refuse : (image : Image) (id : Identity) (fault : RecoverFault) → HasIdentity image id → RefusesSlots image fault → Refuses image fault
slots_refuse image id fault has (inl is) = of_disk image fault is
slots_refuse image id fault has (inr none) = rw none.2 (no_open_slot id has none.0 none.1 refl)

-- ---- the active slot can be or not

pub can_be : (image : Image) (id : Identity) (at : ℕ) (slot : SlotFields) → IsSlotAt image at slot → IsSoundFor id.bank slot → IsSoundSlot image id at
can_be image id at slot is can = record {
  is_bank = rw (← is.bank) can.is_bank;
  short = rw (← is.length) can.short;
  within = rw (← is.offset, ← is.length) can.within;
}

refuses_bad : (image : Image) (id : Identity) (at offset : ℕ) (fault : RecoverFault) → HasActiveSlot image id at → IsBadSlot image id at offset → fault ≡ BadSlot offset → Refuses image fault
refuses_bad image id at offset fault has_active bad is = rw is (bad_slot id at offset has_active bad refl)

pub slot_refuses : (image : Image) (id : Identity) (at : ℕ) (slot : SlotFields) (fault : RecoverFault) → HasActiveSlot image id at → IsSlotAt image at slot
    → RefusesSlot id.bank at slot fault → Refuses image fault
slot_refuses image id at slot fault has_active says (other_bank bank is) = refuses_bad image id at (at + 20) fault has_active (no_such_bank (rw (← says.bank) bank) refl) is
slot_refuses image id at slot fault has_active says (long bank size is) =
    refuses_bad image id at (at + 25) fault has_active (too_long (rw (← says.bank) bank) (rw (← says.length) size) refl) is
slot_refuses image id at slot fault has_active says (past bank size end is) =
    refuses_bad image id at (at + 21) fault has_active (past_the_bank (rw (← says.bank) bank) (rw (← says.length) size) (rw (← says.offset, ← says.length) end) refl) is

-- ---- the manifest that it names

-- where the slot says that the manifest begins
start_is : (image : Image) (id : Identity) (at : ℕ) (slot : SlotFields) → IsSlotAt image at slot → bank_at id.bank slot.bank + slot.manifest.offset ≡ manifest_at image id at
start_is image id at slot is =
    ap (λ (b : ℕ). bank_at id.bank b + slot.manifest.offset) is.bank ∙ ap (λ (p : ℕ). bank_at id.bank (bank_of image at) + p) is.offset

-- the bytes that it names
bytes_are : (image : Image) (id : Identity) (at : ℕ) (slot : SlotFields) → IsSlotAt image at slot
    → range image (bank_at id.bank slot.bank + slot.manifest.offset) slot.manifest.length ≡ manifest_of image id at
bytes_are image id at slot is =
    ap (λ (p : ℕ). range image p slot.manifest.length) (start_is image id at slot is) ∙ ap (λ (n : ℕ). range image (manifest_at image id at) n) is.length

pub manifest_refuses : (image : Image) (id : Identity) (at : ℕ) (slot : SlotFields) (fault : RecoverFault) → HasActiveSlot image id at → IsSoundSlot image id at → IsSlotAt image at slot
    → RefusesManifest image (bank_at id.bank slot.bank + slot.manifest.offset) slot.manifest.length slot.manifest.offset fault → Refuses image fault
manifest_refuses image id at slot fault has_active can says (inl (inl is)) = of_disk image fault is
manifest_refuses image id at slot fault has_active can says (inl (inr wrong)) =
    let (offset, faulty, is) = wrong in
    rw is (bad_manifest id at offset has_active can (rw (bytes_are image id at slot says) at faulty) (ap (λ (p : ℕ). BadManifest (p + offset)) (start_is image id at slot says)))
manifest_refuses image id at slot fault has_active can says (inr other) =
    rw other.is (
    other_lengths id at other.loads has_active can (rw (bytes_are image id at slot says) at other.spelled) (λ same. other.differ (same ∙ sym says.offset))
    (ap (λ (p : ℕ). BadManifest p) (start_is image id at slot says))
    )

-- ---- all of it

pub has_outline : (image : Image) (id : Identity) (at : ℕ) (slot : SlotFields) (loads : List LoadEntry) → HasActiveSlot image id at → IsSoundFor id.bank slot → IsSlotAt image at slot
    → Spelled manifest (range image (bank_at id.bank slot.bank + slot.manifest.offset) slot.manifest.length) loads → total_length loads ≡ slot.manifest.offset
    → HasOutline image at (record { identity = id; bank = slot.bank; sequence = slot.sequence; loads = loads })
has_outline image id at slot loads has_active can says spelled lengths = record {
  has_active = has_active;
  can_be = can_be image id at slot says can;
  bank = says.bank;
  sequence = says.sequence;
  manifest = rw (bytes_are image id at slot says) at spelled;
  lengths = lengths ∙ says.offset;
}
