-- What the parts of the search find and refuse, as what a former configuration is.
use Rattle.std.proofs.Common.{◌≡◌, inl, inr, ℕ, ◌+◌, ◌<◌, ◌≤◌, ◌^◌, List, length, refl, sym, ◌∙◌, ap, subst, arith}
use Rattle.load_base.specs.Config.{LoadView}
use Rattle.field_grammar.specs.Grammar.{Spelled}
use Rattle.disk_model.specs.Image.{Image, range}
use Rattle.disk_layout.specs.Contents.{HeadersAreFirst, contents_of_loads, entries_of}
use Rattle.disk_layout.specs.Offsets.{bank_at}
use Rattle.disk_layout.specs.DiskReads.{IsOfDisk}
use Rattle.disk_layout.specs.Holds.{HasOutline, HoldsBy, Outline, Refuses, StandingView, outline_of}
use Rattle.disk_layout.specs.Manifest.{LoadEntry, manifest, total_length}
use Rattle.disk_layout.proofs.ManifestLemmas.{fault_has_offset}
use Rattle.disk_layout.proofs.SlotLemmas.{offset_is_slot}
use Rattle.disk_layout.specs.Slots.{IsOpen, IsSlot, IsSlotAt, other_bank, other_slot, slot_offset}
use Rattle.disk_layout.specs.declared.active.Active.{Active}
use Rattle.disk_layout.specs.declared.active.Slot.{Slot}
use Rattle.disk_layout.specs.declared.fault.RecoverFault.{RecoverFault}
use Rattle.disk_layout.specs.declared.fault.RecoverFault.TheVariants as recovers
use Rattle.disk_layout.specs.declared.identity.Identity.{Identity}
use Rattle.disk_layout.specs.declared.manifest.ManifestFault.{ManifestFault}
use Rattle.disk_layout.specs.declared.manifest.ManifestFault.TheVariants.{Wrong}
use Rattle.disk_layout.specs.declared.slot.SlotFields.{SlotFields}
use Rattle.recovery.specs.FormerParts.{IsActiveOn, IsOfDiskOrMemory, IsOfSlot, IsOlderSlot, IsSeen, RefusesOlder, RefusesOlderSlot}
use Rattle.recovery.specs.FormerParts.RefusesOlder.{is_shut, as_new, same_bank}
use Rattle.recovery.specs.Formers.{HasNoFormer, HasOlderSlot, HoldsFormer, LacksFormer, RefusesFormer, other_fault_of, without_slot}
use Rattle.recovery.specs.Formers.LacksFormer.{slot_is_shut, not_older, not_other_bank, holds_none}
use Rattle.recovery.specs.Parts.{IsSoundFor, RefusesLoads, RefusesManifest, RefusesSlot}
use Rattle.recovery.specs.Parts.RefusesSlot.{other_bank as wrong_bank, long, past}
use Rattle.recovery.specs.declared.former_fault.FormerFault.{FormerFault}
use Rattle.recovery.specs.declared.former_fault.FormerFault.TheVariants as formers
use Rattle.recovery.proofs.Refusals.{has_outline}
use Rattle.recovery.proofs.WithoutSlot.{banks_stay, identity_stays, other_is_active, other_says}

-- ---- faults of a slot

pub disk_of_slot : (fault : RecoverFault) → IsOfDisk fault → IsOfSlot fault
disk_of_slot recovers.DiskFailed is = tt
disk_of_slot recovers.Memory is = tt
disk_of_slot (recovers.NotFormatted offset) is = absurd is
disk_of_slot recovers.NoOpenSlot is = absurd is
disk_of_slot (recovers.BadSlot offset) is = absurd is
disk_of_slot (recovers.BadManifest offset) is = absurd is

same_offset : (a b : ℕ) → ◌≡◌ {A = ManifestFault} (Wrong a) (Wrong b) → a ≡ b
same_offset a b e = cc

pub loads_of_slot : (bytes : List ℕ) (start contents : ℕ) (fault : RecoverFault) → start + length bytes < 2 ^ 32 → RefusesLoads bytes start contents fault → IsOfSlot fault
loads_of_slot bytes start contents fault within (inl (inl is)) = disk_of_slot fault is
loads_of_slot bytes start contents fault within (inl (inr wrong)) =
    let (offset, faulty, is) = wrong in
    let (found, same, short) = fault_has_offset bytes (Wrong offset) faulty in
    rw is (omega (arith, within, short, same_offset offset found same))
loads_of_slot bytes start contents fault within (inr other) = rw other.is (omega (arith, within))

low : (slot : ℕ) → IsSlot slot → slot ≤ 4608
low slot (inl e) = omega (arith, e)
low slot (inr e) = omega (arith, e)

pub slot_of_slot : (size : ℕ) (slot : Slot) (says : SlotFields) (fault : RecoverFault) → RefusesSlot size (slot_offset slot) says fault → IsOfSlot fault
slot_of_slot size slot says fault (wrong_bank bank is) = let at = low (slot_offset slot) (offset_is_slot slot) in rw is (omega (arith, at))
slot_of_slot size slot says fault (long bank size_is is) = let at = low (slot_offset slot) (offset_is_slot slot) in rw is (omega (arith, at))
slot_of_slot size slot says fault (past bank short end is) = let at = low (slot_offset slot) (offset_is_slot slot) in rw is (omega (arith, at))

-- ---- the configuration that a slot names

pub manifest_seen : (image seen : Image) (id : Identity) (at : ℕ) (says : SlotFields) (fault : RecoverFault) → IsSeen image seen id at says
    → RefusesManifest image (bank_at id.bank says.bank + says.manifest.offset) says.manifest.length says.manifest.offset fault
    → RefusesManifest seen (bank_at id.bank says.bank + says.manifest.offset) says.manifest.length says.manifest.offset fault
manifest_seen image seen id at says fault is refuses =
    let start = bank_at id.bank says.bank + says.manifest.offset in
    subst (λ (bytes : List ℕ). RefusesLoads bytes start says.manifest.offset fault) (sym (is.banks start says.manifest.length (omega arith))) refuses

pub standing_seen : (image seen : Image) (id : Identity) (at : ℕ) (says : SlotFields) (entries : List LoadEntry) (loads : List LoadView) → IsSeen image seen id at says → IsSoundFor id.bank says
    → Spelled manifest (range image (bank_at id.bank says.bank + says.manifest.offset) says.manifest.length) entries → total_length entries ≡ says.manifest.offset
    → entries_of loads ≡ entries → HeadersAreFirst loads → contents_of_loads loads ≡ range image (bank_at id.bank says.bank) (total_length entries)
    → HoldsBy seen at (record { identity = id; bank = says.bank; sequence = says.sequence; loads = loads })
standing_seen image seen id at says entries loads is sound spelled lengths are headers contents =
    let bank = bank_at id.bank says.bank in
    let start = bank + says.manifest.offset in
    let there : Spelled manifest (range seen start says.manifest.length) entries =
    subst (λ (bytes : List ℕ). Spelled manifest bytes entries) (sym (is.banks start says.manifest.length (omega arith))) spelled in
    record {
      outline = subst (λ (l : List LoadEntry). HasOutline seen at (record { identity = id; bank = says.bank; sequence = says.sequence; loads = l })) (sym are)
          (has_outline seen id at says entries is.has_active sound is.says there lengths);
      headers = headers;
      contents = contents ∙ ap (λ (n : ℕ). range image bank n) (lengths ∙ is.says.offset) ∙ sym (is.banks bank _ (omega arith));
    }

-- ---- beside what is active

-- the law of disk_layout
abbrev Filled : Type 0
Filled = (image : Image) (slot : ℕ) (o : Outline) → HasOutline image slot o → (s : StandingView) × HoldsBy image slot s × (outline_of s ≡ o)

pub disk_refuses : (image : Image) (fault : FormerFault) → IsOfDiskOrMemory fault → RefusesFormer image fault
disk_refuses image formers.DiskFailed is = tt
disk_refuses image formers.Memory is = tt
disk_refuses image (formers.Recover fault) is = absurd is
disk_refuses image formers.SlotClosed is = absurd is
disk_refuses image (formers.SlotBad offset) is = absurd is
disk_refuses image (formers.ManifestBad offset) is = absurd is

module _ (filled : Filled) (image : Image) (id : Identity) (active : Active) (on : IsActiveOn image id active) where
  abbrev slot : ℕ
  slot = slot_offset active.slot

  abbrev other : ℕ
  other = other_slot (slot_offset active.slot)

  none_since : (fault : FormerFault) → LacksFormer image slot fault → HasNoFormer image fault
  none_since fault lacks =
      let (s, by, is) = filled image slot _ on.outline in
      record { slot = slot; active = s; by = by; lacks = lacks }

  older_refused : (says : SlotFields) (fault : FormerFault) → IsSlotAt image other says → RefusesOlder active other says fault → RefusesFormer image fault
  older_refused says fault is (is_shut gate e) = rw e (none_since formers.SlotClosed (slot_is_shut (λ opened. gate (is.gate ∙ opened)) refl))
  older_refused says fault is (as_new gate newer e) =
      rw e (none_since (formers.SlotBad (other + 16)) (not_older (sym is.gate ∙ gate) (omega (arith, newer, on.outline.sequence, is.sequence)) refl))
  older_refused says fault is (same_bank gate older differ e) =
      rw e (none_since (formers.SlotBad (other + 20)) (not_other_bank (sym is.gate ∙ gate) (omega (arith, older, on.outline.sequence, is.sequence))
      (λ same. differ (is.bank ∙ same ∙ ap other_bank (sym on.outline.bank))) refl))

  pub slot_refused : (fault : FormerFault) → RefusesOlderSlot image active fault → RefusesFormer image fault
  slot_refused fault (inl is) = disk_refuses image fault is
  slot_refused fault (inr (says, is, refuses)) = older_refused says fault is refuses

  module _ (says : SlotFields) (is : IsSlotAt image other says) (tests : IsOlderSlot active says) where
    is_slot : IsSlot slot
    is_slot = offset_is_slot active.slot

    opened : IsOpen image other
    opened = sym is.gate ∙ tests.gate

    older : HasOlderSlot image slot
    older = record {
      gate = opened;
      older = omega (arith, tests.older, on.outline.sequence, is.sequence);
      bank = sym is.bank ∙ tests.bank ∙ ap other_bank on.outline.bank;
    }

    -- the image without the active slot, as the rest of the search sees it
    pub seen_without : IsSeen image (without_slot slot image) id other says
    seen_without = record {
      has_active = record { identity = identity_stays slot image is_slot id on.outline.has_active.identity; is_active = other_is_active slot image is_slot opened };
      says = other_says slot image is_slot says is;
      banks = banks_stay slot image is_slot;
    }

    pub former_found : (former : StandingView) → HoldsBy (without_slot slot image) other former → (found : HoldsFormer image former) × (found.slot ≡ slot)
    former_found former held =
        let (s, by, same) = filled image slot _ on.outline in
        (record { slot = slot; active = s; by = by; older = older; holds = record { slot = other; by = held } }, refl)

    pub former_refused : (fault : RecoverFault) → IsOfSlot fault → Refuses (without_slot slot image) fault → RefusesFormer image (other_fault_of fault)
    former_refused recovers.DiskFailed of_slot refuses = tt
    former_refused recovers.Memory of_slot refuses = tt
    former_refused (recovers.NotFormatted offset) of_slot refuses = absurd of_slot
    former_refused recovers.NoOpenSlot of_slot refuses = absurd of_slot
    former_refused (recovers.BadSlot offset) of_slot refuses = none_since (formers.SlotBad offset) (holds_none (recovers.BadSlot offset) older refuses refl)
    former_refused (recovers.BadManifest offset) of_slot refuses = none_since (formers.ManifestBad offset) (holds_none (recovers.BadManifest offset) older refuses refl)
