-- Each image that holds a configuration holds one former one, or lacks it for one reason.
use Rattle.std.proofs.Common.{◌≡◌, ◌⊎◌, inl, inr, ℕ, ◌+◌, ◌<◌, ◌≤◌, refl, sym, ap, subst, ◌∙◌, arith}
use Rattle.std.proofs.lemmas.Bool.{cases_lt, cases_eq}
use Rattle.disk_model.specs.Image.{Image, IsOfBytes}
use Rattle.disk_layout.specs.Slots.{IsOpen, other_slot, other_bank, sequence_of, bank_of}
use Rattle.disk_layout.proofs.SlotLemmas.{one_slot}
use Rattle.disk_layout.specs.Holds.{StandingView, HoldsBy, HoldsConfig, HasDiskFault}
use Rattle.disk_layout.specs.declared.fault.RecoverFault.{RecoverFault}
use Rattle.recovery.specs.Formers.{HasOlderSlot, HoldsFormer, LacksFormer, HasNoFormer, other_fault_of, without_slot}
use Rattle.recovery.specs.Formers.LacksFormer.{slot_is_shut, not_older, not_other_bank, holds_none}
use Rattle.recovery.specs.declared.former_fault.FormerFault.{FormerFault}
use Rattle.recovery.specs.declared.former_fault.FormerFault.TheVariants as formers
use Rattle.recovery.proofs.WithoutSlot.{still_bytes}

-- one slot is active
pub same_active : (image : Image) (one other : ℕ) (s t : StandingView) → HoldsBy image one s → HoldsBy image other t → one ≡ other
same_active image one other s t a b = one_slot image one other a.outline.has_active.is_active b.outline.has_active.is_active

-- beside an older slot nothing is lacking but a configuration
lacks_one : (image : Image) (slot : ℕ) (f : FormerFault) → HasOlderSlot image slot → LacksFormer image slot f
    → (fault : RecoverFault) × HasDiskFault (without_slot slot image) fault × (f ≡ other_fault_of fault)
lacks_one image slot f older (slot_is_shut shut e) = absurd (shut older.gate)
lacks_one image slot f older (not_older gate more e) = absurd (let less = older.older in omega (arith, less, more))
lacks_one image slot f older (not_other_bank gate less differ e) = absurd (differ older.bank)
lacks_one image slot f older (holds_none fault o has e) = (fault, has, e)

-- the four facts of what an image holds, which are those of the law of disk_layout
module _
    (one_or_other : (image : Image) → IsOfBytes image → ((s : StandingView) × HoldsConfig image s) ⊎ ((f : RecoverFault) × HasDiskFault image f))
    (not_both : (image : Image) (s : StandingView) (f : RecoverFault) → HoldsConfig image s → HasDiskFault image f → ⊥)
    (one_standing : (image : Image) (s t : StandingView) → HoldsConfig image s → HoldsConfig image t → s ≡ t)
    (one_fault : (image : Image) (f g : RecoverFault) → HasDiskFault image f → HasDiskFault image g → f ≡ g) where
  abbrev FormerOrNone : Image → Type 0
  FormerOrNone image = ((s : StandingView) × HoldsFormer image s) ⊎ ((f : FormerFault) × HasNoFormer image f)

  pub former_or_none : (image : Image) (active : StandingView) → IsOfBytes image → HoldsConfig image active → FormerOrNone image
  former_or_none image active are holds = by_gate (cases_eq (image other) 0xA5)
    where
      slot : ℕ
      slot = holds.slot

      other : ℕ
      other = other_slot holds.slot

      lacking : (f : FormerFault) → LacksFormer image slot f → FormerOrNone image
      lacking f lacks = inr (f, record { slot = slot; active = active; by = holds.by; lacks = lacks })

      by_rest : HasOlderSlot image slot → ((s : StandingView) × HoldsConfig (without_slot slot image) s) ⊎ ((f : RecoverFault) × HasDiskFault (without_slot slot image) f) → FormerOrNone image
      by_rest older (inl (s, held)) = inl (s, record { slot = slot; active = active; by = holds.by; older = older; holds = held })
      by_rest older (inr (fault, has)) = lacking (other_fault_of fault) (holds_none fault older has refl)

      by_bank : IsOpen image other → sequence_of image other < sequence_of image slot → (bank_of image other ≡ other_bank (bank_of image slot)) ⊎ ¬ (bank_of image other ≡ other_bank (bank_of image slot)) → FormerOrNone image
      by_bank gate less (inl same) = by_rest (record { gate = gate; older = less; bank = same }) (one_or_other (without_slot slot image) (still_bytes image slot are))
      by_bank gate less (inr differ) = lacking (formers.SlotBad (other + 20)) (not_other_bank gate less differ refl)

      by_sequence : IsOpen image other → (sequence_of image other < sequence_of image slot) ⊎ (sequence_of image slot ≤ sequence_of image other) → FormerOrNone image
      by_sequence gate (inl less) = by_bank gate less (cases_eq (bank_of image other) (other_bank (bank_of image slot)))
      by_sequence gate (inr more) = lacking (formers.SlotBad (other + 16)) (not_older gate more refl)

      by_gate : IsOpen image other ⊎ ¬ IsOpen image other → FormerOrNone image
      by_gate (inl gate) = by_sequence gate (cases_lt (sequence_of image other) (sequence_of image slot))
      by_gate (inr shut) = lacking formers.SlotClosed (slot_is_shut shut refl)

  pub not_former_and_none : (image : Image) (s : StandingView) (f : FormerFault) → HoldsFormer image s → HasNoFormer image f → ⊥
  not_former_and_none image s f a b =
      let same : b.slot ≡ a.slot = same_active image b.slot a.slot b.active a.active b.by a.by in
      let (fault, has, e) = lacks_one image a.slot f a.older (subst (λ (n : ℕ). LacksFormer image n f) same b.lacks) in
      not_both (without_slot a.slot image) s fault a.holds has

  pub one_former : (image : Image) (s t : StandingView) → HoldsFormer image s → HoldsFormer image t → s ≡ t
  one_former image s t a b =
      let same : b.slot ≡ a.slot = same_active image b.slot a.slot b.active a.active b.by a.by in
      one_standing (without_slot a.slot image) s t a.holds (subst (λ (n : ℕ). HoldsConfig (without_slot n image) t) same b.holds)

  one_lack : (image : Image) (slot : ℕ) (f g : FormerFault) → LacksFormer image slot f → LacksFormer image slot g → f ≡ g
  one_lack image slot f g (slot_is_shut shut e) (slot_is_shut shut_too d) = e ∙ sym d
  one_lack image slot f g (slot_is_shut shut e) (not_older gate more d) = absurd (shut gate)
  one_lack image slot f g (slot_is_shut shut e) (not_other_bank gate less differ d) = absurd (shut gate)
  one_lack image slot f g (slot_is_shut shut e) (holds_none fault older has d) = absurd (shut older.gate)
  one_lack image slot f g (not_older gate more e) (slot_is_shut shut d) = absurd (shut gate)
  one_lack image slot f g (not_older gate more e) (not_older gate_too more_too d) = e ∙ sym d
  one_lack image slot f g (not_older gate more e) (not_other_bank gate_too less differ d) = absurd (omega (arith, more, less))
  one_lack image slot f g (not_older gate more e) (holds_none fault older has d) = absurd (let less = older.older in omega (arith, more, less))
  one_lack image slot f g (not_other_bank gate less differ e) (slot_is_shut shut d) = absurd (shut gate)
  one_lack image slot f g (not_other_bank gate less differ e) (not_older gate_too more d) = absurd (omega (arith, more, less))
  one_lack image slot f g (not_other_bank gate less differ e) (not_other_bank gate_too less_too differ_too d) = e ∙ sym d
  one_lack image slot f g (not_other_bank gate less differ e) (holds_none fault older has d) = absurd (differ older.bank)
  one_lack image slot f g (holds_none fault older has e) lacks =
      let (other, has_too, d) = lacks_one image slot g older lacks in
      e ∙ ap other_fault_of (one_fault (without_slot slot image) fault other has has_too) ∙ sym d

  pub one_reason : (image : Image) (f g : FormerFault) → HasNoFormer image f → HasNoFormer image g → f ≡ g
  one_reason image f g a b =
      let same : b.slot ≡ a.slot = same_active image b.slot a.slot b.active a.active b.by a.by in
      one_lack image a.slot f g a.lacks (subst (λ (n : ℕ). LacksFormer image n g) same b.lacks)
