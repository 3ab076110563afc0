-- A store that keeps what has_active.
use Rattle.std.proofs.Common.{◌≡◌, inl, inr, ℕ, ◌+◌, ◌<◌, ◌≤◌, sym, ◌∙◌, ap, ap₂, subst}
use Rattle.disk_model.specs.Image.{Image}
use Rattle.disk_layout.specs.Offsets.{bank_at}
use Rattle.disk_layout.specs.Slots.{IsOpen, slot_offset, bank_number, manifest_offset_of, manifest_length_of}
use Rattle.disk_layout.specs.declared.active.Active.{Active}
use Rattle.disk_layout.specs.Holds.{StandingView, HoldsBy}
use Rattle.disk_layout.specs.Slots.{other_slot}
use Rattle.disk_layout.specs.Slots.{other_bank}
use Rattle.bank_store.specs.Store.{active_slot, active_bank, active_sequence, work_at, SameActive}
use Rattle.bank_store.specs.Fits.{HoldsFor, MayChange, SameButForWork}
use Rattle.bank_store.specs.declared.store.Store.{Store}

-- the parts of what is active
pub same_slot : {old new : Store} → SameActive old new → (active_slot new) ≡ (active_slot old)
same_slot same = ap (λ (a : Active). slot_offset a.slot) same.active

pub same_bank : {old new : Store} → SameActive old new → (active_bank new) ≡ (active_bank old)
same_bank same = ap (λ (a : Active). bank_number a.bank) same.active

pub same_sequence : {old new : Store} → SameActive old new → (active_sequence new) ≡ (active_sequence old)
same_sequence same = ap (λ (a : Active). a.sequence) same.active

-- the numbers of its manifest
pub offset_carried : (old new : Store) (image : Image) → SameActive old new → manifest_offset_of image (active_slot old) ≡ old.active.manifest.offset
    → manifest_offset_of image (active_slot new) ≡ new.active.manifest.offset
offset_carried old new image same was = subst (λ (a : Active). manifest_offset_of image (slot_offset a.slot) ≡ a.manifest.offset) (sym same.active) was

pub length_carried : (old new : Store) (image : Image) → SameActive old new → manifest_length_of image (active_slot old) ≡ old.active.manifest.length
    → manifest_length_of image (active_slot new) ≡ new.active.manifest.length
length_carried old new image same was = subst (λ (a : Active). manifest_length_of image (slot_offset a.slot) ≡ a.manifest.length) (sym same.active) was

pub work_carried : (old new : Store) → SameActive old new → work_at new ≡ work_at old
work_carried old new rules = ap₂ (λ (s : ℕ) (b : ℕ). bank_at s (other_bank b)) rules.size (same_bank rules)

module _ (old new : Store) (rules : SameActive old new) (gate : new.other_is_open ≡ old.other_is_open) where
  may_carried : (offset : ℕ) → MayChange old offset → MayChange new offset
  may_carried offset (inl bank) = inl (
    subst (λ (w : ℕ). w ≤ offset) (sym (work_carried old new rules)) bank.0,
    subst (λ (n : ℕ). offset < n) (sym (ap₂ (λ (w : ℕ) (s : ℕ). w + s) (work_carried old new rules) rules.size)) bank.1,
  )
  may_carried offset (inr body) = inr (
    gate ∙ body.0,
    subst (λ (s : ℕ). other_slot s < offset) (sym (same_slot rules)) body.1,
    subst (λ (s : ℕ). offset < other_slot s + 29) (sym (same_slot rules)) body.2,
  )

  pub near_carried : (one other : Image) → SameButForWork old one other → SameButForWork new one other
  near_carried one other same offset out = same offset (λ may. out (may_carried offset may))

  pub stands_carried : (image : Image) (s : StandingView) → HoldsFor old image s → HoldsFor new image s
  stands_carried image s was = record {
    by = subst (λ (n : ℕ). HoldsBy image n s) (sym (same_slot rules)) was.by;
    bank = was.bank ∙ sym (same_bank rules);
    sequence = was.sequence ∙ sym (same_sequence rules);
    size = was.size ∙ sym rules.size;
    offset = offset_carried old new image rules was.offset;
    length = length_carried old new image rules was.length;
    known = rules.known ∙ was.known;
    gate = record {
      open_there = λ is. subst (λ (n : ℕ). IsOpen image (other_slot n)) (sym (same_slot rules)) (was.gate.open_there (sym gate ∙ is));
      shut_there = λ is there. was.gate.shut_there (sym gate ∙ is) (subst (λ (n : ℕ). IsOpen image (other_slot n)) (same_slot rules) there);
    };
  }
