-- One slot is active, or none is open.
use Rattle.std.proofs.Common.{◌≡◌, ℕ, ◌<◌, ◌≤◌, ◌⊎◌, inl, inr, refl, sym, ◌∙◌, subst, arith}
use Rattle.std.proofs.lemmas.Bool.{cases_lt, cases_eq}
use Rattle.disk_model.specs.Image.{Image}
use Rattle.disk_layout.specs.Offsets.{slot_a, slot_b}
use Rattle.disk_layout.specs.Slots.{IsOpen, IsSlot, IsActiveSlot, sequence_of, slot_offset, bank_number}
use Rattle.disk_layout.specs.declared.active.Slot.{Slot}
use Rattle.disk_layout.specs.declared.active.Slot.TheVariants as slots
use Rattle.disk_layout.specs.declared.active.Bank.{Bank}
use Rattle.disk_layout.specs.declared.active.Bank.TheVariants as banks

-- slot A is active where it is open, and slot B is shut or older or as old
pub a_is_active : (image : Image) → IsOpen image slot_a → (IsOpen image slot_b → sequence_of image slot_b ≤ sequence_of image slot_a) → IsActiveSlot image slot_a
a_is_active image gate older = record {
  is_slot = inl refl;
  gate = gate;
  greatest = λ other is is_open. elim is [
    | inl e ↦ subst (λ (slot : ℕ). sequence_of image slot ≤ sequence_of image slot_a) (sym e) (omega arith)
    | inr e ↦ subst (λ (slot : ℕ). sequence_of image slot ≤ sequence_of image slot_a) (sym e) (older (subst (λ (slot : ℕ). IsOpen image slot) e is_open))
  ];
  tie = λ e. absurd (omega (arith, e));
}

-- slot B is active where it is open, and slot A is shut or older
pub b_is_active : (image : Image) → IsOpen image slot_b → (IsOpen image slot_a → sequence_of image slot_a < sequence_of image slot_b) → IsActiveSlot image slot_b
b_is_active image gate older = record {
  is_slot = inr refl;
  gate = gate;
  greatest = λ other is is_open. elim is [
    | inl e ↦
        let a_older : sequence_of image slot_a < sequence_of image slot_b = older (subst (λ (slot : ℕ). IsOpen image slot) e is_open) in
        subst (λ (slot : ℕ). sequence_of image slot ≤ sequence_of image slot_b) (sym e) (omega (arith, a_older))
    | inr e ↦ subst (λ (slot : ℕ). sequence_of image slot ≤ sequence_of image slot_b) (sym e) (omega arith)
  ];
  tie = λ e a_open. older a_open;
}

a_not_b : (image : Image) → IsActiveSlot image slot_a → IsActiveSlot image slot_b → ⊥
a_not_b image a b =
    let less : sequence_of image slot_a < sequence_of image slot_b = b.tie refl a.gate in
    let more : sequence_of image slot_b ≤ sequence_of image slot_a = a.greatest slot_b (inr refl) b.gate in
    omega (arith, less, more)

-- no two slots are active
pub one_slot : (image : Image) (s t : ℕ) → IsActiveSlot image s → IsActiveSlot image t → s ≡ t
one_slot image s t one two = by_slots one.is_slot two.is_slot
  where
    by_slots : IsSlot s → IsSlot t → s ≡ t
    by_slots (inl e) (inl d) = e ∙ sym d
    by_slots (inl e) (inr d) = absurd (a_not_b image (subst (IsActiveSlot image) e one) (subst (IsActiveSlot image) d two))
    by_slots (inr e) (inl d) = absurd (a_not_b image (subst (IsActiveSlot image) d two) (subst (IsActiveSlot image) e one))
    by_slots (inr e) (inr d) = e ∙ sym d

-- where no slot is open, none is active
pub none_is_active : (image : Image) (slot : ℕ) → ¬ IsOpen image slot_a → ¬ IsOpen image slot_b → IsActiveSlot image slot → ⊥
none_is_active image slot a b rules = elim rules.is_slot [
  | inl e ↦ a (subst (λ (s : ℕ). IsOpen image s) e rules.gate)
  | inr e ↦ b (subst (λ (s : ℕ). IsOpen image s) e rules.gate)
]

-- one is active, or none is open
pub some_slot : (image : Image) → ((slot : ℕ) × IsActiveSlot image slot) ⊎ (¬ IsOpen image slot_a × ¬ IsOpen image slot_b)
some_slot image = by_gates (cases_eq (image slot_a) 0xA5) (cases_eq (image slot_b) 0xA5) (cases_lt (sequence_of image slot_a) (sequence_of image slot_b))
  where
    by_gates : (IsOpen image slot_a ⊎ ¬ IsOpen image slot_a) → (IsOpen image slot_b ⊎ ¬ IsOpen image slot_b)
        → ((sequence_of image slot_a < sequence_of image slot_b) ⊎ (sequence_of image slot_b ≤ sequence_of image slot_a))
        → ((slot : ℕ) × IsActiveSlot image slot) ⊎ (¬ IsOpen image slot_a × ¬ IsOpen image slot_b)
    by_gates (inl a) (inl b) (inl less) = inl (slot_b, b_is_active image b (λ _. less))
    by_gates (inl a) (inl b) (inr more) = inl (slot_a, a_is_active image a (λ _. more))
    by_gates (inl a) (inr b) _ = inl (slot_a, a_is_active image a (λ is_open. absurd (b is_open)))
    by_gates (inr a) (inl b) _ = inl (slot_b, b_is_active image b (λ is_open. absurd (a is_open)))
    by_gates (inr a) (inr b) _ = inr (a, b)

-- the offset of a slot is that of one, and the number of a bank is 0 or 1
pub offset_is_slot : (slot : Slot) → IsSlot (slot_offset slot)
offset_is_slot slots.A = inl refl
offset_is_slot slots.B = inr refl

pub number_below : (bank : Bank) → bank_number bank < 2
number_below banks.Zero = omega arith
number_below banks.One = omega arith
