-- The slot that is active, from what both slots say.
use Rattle.std.proofs.Common.{◌≡◌, ◌≢◌, ℕ, ◌<◌, ◌≤◌, ◌⊎◌, Bool, true, false, nat_eq, inl, inr, sym, ap, ◌∙◌}
use Rattle.std.proofs.lemmas.Bool.{cases_lt, eqb-true, eq-eqb}
use Rattle.disk_model.specs.Image.{Image}
use Rattle.disk_layout.specs.Offsets.{slot_a, slot_b}
use Rattle.disk_layout.specs.Slots.{IsOpen, IsSlot, IsActiveSlot, IsSlotAt}
use Rattle.disk_layout.proofs.SlotLemmas.{a_is_active, b_is_active}
use Rattle.disk_layout.specs.declared.active.Slot.TheVariants as slots
use Rattle.disk_layout.specs.declared.slot.SlotFields.{SlotFields}
use Rattle.recovery.specs.Parts.{TellsOther, IsActiveSlotOn}

-- slot A is open, and slot B isn't both open and of a greater sequence
abbrev pub IsActiveOver : SlotFields → SlotFields → Type 0
IsActiveOver a b = (a.gate ≡ 0xA5) × (b.gate ≡ 0xA5 → b.sequence ≤ a.sequence)

first_is_active : (image : Image) (a b : SlotFields) → IsSlotAt image slot_a a → IsSlotAt image slot_b b → IsActiveOver a b → IsActiveSlot image slot_a
first_is_active image a b is_a is_b over =
    a_is_active image (sym is_a.gate ∙ over.0) (λ open_b. rw (← is_a.sequence, ← is_b.sequence) (over.1 (is_b.gate ∙ open_b)))

second_is_active : (image : Image) (a b : SlotFields) → IsSlotAt image slot_a a → IsSlotAt image slot_b b → ¬ IsActiveOver a b → b.gate ≡ 0xA5 → IsActiveSlot image slot_b
second_is_active image a b is_a is_b over gate =
    b_is_active image (sym is_b.gate ∙ gate) (λ open_a. rw (← is_a.sequence, ← is_b.sequence) (less (is_a.gate ∙ open_a) (cases_lt a.sequence b.sequence)))
  where
    less : a.gate ≡ 0xA5 → ((a.sequence < b.sequence) ⊎ (b.sequence ≤ a.sequence)) → a.sequence < b.sequence
    less open_a (inl is) = is
    less open_a (inr is) = absurd (over (open_a, λ _. is))

pub none_is_active : (image : Image) (a b : SlotFields) → IsSlotAt image slot_a a → IsSlotAt image slot_b b → ¬ IsActiveOver a b → ¬ (b.gate ≡ 0xA5) → ¬ IsOpen image slot_a × ¬ IsOpen image slot_b
none_is_active image a b is_a is_b over gate =
    ((λ open_a. over (is_a.gate ∙ open_a, λ open_b. absurd (gate open_b))), (λ open_b. gate (is_b.gate ∙ open_b)))

-- a test that failed
pub not_over : (a b : SlotFields) (test : Bool) → (IsActiveOver a b → test ≡ true) → test ≡ false → ¬ IsActiveOver a b
not_over a b test tells fails over = let both : true ≡ false = sym (tells over) ∙ fails in cc

-- ---- what is told of the other slot

tells : (image : Image) (at there : ℕ) (slot : SlotFields) → IsSlotAt image there slot → ((other : ℕ) → IsSlot other → other ≢ at → other ≡ there) → TellsOther image at (nat_eq slot.gate 0xA5)
tells image at there slot says which other is differ =
    let here : other ≡ there = which other is differ in (
      λ told. ap image here ∙ sym says.gate ∙ eqb-true slot.gate 0xA5 told,
      λ is_open. eq-eqb slot.gate 0xA5 (says.gate ∙ ap image (sym here) ∙ is_open),
    )

pub a_is_found : (image : Image) (a b : SlotFields) → IsSlotAt image slot_a a → IsSlotAt image slot_b b → IsActiveOver a b
    → IsActiveSlotOn image (record { slot = slots.A; says = a; other_is_open = nat_eq b.gate 0xA5 })
a_is_found image a b is_a is_b over = record {
  is_active = first_is_active image a b is_a is_b over;
  says = is_a;
  other = tells image slot_a slot_b b is_b (λ other is differ. elim is [ inl e ↦ absurd (differ e) | inr e ↦ e ]);
}

pub b_is_found : (image : Image) (a b : SlotFields) → IsSlotAt image slot_a a → IsSlotAt image slot_b b → ¬ IsActiveOver a b → b.gate ≡ 0xA5
    → IsActiveSlotOn image (record { slot = slots.B; says = b; other_is_open = nat_eq a.gate 0xA5 })
b_is_found image a b is_a is_b over gate = record {
  is_active = second_is_active image a b is_a is_b over gate;
  says = is_b;
  other = tells image slot_b slot_a a is_a (λ other is differ. elim is [ inl e ↦ e | inr e ↦ absurd (differ e) ]);
}
