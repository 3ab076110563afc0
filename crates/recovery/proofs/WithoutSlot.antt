-- The image without its active slot.
use Rattle.std.proofs.Common.{◌≡◌, ◌⊎◌, inl, inr, ℕ, zero, suc, ◌+◌, ◌-◌, ◌<◌, ◌≤◌, Bool, true, false, if◌then◌else◌, ◌&&◌, nat_le, nat_lt, [], ◌∷◌, refl, sym, ◌∙◌, ap, subst, arith}
use Rattle.std.specs.Prelude.{List, slice_index}
use Rattle.field_grammar.specs.Grammar.{SpelledAtStart}
use Rattle.disk_model.specs.Image.{Image, IsOfBytes, overlay, range}
use Rattle.disk_model.proofs.RangeLemmas.{same_range}
use Rattle.disk_model.proofs.OverlayLemmas.{overlay_inside, overlay_outside, range_beside_overlay}
use Rattle.disk_layout.specs.Offsets.{number_at, slot_a, slot_b}
use Rattle.disk_layout.specs.Identity.{HasIdentity, identity}
use Rattle.disk_layout.specs.Slots.{IsActiveSlot, IsOpen, IsSlot, IsSlotAt, other_slot, sequence_of}
use Rattle.disk_layout.specs.declared.identity.Identity.{Identity}
use Rattle.disk_layout.specs.declared.slot.SlotFields.{SlotFields}
use Rattle.recovery.specs.Formers.{without_slot}

pub which_slot : (slot other : ℕ) → IsSlot slot → IsSlot other → (other ≡ slot) ⊎ (other ≡ other_slot slot)
which_slot slot other (inl e) (inl d) = inl (omega (arith, e, d))
which_slot slot other (inl e) (inr d) = inr (omega (arith, e, d))
which_slot slot other (inr e) (inl d) = inr (omega (arith, e, d))
which_slot slot other (inr e) (inr d) = inl (omega (arith, e, d))

pub other_is_slot : (slot : ℕ) → IsSlot slot → IsSlot (other_slot slot)
other_is_slot slot (inl e) = inr (omega (arith, e))
other_is_slot slot (inr e) = inl (omega (arith, e))

pub other_slot_low : (slot : ℕ) → IsSlot slot → other_slot slot + 29 ≤ 8192
other_slot_low slot (inl e) = omega (arith, e)
other_slot_low slot (inr e) = omega (arith, e)

apart : (slot k : ℕ) → IsSlot slot → k < 29 → (other_slot slot + k < slot) ⊎ (slot + 1 ≤ other_slot slot + k)
apart slot k (inl e) less = inr (omega (arith, e, less))
apart slot k (inr e) less = inl (omega (arith, e, less))

slot_low : (slot : ℕ) → IsSlot slot → (75 ≤ slot) × (slot + 1 ≤ 8192)
slot_low slot (inl e) = (omega (arith, e), omega (arith, e))
slot_low slot (inr e) = (omega (arith, e), omega (arith, e))

-- ---- it is of bytes

zeros : (k : ℕ) → slice_index (0 ∷ []) k < 256
zeros zero = omega arith
zeros (suc k) = omega arith

one_of : (test : Bool) (m n : ℕ) → m < 256 → n < 256 → (if test then m else n) < 256
one_of true m n less more = less
one_of false m n less more = more

pub still_bytes : (image : Image) (slot : ℕ) → IsOfBytes image → IsOfBytes (without_slot slot image)
unfolding overlay
still_bytes image slot are offset = one_of (nat_le slot offset && nat_lt offset (slot + 1)) (slice_index (0 ∷ []) (offset - slot)) (image offset) (zeros (offset - slot)) (are offset)

-- ---- what stays

module _ (slot : ℕ) (image : Image) (is_slot : IsSlot slot) where
  abbrev seen : Image
  seen = without_slot slot image

  pub is_shut : ¬ IsOpen seen slot
  is_shut opened =
      let here : slot ≡ slot + 0 = omega arith in
      let gate : seen slot ≡ 0 = ap seen here ∙ overlay_inside image slot (0 ∷ []) 0 (omega arith) in
      omega (arith, gate, opened)

  pub byte_stays : (k : ℕ) → k < 29 → seen (other_slot slot + k) ≡ image (other_slot slot + k)
  byte_stays k less = overlay_outside image slot (0 ∷ []) (other_slot slot + k) (apart slot k is_slot less)

  pub gate_stays : seen (other_slot slot) ≡ image (other_slot slot)
  gate_stays = let here : other_slot slot ≡ other_slot slot + 0 = omega arith in ap seen here ∙ byte_stays 0 (omega arith) ∙ ap image (sym here)

  bytes_stay : (i : ℕ) → i + 4 ≤ 29 → range seen (other_slot slot + i) 4 ≡ range image (other_slot slot + i) 4
  bytes_stay i within = same_range seen image (other_slot slot + i) 4 (λ k below.
      let there : other_slot slot + i + k ≡ other_slot slot + (i + k) = omega arith in
      ap seen there ∙ byte_stays (i + k) (omega (arith, within, below)) ∙ ap image (sym there))

  pub number_stays : (i : ℕ) → i + 4 ≤ 29 → number_at 4 seen (other_slot slot + i) ≡ number_at 4 image (other_slot slot + i)
  unfolding number_at
  number_stays i within = rw (bytes_stay i within) refl

  pub banks_stay : (at count : ℕ) → 8192 ≤ at → range seen at count ≡ range image at count
  banks_stay at count beyond = range_beside_overlay image slot (0 ∷ []) at count (inr (let (early, late) = slot_low slot is_slot in omega (arith, late, beyond)))

  pub start_stays : range seen 0 75 ≡ range image 0 75
  start_stays = range_beside_overlay image slot (0 ∷ []) 0 75 (inl (let (early, late) = slot_low slot is_slot in omega (arith, early)))

  pub identity_stays : (id : Identity) → HasIdentity image id → HasIdentity seen id
  identity_stays id has = subst (λ (bytes : List ℕ). SpelledAtStart identity bytes id) (sym start_stays) has

  -- the other slot says what it said
  pub other_says : (says : SlotFields) → IsSlotAt image (other_slot slot) says → IsSlotAt seen (other_slot slot) says
  other_says says is = record {
    gate = is.gate ∙ sym gate_stays;
    sequence = is.sequence ∙ sym (number_stays 16 (omega arith));
    bank = is.bank ∙ sym (byte_stays 20 (omega arith));
    offset = is.offset ∙ sym (number_stays 21 (omega arith));
    length = is.length ∙ sym (number_stays 25 (omega arith));
  }

  -- where the other slot is open it is the active one
  pub other_is_active : IsOpen image (other_slot slot) → IsActiveSlot seen (other_slot slot)
  other_is_active opened = record {
    is_slot = other_is_slot slot is_slot;
    gate = gate_stays ∙ opened;
    greatest = λ other is is_open. elim (which_slot slot other is_slot is) [
      | inl e ↦ absurd (is_shut (subst (λ (n : ℕ). IsOpen seen n) e is_open))
      | inr e ↦ omega (arith, ap (λ (n : ℕ). sequence_of seen n) e)
    ];
    tie = λ e a_open. absurd (is_shut (subst (λ (n : ℕ). IsOpen seen n) (sym (first e)) a_open));
  }
    where
      first : other_slot slot ≡ slot_b → slot ≡ slot_a
      first e = elim is_slot [ inl a ↦ a | inr b ↦ absurd (omega (arith, e, b)) ]
