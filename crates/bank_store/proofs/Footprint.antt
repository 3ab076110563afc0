-- The configuration that an image holds depends on the identity, the slots and the active bank alone.
use Rattle.std.proofs.Common.{◌≡◌, ◌⊎◌, inl, inr, ℕ, ◌+◌, ◌<◌, ◌≤◌, sym, ◌∙◌, ap, subst, arith}
use Rattle.std.specs.Prelude.{List}
use Rattle.byteorder.specs.Endian.{big_number}
use Rattle.field_grammar.specs.Grammar.{Spelled, SpelledAtStart}
use Rattle.disk_model.specs.Image.{Image, range}
use Rattle.disk_model.proofs.RangeLemmas.{same_range}
use Rattle.disk_layout.specs.Offsets.{slot_a, slot_b, bank_at, number_at}
use Rattle.disk_layout.specs.Slots.{IsOpen, IsSlot, IsActiveSlot, sequence_of, bank_of, manifest_offset_of, manifest_length_of}
use Rattle.disk_layout.specs.Identity.{identity}
use Rattle.disk_layout.specs.Manifest.{manifest}
use Rattle.disk_layout.specs.Holds.{StandingView, HoldsBy, outline_of, manifest_at, manifest_of}
use Rattle.disk_layout.specs.Slots.{other_slot}

-- b has what a has of the identity, of the slot and of the bank, and of the other slot too, unless that is shut
pub record Agrees (slot size bank : ℕ) (a b : Image) : Type 0 where
  pub prefix : (offset : ℕ) → offset < 75 → b offset ≡ a offset
  pub slot_same : (k : ℕ) → k < 29 → b (slot + k) ≡ a (slot + k)
  pub bank_same : (k : ℕ) → k < size → b (bank_at size bank + k) ≡ a (bank_at size bank + k)
  pub others : ¬ IsOpen b (other_slot slot) ⊎ ((k : ℕ) → k < 29 → b (other_slot slot + k) ≡ a (other_slot slot + k))

-- a slot is this one or the other
pub which_slot : (slot other : ℕ) → IsSlot slot → IsSlot other → (other ≡ slot) ⊎ (other ≡ other_slot slot)
which_slot slot other (inl e) (inl d) = inl (omega (arith, e, d))
which_slot slot other (inl e) (inr d) = inr (omega (arith, e, d))
which_slot slot other (inr e) (inl d) = inr (omega (arith, e, d))
which_slot slot other (inr e) (inr d) = inl (omega (arith, e, d))

-- numbers in a slot whose bytes are the same
pub number_same : (a b : Image) (slot : ℕ) → ((k : ℕ) → k < 29 → b (slot + k) ≡ a (slot + k)) → (i : ℕ) → i + 4 ≤ 29 → number_at 4 b (slot + i) ≡ number_at 4 a (slot + i)
unfolding number_at
number_same a b slot same i within =
    ap (big_number 4) (same_range b a (slot + i) 4 (λ k below.
    let there : slot + i + k ≡ slot + (i + k) = omega arith in
    ap b there ∙ same (i + k) (omega (arith, within, below)) ∙ ap a (sym there)))

byte_same : (a b : Image) (slot : ℕ) → ((k : ℕ) → k < 29 → b (slot + k) ≡ a (slot + k)) → b slot ≡ a slot
byte_same a b slot same = let here : slot ≡ slot + 0 = omega arith in ap b here ∙ same 0 (omega arith) ∙ ap a (sym here)

module _ (slot size bank : ℕ) (a b : Image) (agrees : Agrees slot size bank a b) where
  pub active_same : IsActiveSlot a slot → IsActiveSlot b slot
  active_same rules = record {
    is_slot = rules.is_slot;
    gate = byte_same a b slot agrees.slot_same ∙ rules.gate;
    greatest = λ other is is_open. elim (which_slot slot other rules.is_slot is) [
      | inl e ↦ subst (λ (n : ℕ). sequence_of b n ≤ sequence_of b slot) (sym e) (omega arith)
      | inr e ↦ elim agrees.others [
        | inl shut ↦ absurd (shut (subst (λ (n : ℕ). IsOpen b n) e is_open))
        | inr same ↦
            let there : IsOpen a (other_slot slot) = sym (byte_same a b (other_slot slot) same) ∙ subst (λ (n : ℕ). IsOpen b n) e is_open in
            let less : sequence_of a (other_slot slot) ≤ sequence_of a slot = rules.greatest (other_slot slot) (subst IsSlot e is) there in
            let one = number_same a b slot agrees.slot_same 16 (omega arith) in
            let two = number_same a b (other_slot slot) same 16 (omega arith) in
            subst (λ (n : ℕ). sequence_of b n ≤ sequence_of b slot) (sym e) (omega (arith, less, one, two))
      ]
    ];
    tie = λ e a_open. elim agrees.others [
      | inl shut ↦ absurd (shut (subst (λ (n : ℕ). IsOpen b n) (omega (arith, e)) a_open))
      | inr same ↦
          let other : other_slot slot ≡ slot_a = omega (arith, e) in
          let there : IsOpen a slot_a = subst (λ (n : ℕ). IsOpen a n) other (sym (byte_same a b (other_slot slot) same) ∙ subst (λ (n : ℕ). IsOpen b n) (sym other) a_open) in
          let less : sequence_of a slot_a < sequence_of a slot_b = rules.tie e there in
          let one : sequence_of b slot_b ≡ sequence_of a slot_b = subst (λ (n : ℕ). sequence_of b n ≡ sequence_of a n) e (number_same a b slot agrees.slot_same 16 (omega arith)) in
          let two : sequence_of b slot_a ≡ sequence_of a slot_a = subst (λ (n : ℕ). sequence_of b n ≡ sequence_of a n) other (number_same a b (other_slot slot) same 16 (omega arith)) in
          omega (arith, less, one, two)
    ];
  }

-- b has what a has of the identity, of the slot and of the bank
pub record HasSame (slot size bank : ℕ) (a b : Image) : Type 0 where
  pub prefix : (offset : ℕ) → offset < 75 → b offset ≡ a offset
  pub slot_same : (k : ℕ) → k < 29 → b (slot + k) ≡ a (slot + k)
  pub bank_same : (k : ℕ) → k < size → b (bank_at size bank + k) ≡ a (bank_at size bank + k)

-- so, where the slot is active in both, b holds what a holds
pub held_by : (slot : ℕ) (s : StandingView) (a b : Image) → HoldsBy a slot s → HasSame slot s.identity.bank s.bank a b → IsActiveSlot b slot → HoldsBy b slot s
held_by slot s a b was agrees active =
    let o = was.outline in
    let size = s.identity.bank in
    let bank : bank_of b slot ≡ bank_of a slot = agrees.slot_same 20 (omega arith) in
    let offset : manifest_offset_of b slot ≡ manifest_offset_of a slot = number_same a b slot agrees.slot_same 21 (omega arith) in
    let long : manifest_length_of b slot ≡ manifest_length_of a slot = number_same a b slot agrees.slot_same 25 (omega arith) in
    let at : manifest_at b s.identity slot ≡ manifest_at a s.identity slot =
    ap (λ (n : ℕ). bank_at size n + manifest_offset_of b slot) bank ∙ ap (λ (n : ℕ). bank_at size (bank_of a slot) + n) offset in
    let start : manifest_at a s.identity slot ≡ bank_at size s.bank + manifest_offset_of a slot = ap (λ (n : ℕ). bank_at size n + manifest_offset_of a slot) (sym o.bank) in
    let manifests : manifest_of b s.identity slot ≡ manifest_of a s.identity slot =
    ap (λ (n : ℕ). range b n (manifest_length_of b slot)) at ∙ ap (λ (n : ℕ). range b (manifest_at a s.identity slot) n) long
    ∙ same_range b a (manifest_at a s.identity slot) (manifest_length_of a slot) (λ k below.
    let there : manifest_at a s.identity slot + k ≡ bank_at size s.bank + (manifest_offset_of a slot + k) = omega (arith, start) in
    ap b there ∙ agrees.bank_same (manifest_offset_of a slot + k) (omega (arith, o.can_be.within, below)) ∙ ap a (sym there)) in
    let contents : range b (bank_at size s.bank) (manifest_offset_of b slot) ≡ range a (bank_at size s.bank) (manifest_offset_of a slot) =
    ap (λ (n : ℕ). range b (bank_at size s.bank) n) offset
    ∙ same_range b a (bank_at size s.bank) (manifest_offset_of a slot) (λ k below. agrees.bank_same k (omega (arith, o.can_be.within, below))) in
    let prefixes : range b 0 75 ≡ range a 0 75 = same_range b a 0 75 (λ k below. agrees.prefix (0 + k) (omega (arith, below))) in
    record {
      outline = record {
        has_active = record {
          identity = subst (λ (bytes : List ℕ). SpelledAtStart identity bytes s.identity) (sym prefixes) o.has_active.identity;
          is_active = active;
        };
        can_be = record { is_bank = omega (arith, o.can_be.is_bank, bank); short = omega (arith, o.can_be.short, long); within = omega (arith, o.can_be.within, offset, long) };
        bank = o.bank ∙ sym bank;
        sequence = o.sequence ∙ sym (number_same a b slot agrees.slot_same 16 (omega arith));
        manifest = subst (λ (bytes : List ℕ). Spelled manifest bytes (outline_of s).loads) (sym manifests) o.manifest;
        lengths = o.lengths ∙ sym offset;
      };
      headers = was.headers;
      contents = was.contents ∙ sym contents;
    }

-- so the standing stays
pub standing_kept : (slot : ℕ) (s : StandingView) (a b : Image) → HoldsBy a slot s → Agrees slot s.identity.bank s.bank a b → HoldsBy b slot s
standing_kept slot s a b was agrees =
    held_by slot s a b was (record { prefix = agrees.prefix; slot_same = agrees.slot_same; bank_same = agrees.bank_same })
    (active_same slot s.identity.bank s.bank a b agrees was.outline.has_active.is_active)
