-- Images that differ only where an installation writes hold the same.
use Rattle.std.proofs.Common.{◌≡◌, ◌⊎◌, inl, inr, ℕ, zero, suc, ◌+◌, ◌-◌, ◌<◌, ◌≤◌, Bool, true, false, refl, sym, ◌∙◌, ap, arith}
use Rattle.std.proofs.lemmas.Bool.{cases_eq, cases_lt}
use Rattle.disk_model.specs.Image.{Image, SameOutside}
use Rattle.disk_layout.specs.Offsets.{bank_at}
use Rattle.disk_layout.specs.Slots.{IsOpen, IsSlot, manifest_offset_of, manifest_length_of}
use Rattle.disk_layout.proofs.SlotLemmas.{offset_is_slot}
use Rattle.disk_layout.specs.Holds.{StandingView, HoldsBy, HoldsConfig}
use Rattle.disk_layout.specs.Slots.{other_slot}
use Rattle.bank_store.specs.Store.{active_slot, work_at}
use Rattle.bank_store.specs.Fits.{HoldsFor, GateIsAsKept, MayChange, SameButForWork}
use Rattle.bank_store.specs.declared.store.Store.{Store}
use Rattle.bank_store.proofs.Footprint.{standing_kept, number_same}

banks_apart : (size bank k : ℕ) → bank < 2 → k < size → (bank_at size bank + k < bank_at size (1 - bank)) ⊎ (bank_at size (1 - bank) + size ≤ bank_at size bank + k)
banks_apart size zero k one below = inl (omega (arith, below))
banks_apart size (suc zero) k one below = inr (omega arith)
banks_apart size (suc (suc bank)) k one below = absurd (omega arith)

pub slots_apart : (slot k : ℕ) → IsSlot slot → k < 29 → (slot + k < other_slot slot) ⊎ (other_slot slot + 29 ≤ slot + k)
slots_apart slot k (inl e) below = inl (omega (arith, e, below))
slots_apart slot k (inr e) below = inr (omega (arith, e))

pub other_low : (slot : ℕ) → IsSlot slot → (4096 ≤ other_slot slot) × (other_slot slot + 29 ≤ 8192)
other_low slot (inl e) = (omega (arith, e), omega (arith, e))
other_low slot (inr e) = (omega (arith, e), omega (arith, e))

pub slot_low : (slot : ℕ) → IsSlot slot → (4096 ≤ slot) × (slot + 29 ≤ 8192)
slot_low slot (inl e) = (omega (arith, e), omega (arith, e))
slot_low slot (inr e) = (omega (arith, e), omega (arith, e))

-- an offset outside the other bank and the other slot's body doesn't change
stays : (store : Store) (offset : ℕ) → (offset < work_at store) ⊎ (work_at store + store.size ≤ offset) → (offset ≤ other_slot (active_slot store)) ⊎ (other_slot (active_slot store) + 29 ≤ offset) → ¬ MayChange store offset
stays store offset (inl low) slot (inl bank) = omega (arith, low, bank.0)
stays store offset (inr high) slot (inl bank) = omega (arith, high, bank.1)
stays store offset bank (inl low) (inr body) = omega (arith, low, body.1)
stays store offset bank (inr high) (inr body) = omega (arith, high, body.2)

-- while the other slot is kept as open, all of it stays
open_stays : (store : Store) (offset : ℕ) → store.other_is_open ≡ true → offset < work_at store → ¬ MayChange store offset
open_stays store offset is low (inl bank) = omega (arith, low, bank.0)
open_stays store offset is low (inr body) = let e : true ≡ false = sym is ∙ body.0 in cc

gate_same : (store : Store) (one other : Image) → SameButForWork store one other → other (other_slot (active_slot store)) ≡ one (other_slot (active_slot store))
gate_same store one other same =
    same (other_slot (active_slot store)) (stays store (other_slot (active_slot store)) (inl (omega (arith, (other_low (active_slot store) (offset_is_slot store.active.slot)).1))) (inl (omega arith)))

-- the other slot is shut in both, or the same in both
others_same : (store : Store) (one other : Image) (is_open : Bool) → store.other_is_open ≡ is_open → GateIsAsKept store one → SameButForWork store one other
    → ¬ IsOpen other (other_slot (active_slot store)) ⊎ ((k : ℕ) → k < 29 → other (other_slot (active_slot store) + k) ≡ one (other_slot (active_slot store) + k))
others_same store one other true is gate same =
    inr (λ k below. same (other_slot (active_slot store) + k) (open_stays store (other_slot (active_slot store) + k) is (omega (arith, below, (other_low (active_slot store) (offset_is_slot store.active.slot)).1))))
others_same store one other false is gate same = inl (λ there. gate.shut_there is (sym (gate_same store one other same) ∙ there))

-- two images differ only where an installation writes, and perhaps in the other slot's gate
abbrev pub SameButForGate : Store → Image → Image → Type 0
SameButForGate store one other = (offset : ℕ) → ¬ MayChange store offset → (offset < other_slot (active_slot store)) ⊎ (other_slot (active_slot store) + 1 ≤ offset) → other offset ≡ one offset

-- so they have the same active slot
slot_same : (store : Store) (one other : Image) → SameButForGate store one other → (k : ℕ) → k < 29 → other (active_slot store + k) ≡ one (active_slot store + k)
slot_same store one other same k below =
    let is_slot = offset_is_slot store.active.slot in
    let ends = (slot_low (active_slot store) is_slot).1 in
    let out = slots_apart (active_slot store) k is_slot below in
    same (active_slot store + k) (stays store (active_slot store + k) (inl (omega (arith, below, ends))) (elim out [ inl before ↦ inl (omega (arith, before)) | inr behind ↦ inr behind ]))
    (elim out [ inl before ↦ inl before | inr behind ↦ inr (omega (arith, behind)) ])

pub offset_same : (store : Store) (one other : Image) (s : StandingView) → HoldsFor store one s → SameButForGate store one other → manifest_offset_of other (active_slot store) ≡ store.active.manifest.offset
offset_same store one other s was same = number_same one other (active_slot store) (slot_same store one other same) 21 (omega arith) ∙ was.offset

pub length_same : (store : Store) (one other : Image) (s : StandingView) → HoldsFor store one s → SameButForGate store one other → manifest_length_of other (active_slot store) ≡ store.active.manifest.length
length_same store one other s was same = number_same one other (active_slot store) (slot_same store one other same) 25 (omega arith) ∙ was.length

-- Images that are the same outside the other bank and the other slot hold the same, where that slot is the same or shut.
pub stands_apart : (slot : ℕ) (s : StandingView) (one other : Image) → HoldsBy one slot s
    → ((offset : ℕ) → (offset < bank_at s.identity.bank (1 - s.bank)) ⊎ (bank_at s.identity.bank (1 - s.bank) + s.identity.bank ≤ offset)
    → (offset < other_slot slot) ⊎ (other_slot slot + 29 ≤ offset) → other offset ≡ one offset)
    → ¬ IsOpen other (other_slot slot) ⊎ ((k : ℕ) → k < 29 → other (other_slot slot + k) ≡ one (other_slot slot + k)) → HoldsBy other slot s
stands_apart slot s one other was same others =
    let is_slot = was.outline.has_active.is_active.is_slot in
    let high = (other_low slot is_slot).1 in
    let low = (other_low slot is_slot).0 in
    let ends = (slot_low slot is_slot).1 in
    standing_kept slot s one other was (record {
      prefix = λ offset below. same offset (inl (omega (arith, below))) (inl (omega (arith, below, low)));
      slot_same = λ k below. same (slot + k) (inl (omega (arith, below, ends))) (slots_apart slot k is_slot below);
      bank_same = λ k below.
          same (bank_at s.identity.bank s.bank + k) (banks_apart s.identity.bank s.bank k (omega (arith, was.outline.bank, was.outline.can_be.is_bank)) below) (inr (omega (arith, high)));
      others = others;
    })

-- so they hold the same, where the other slot is the same or shut
stands_by : (store : Store) (one other : Image) (s : StandingView) → HoldsFor store one s → SameButForGate store one other
    → ¬ IsOpen other (other_slot (active_slot store)) ⊎ ((k : ℕ) → k < 29 → other (other_slot (active_slot store) + k) ≡ one (other_slot (active_slot store) + k)) → HoldsBy other (active_slot store) s
stands_by store one other s was same others =
    let there : bank_at s.identity.bank (1 - s.bank) ≡ work_at store =
    ap (λ (n : ℕ). bank_at n (1 - s.bank)) was.size ∙ ap (λ (n : ℕ). bank_at store.size (1 - n)) was.bank in
    stands_apart (active_slot store) s one other was.by
    (λ offset bank slot. same offset
    (stays store offset (elim bank [ inl low ↦ inl (omega (arith, low, there)) | inr high ↦ inr (omega (arith, high, there, was.size)) ])
    (elim slot [ inl low ↦ inl (omega (arith, low)) | inr high ↦ inr high ]))
    (elim slot [ inl low ↦ inl low | inr high ↦ inr (omega (arith, high)) ]))
    others

-- images that differ only where an installation writes hold the same
pub near_stands : (store : Store) (one other : Image) (s : StandingView) → HoldsFor store one s → SameButForWork store one other → HoldsFor store other s
near_stands store one other s was same = record {
  by = stands_by store one other s was (λ offset out apart. same offset out) (others_same store one other store.other_is_open refl was.gate same);
  bank = was.bank;
  sequence = was.sequence;
  size = was.size;
  offset = offset_same store one other s was (λ offset out apart. same offset out);
  length = length_same store one other s was (λ offset out apart. same offset out);
  known = was.known;
  gate = record {
    open_there = λ is. gate_same store one other same ∙ was.gate.open_there is;
    shut_there = λ is there. was.gate.shut_there is (sym (gate_same store one other same) ∙ there);
  };
}

-- with the other slot shut the image holds the same
pub shut_stands : (store : Store) (one other : Image) (s : StandingView) → HoldsFor store one s → SameButForGate store one other → ¬ IsOpen other (other_slot (active_slot store)) → HoldsBy other (active_slot store) s
shut_stands store one other s was same shut = stands_by store one other s was same (inl shut)

-- whatever the gate of a slot that was open, the image holds the same
pub torn_gate_stands : (store : Store) (one other : Image) (s : StandingView) → store.other_is_open ≡ true → HoldsFor store one s → SameButForGate store one other → HoldsConfig other s
torn_gate_stands store one other s is was same = elim (cases_eq (other (other_slot (active_slot store))) 0xA5) [
  | inl opened ↦
      let near : SameButForWork store one other = λ offset out. elim (cases_eq offset (other_slot (active_slot store))) [
        | inl here ↦ ap other here ∙ opened ∙ sym (was.gate.open_there is) ∙ ap one (sym here)
        | inr there ↦ same offset out (beside (other_slot (active_slot store)) offset there)
      ] in
      record { slot = (active_slot store); by = (near_stands store one other s was near).by }
  | inr shut ↦ record { slot = (active_slot store); by = shut_stands store one other s was same shut }
]
  where
    beside : (at offset : ℕ) → ¬ (offset ≡ at) → (offset < at) ⊎ (at + 1 ≤ offset)
    beside at offset other = elim (cases_lt offset at) [
      | inl before ↦ inl before
      | inr from ↦ inr (omega (arith, from, other))
    ]

-- ---- images that a write may leave

pub near_back : (store : Store) (one other : Image) → SameButForWork store one other → SameButForWork store other one
near_back store one other same offset out = sym (same offset out)

pub near_on : (store : Store) (one two three : Image) → SameButForWork store one two → SameButForWork store two three → SameButForWork store one three
near_on store one two three same then offset out = then offset out ∙ same offset out

-- a range that an installation writes
pub record IsWork (store : Store) (at n : ℕ) : Type 0 where
  pub within : (offset : ℕ) → ¬ MayChange store offset → (offset < at) ⊎ (at + n ≤ offset)

pub near_torn : (store : Store) (one two three : Image) (at n : ℕ) → IsWork store at n → SameButForWork store one two → SameOutside at n two three → SameButForWork store one three
near_torn store one two three at n work same torn offset out = torn offset (work.within offset out) ∙ same offset out
