-- A manifest of the other bank that is named again: nothing but the gate is missing.
use Rattle.std.proofs.Common.{◌≡◌, ◌⊎◌, inl, inr, ℕ, ◌+◌, ◌<◌, ◌≤◌, List, [], ◌∷◌, length, false, sym, ◌∙◌, ap, ap₂, subst, arith}
use Rattle.byteorder.specs.Endian.{big_number}
use Rattle.field_grammar.specs.Grammar.{Spelled, SpelledAtStart}
use Rattle.load_base.specs.Config.{LoadView}
use Rattle.disk_model.specs.Image.{Image, range, overlay}
use Rattle.disk_model.proofs.RangeLemmas.{same_range}
use Rattle.disk_model.specs.State.{DiskState, IsSettled, OnlyReads}
use Rattle.disk_model.proofs.OverlayLemmas.{overlay_inside, overlay_outside, range_of_overlay, range_beside_overlay}
use Rattle.disk_layout.specs.Entries.{entry_bytes, typed_loads}
use Rattle.disk_layout.specs.Offsets.{slot_b, bank_at, number_at}
use Rattle.disk_layout.specs.Slots.{IsOpen, IsSlot, IsActiveSlot, other_slot, other_bank, sequence_of, bank_of, manifest_offset_of, manifest_length_of}
use Rattle.disk_layout.proofs.SlotLemmas.{offset_is_slot, number_below}
use Rattle.disk_layout.proofs.SlotBodyLemmas.{says_sequence, says_bank, says_offset, says_length}
use Rattle.disk_layout.specs.Identity.{identity}
use Rattle.disk_layout.specs.Manifest.{manifest}
use Rattle.disk_layout.specs.Contents.{entries_of}
use Rattle.disk_layout.specs.Holds.{StandingView, HoldsBy, manifest_at, manifest_of}
use Rattle.bank_store.specs.Store.{active_slot, active_bank, active_sequence, IsFilling, IsSealedAt, SameActive, nothing_filled, slot_body, with_gate_open, with_slot, work_at}
use Rattle.bank_store.specs.Given.{configured}
use Rattle.bank_store.specs.Fits.{HasWork, HoldsAt, HoldsFor, IsReady, SameButForWork}
use Rattle.bank_store.specs.Readopting.{HasLoadsAt}
use Rattle.bank_store.specs.declared.stage.Stage.{Stage}
use Rattle.bank_store.specs.declared.store.Store.{Store}
use Rattle.bank_store.proofs.Carried.{same_slot, stands_carried}
use Rattle.bank_store.proofs.Continuing.{filling_not_idle}
use Rattle.bank_store.proofs.Footprint.{which_slot}
use Rattle.bank_store.proofs.Near.{other_low, near_stands, slots_apart}
use Rattle.bank_store.proofs.Opened.{slot_body_length}
use Rattle.bank_store.proofs.Working.{near_overlay, slot_is_work}

other_is_slot : (slot : ℕ) → IsSlot slot → IsSlot (other_slot slot)
other_is_slot slot (inl e) = inr (omega (arith, e))
other_is_slot slot (inr e) = inl (omega (arith, e))

other_bank_less : (bank : ℕ) → bank < 2 → other_bank bank < 2
other_bank_less bank less = omega (arith, less)

-- the slot's body lies before the banks
pub beyond_slots : (store : Store) (place size : ℕ) (image : Image) (at n : ℕ) → 8192 ≤ at → range (with_slot store place size image) at n ≡ range image at n
beyond_slots store place size image at n beyond =
    let high = (other_low (active_slot store) (offset_is_slot store.active.slot)).1 in
    range_beside_overlay image (other_slot (active_slot store) + 16) (slot_body store place size) at n (inr (omega (arith, high, beyond, slot_body_length store place size)))

pub near_slot : (store : Store) (place size : ℕ) (image : Image) → store.other_is_open ≡ false → SameButForWork store image (with_slot store place size image)
near_slot store place size image shut =
    near_overlay store image (other_slot (active_slot store) + 16) (slot_body store place size)
    (slot_is_work store (other_slot (active_slot store) + 16) _ shut (omega arith) (omega (arith, slot_body_length store place size)))

-- an installation that has begun can count on
pub counts_on : (store : Store) → IsFilling store nothing_filled → active_sequence store < 4294967295
counts_on store filling = (store.keeps.begun (λ idle. filling_not_idle nothing_filled (sym filling ∙ idle))).goes_on

module _ (store : Store) (place size : ℕ) (image : Image) (s : StandingView) (loads : List LoadView) (was : HoldsFor store image s) (has : HasLoadsAt store image place size loads) (goes_on : active_sequence store < 4294967295) where
  abbrev other : ℕ
  other = other_slot (active_slot store)

  abbrev body : List ℕ
  body = slot_body store place size

  abbrev named : Image
  named = with_slot store place size image

  abbrev reopened : Image
  reopened = with_gate_open store (with_slot store place size image)

  is_slot : IsSlot (active_slot store)
  is_slot = offset_is_slot store.active.slot

  low : 4096 ≤ other
  low = (other_low (active_slot store) is_slot).0

  high : other + 29 ≤ 8192
  high = (other_low (active_slot store) is_slot).1

  body_size : length body ≡ 13
  body_size = slot_body_length store place size

  banks_stay : (at n : ℕ) → 8192 ≤ at → range reopened at n ≡ range image at n
  banks_stay at n beyond = range_beside_overlay named other (0xA5 ∷ []) at n (inr (omega (arith, high, beyond))) ∙ beyond_slots store place size image at n beyond

  body_there : range reopened (other + 16) 13 ≡ body
  body_there =
      range_beside_overlay named other (0xA5 ∷ []) (other + 16) 13 (inr (omega arith))
      ∙ range_of_overlay image (other + 16) 13 body (sym body_size)

  gate_there : IsOpen reopened other
  gate_there = let here : other ≡ other + 0 = omega arith in ap reopened here ∙ overlay_inside named other (0xA5 ∷ []) 0 (omega arith)

  rest_stays : (offset : ℕ) → (offset < other) ⊎ (other + 29 ≤ offset) → reopened offset ≡ image offset
  rest_stays offset out =
      overlay_outside named other (0xA5 ∷ []) offset (elim out [ inl before ↦ inl before | inr behind ↦ inr (omega (arith, behind)) ])
      ∙ overlay_outside image (other + 16) body offset (elim out [ inl before ↦ inl (omega (arith, before)) | inr behind ↦ inr (omega (arith, behind, body_size)) ])

  small : store.size ≤ 67108864
  small = store.keeps.is_size.1

  new_sequence : sequence_of reopened other ≡ active_sequence store + 1
  new_sequence = says_sequence reopened other (active_sequence store + 1) (other_bank (active_bank store)) (record { offset = place; length = size }) body_there (omega (arith, goes_on))

  new_bank : bank_of reopened other ≡ other_bank (active_bank store)
  new_bank = says_bank reopened other (active_sequence store + 1) (other_bank (active_bank store)) (record { offset = place; length = size }) body_there

  pub place_is : manifest_offset_of reopened other ≡ place
  place_is =
      let within = has.within in
      says_offset reopened other (active_sequence store + 1) (other_bank (active_bank store)) (record { offset = place; length = size }) body_there (omega (arith, within, small))

  pub size_is : manifest_length_of reopened other ≡ size
  size_is =
      let within = has.within in
      says_length reopened other (active_sequence store + 1) (other_bank (active_bank store)) (record { offset = place; length = size }) body_there (omega (arith, within, small))

  slot_stays : (k : ℕ) → k < 29 → reopened (active_slot store + k) ≡ image (active_slot store + k)
  slot_stays k below = rest_stays (active_slot store + k) (slots_apart (active_slot store) k is_slot below)

  old_sequence : sequence_of reopened (active_slot store) ≡ active_sequence store
  unfolding number_at
  old_sequence =
      ap (big_number 4) (same_range reopened image (active_slot store + 16) 4 (λ k below.
      let there : active_slot store + 16 + k ≡ active_slot store + (16 + k) = omega arith in
      ap reopened there ∙ slot_stays (16 + k) (omega (arith, below)) ∙ ap image (sym there))) ∙ sym was.by.outline.sequence ∙ was.sequence

  becomes_active : IsActiveSlot reopened other
  becomes_active = record {
    is_slot = other_is_slot (active_slot store) is_slot;
    gate = gate_there;
    greatest = λ slot is is_open. elim (which_slot (active_slot store) slot is_slot is) [
      | inl e ↦ subst (λ (n : ℕ). sequence_of reopened n ≤ sequence_of reopened other) (sym e) (omega (arith, old_sequence, new_sequence))
      | inr e ↦ subst (λ (n : ℕ). sequence_of reopened n ≤ sequence_of reopened other) (sym e) (omega arith)
    ];
    tie = λ e a_open. elim is_slot [
      | inl a ↦ subst (λ (n : ℕ). sequence_of reopened n < sequence_of reopened slot_b) a (subst (λ (n : ℕ). sequence_of reopened (active_slot store) < sequence_of reopened n) e (omega (arith, old_sequence, new_sequence)))
      | inr b ↦ absurd (omega (arith, e, b))
    ];
  }

  bank_is : bank_at s.identity.bank (other_bank s.bank) ≡ work_at store
  bank_is = ap₂ (λ (n : ℕ) (b : ℕ). bank_at n (other_bank b)) was.size was.bank

  start_is : manifest_at reopened s.identity other ≡ work_at store + place
  start_is = ap₂ (λ (b : ℕ) (p : ℕ). bank_at s.identity.bank b + p) new_bank place_is ∙ ap (λ (n : ℕ). bank_at n (other_bank (active_bank store)) + place) was.size

  manifest_is : manifest_of reopened s.identity other ≡ range image (work_at store + place) size
  manifest_is = ap₂ (λ (p : ℕ) (n : ℕ). range reopened p n) start_is size_is ∙ banks_stay (work_at store + place) size (omega arith)

  contents_are : range reopened (bank_at s.identity.bank (other_bank s.bank)) (manifest_offset_of reopened other) ≡ range image (work_at store) place
  contents_are = ap₂ (λ (p : ℕ) (n : ℕ). range reopened p n) bank_is place_is ∙ banks_stay (work_at store) place (omega arith)

  pub opens_again : HoldsBy reopened other (configured s loads)
  opens_again = record {
    outline = record {
      has_active = record {
        identity = subst (λ (bytes : List ℕ). SpelledAtStart identity bytes s.identity)
            (sym (same_range reopened image 0 75 (λ k below. rest_stays (0 + k) (inl (omega (arith, below, low)))))) was.by.outline.has_active.identity;
        is_active = becomes_active;
      };
      can_be = record {
        is_bank = omega (arith, new_bank, other_bank_less (active_bank store) (number_below store.active.bank));
        short = let short = has.short in omega (arith, size_is, short);
        within = let within = has.within in omega (arith, place_is, size_is, within, was.size);
      };
      bank = ap other_bank was.bank ∙ sym new_bank;
      sequence = ap (λ (n : ℕ). n + 1) was.sequence ∙ sym new_sequence;
      manifest = subst (λ (bytes : List ℕ). Spelled manifest bytes (entries_of loads)) (sym manifest_is) has.manifest;
      lengths = has.lengths ∙ sym place_is;
    };
    headers = has.headers;
    contents = has.contents ∙ sym contents_are;
  }

-- the manifest stands where it stood
pub manifest_stays : (store : Store) (place size : ℕ) (image : Image) (loads : List LoadView) (at : ℕ) → at ≡ work_at store → HasLoadsAt store image place size loads
    → Spelled manifest (range (with_slot store place size image) (at + place) size) (entries_of loads)
manifest_stays store place size image loads at is has =
    subst (λ (bytes : List ℕ). Spelled manifest bytes (entries_of loads))
    (sym (beyond_slots store place size image (at + place) size (omega (arith, is)) ∙ ap (λ (n : ℕ). range image (n + place) size) is)) has.manifest

pub ready_again : (old new : Store) (place size : ℕ) (image now : Image) (s : StandingView) (loads : List LoadView) → SameActive old new → IsSealedAt new (record { offset = place; length = size })
    → now ≡ with_slot old place size image → active_sequence old < 4294967295 → HoldsFor old image s → HasLoadsAt old image place size loads
    → new.body.items ≡ entry_bytes (typed_loads (entries_of loads)) → IsReady new now s loads
ready_again old new place size image now s loads same sealed is goes_on was has known =
    let opened : with_gate_open old (with_slot old place size image) ≡ with_gate_open new now =
    ap₂ (λ (i : Image) (slot : ℕ). overlay i (other_slot slot) (0xA5 ∷ [])) (sym is) (sym (same_slot same)) in
    let slot = sym (same_slot same) in
    record {
      manifest = record { offset = place; length = size };
      stage = sealed;
      opens = subst (λ (i : Image). HoldsBy i (other_slot (active_slot new)) (configured s loads)) opened
          (subst (λ (n : ℕ). HoldsBy (with_gate_open old (with_slot old place size image)) (other_slot n) (configured s loads)) slot (opens_again old place size image s loads was has goes_on));
      offset = ap₂ (λ (i : Image) (n : ℕ). manifest_offset_of i (other_slot n)) (sym opened) (sym slot) ∙ place_is old place size image s loads was has goes_on;
      length = ap₂ (λ (i : Image) (n : ℕ). manifest_length_of i (other_slot n)) (sym opened) (sym slot) ∙ size_is old place size image s loads was has goes_on;
      known = known;
    }

pub sealed_again : (old new : Store) (place size : ℕ) (image now : Image) (s : StandingView) (loads : List LoadView) → SameActive old new → new.other_is_open ≡ old.other_is_open → old.other_is_open ≡ false
    → IsSealedAt new (record { offset = place; length = size }) → now ≡ with_slot old place size image → HoldsFor old image s → IsReady new now s loads → HasWork new now
sealed_again old new place size image now s loads same gate shut sealed is was ready =
    let near : SameButForWork old image now = subst (λ (i : Image). SameButForWork old image i) (sym is) (near_slot old place size image shut) in
    subst (λ (stage : Stage). HoldsAt new now stage) (sym sealed) (s, loads, stands_carried old new same gate now s (near_stands old image now s was near), ready)

-- what was settled is so after reads
pub settled_on : (old new : DiskState) → IsSettled old → OnlyReads old new → new.reads ≡ old.reads → IsSettled new
settled_on old new settled reads same = record { only = λ left may. same ∙ settled.only left (reads.now left may) }
