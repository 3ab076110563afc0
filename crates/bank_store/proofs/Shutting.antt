-- What a disk holds while its gates are shut.
use Rattle.std.proofs.Common.{◌≡◌, ◌⊎◌, inl, inr, ℕ, zero, suc, ◌+◌, ◌<◌, ◌≤◌, [], ◌∷◌, Option, Some, Result, Ok, Err, OnOk, refl, sym, ap, subst, ◌∙◌, arith}
use Rattle.std.specs.Prelude.{is_some, IsErr, true, false}
use Rattle.std.proofs.lemmas.Bool.{cases_eq}
use Rattle.disk_model.specs.Image.{Image, SameOutside}
use Rattle.disk_model.proofs.OverlayLemmas.{overlay_inside, overlay_outside}
use Rattle.disk_model.specs.State.{DiskState, IsSettled, OnlyReads, Torn}
use Rattle.disk_layout.specs.Offsets.{slot_a, slot_b, bank_at}
use Rattle.disk_layout.specs.Slots.{IsOpen, IsSlot, IsActiveSlot, other_slot, slot_offset}
use Rattle.disk_layout.proofs.SlotLemmas.{a_is_active, b_is_active, one_slot, offset_is_slot}
use Rattle.disk_layout.specs.Holds.{HoldsBy}
use Rattle.disk_layout.specs.declared.active.Slot.{Slot}
use Rattle.bank_store.specs.DiskWrites.{AddsOnly}
use Rattle.bank_store.specs.Formatting.{IsShut, GatesTorn, HoldsTheSame, SameButForGates, ShutsGates, with_gate}
use Rattle.bank_store.specs.declared.fault.StoreFault.{StoreFault}
use Rattle.bank_store.proofs.Begun.{on_ok_by}
use Rattle.bank_store.proofs.Footprint.{HasSame, active_same, held_by}
use Rattle.bank_store.proofs.Gates.{other_offset, same_image, as_it_was}
use Rattle.bank_store.proofs.Images.{told_before}
use Rattle.bank_store.proofs.Moments.{adds_joined, adds_less}
use Rattle.bank_store.proofs.Near.{slots_apart, other_low}

-- ---- one gate differs

-- two images are the same but for the gate of the slot beside this one
abbrev pub SameButForOther : (slot : ℕ) → Image → Image → Type 0
SameButForOther slot one other = SameOutside (other_slot slot) 1 one other

same_parts : (slot size bank : ℕ) (a b : Image) → IsSlot slot → SameButForOther slot a b → HasSame slot size bank a b
same_parts slot size bank a b is same = record {
  prefix = λ offset below. same offset (inl (omega (arith, below, (other_low slot is).0)));
  slot_same = λ k below. same (slot + k) (elim (slots_apart slot k is below) [ inl before ↦ inl before | inr after ↦ inr (omega (arith, after)) ]);
  bank_same = λ k below. same (bank_at size bank + k) (inr (omega (arith, (other_low slot is).1)));
}

-- the bytes of the other slot, where its gate is the same too
other_same : (slot : ℕ) (a b : Image) → IsSlot slot → SameButForOther slot a b → b (other_slot slot) ≡ a (other_slot slot) → (k : ℕ) → k < 29 → b (other_slot slot + k) ≡ a (other_slot slot + k)
other_same slot a b is same gate zero below = let here : other_slot slot + 0 ≡ other_slot slot = omega arith in ap b here ∙ gate ∙ ap a (sym here)
other_same slot a b is same gate (suc k) below = same (other_slot slot + suc k) (inr (omega arith))

-- A slot stays the active one where the other slot's gate wasn't opened.
stays_active : (slot : ℕ) (a b : Image) → IsActiveSlot a slot → SameButForOther slot a b → (IsOpen b (other_slot slot) → IsOpen a (other_slot slot)) → IsActiveSlot b slot
stays_active slot a b active same opens =
    let parts = same_parts slot 0 0 a b active.is_slot same in
    active_same slot 0 0 a b (record {
      prefix = parts.prefix;
      slot_same = parts.slot_same;
      bank_same = parts.bank_same;
      others = elim (cases_eq (b (other_slot slot)) 0xA5) [
        | inl opened ↦ inr (other_same slot a b active.is_slot same (opened ∙ sym (opens opened)))
        | inr shut ↦ inl shut
      ];
    }) active

back : (slot : ℕ) (a b : Image) → SameButForOther slot a b → SameButForOther slot b a
back slot a b same offset out = sym (same offset out)

-- So what is held is the same.
pub other_gate_holds : (slot : ℕ) (before image : Image) → IsActiveSlot before slot → SameButForOther slot before image
    → (IsOpen image (other_slot slot) → IsOpen before (other_slot slot)) → HoldsTheSame before image
other_gate_holds slot before image active same opens s =
    let still = stays_active slot before image active same opens in (
      λ config. record {
        slot = slot;
        by = held_by slot s image before
            (subst (λ (n : ℕ). HoldsBy image n s) (one_slot image config.slot slot config.by.outline.has_active.is_active still) config.by)
            (same_parts slot s.identity.bank s.bank image before active.is_slot (back slot before image same)) active;
      },
      λ config. record {
        slot = slot;
        by = held_by slot s before image
            (subst (λ (n : ℕ). HoldsBy before n s) (one_slot before config.slot slot config.by.outline.has_active.is_active active) config.by)
            (same_parts slot s.identity.bank s.bank before image active.is_slot same) still;
      },
    )

pub same_holds : (image : Image) → HoldsTheSame image image
same_holds image s = (λ config. config, λ config. config)

-- ---- a gate is shut

torn_off : (at offset : ℕ) → ¬ (offset ≡ at) → (offset < at) ⊎ (at + 1 ≤ offset)
torn_off at offset differs = other_offset at offset differs

-- the slots at their offsets
other_of_other : (slot : ℕ) → IsSlot slot → other_slot (other_slot slot) ≡ slot
other_of_other slot (inl e) = omega (arith, e)
other_of_other slot (inr e) = omega (arith, e)

apart_slots : (slot : ℕ) → IsSlot slot → (slot < other_slot slot) ⊎ (other_slot slot + 1 ≤ slot)
apart_slots slot (inl e) = inl (omega (arith, e))
apart_slots slot (inr e) = inr (omega (arith, e))

both_shut : (image : Image) (slot : ℕ) → IsSlot slot → ¬ IsOpen image slot → ¬ IsOpen image (other_slot slot) → IsShut image
both_shut image slot (inl e) this other =
    let there : other_slot slot ≡ slot_b = omega (arith, e) in
    record { a = subst (λ (n : ℕ). ¬ IsOpen image n) e this; b = subst (λ (n : ℕ). ¬ IsOpen image n) there other }
both_shut image slot (inr e) this other =
    let there : other_slot slot ≡ slot_a = omega (arith, e) in
    record { a = subst (λ (n : ℕ). ¬ IsOpen image n) there other; b = subst (λ (n : ℕ). ¬ IsOpen image n) e this }

-- The gate of the active slot is torn, while the other is shut: what was held is held, or nothing.
pub last_gate : (slot : ℕ) (before middle image : Image) → IsActiveSlot before slot → SameButForOther slot before middle → ¬ IsOpen middle (other_slot slot)
    → SameOutside slot 1 middle image → HoldsTheSame before image ⊎ IsShut image
last_gate slot before middle image active same shut torn = elim (cases_eq (image slot) 0xA5) [
  | inl opened ↦ inl (other_gate_holds slot before image active (λ offset out. elim (cases_eq offset slot) [
    | inl here ↦ ap image here ∙ opened ∙ sym active.gate ∙ ap before (sym here)
    | inr there ↦ torn offset (torn_off slot offset there) ∙ same offset out
  ]) (λ open_there. absurd (shut (sym beside ∙ open_there))))
  | inr shut_here ↦ inr (both_shut image slot active.is_slot shut_here (λ open_there. shut (sym beside ∙ open_there)))
]
  where
    beside : image (other_slot slot) ≡ middle (other_slot slot)
    beside = torn (other_slot slot) (elim (apart_slots slot active.is_slot) [ inl before ↦ inr (omega (arith, before)) | inr after ↦ inl (omega (arith, after)) ])

shut_byte : (byte : ℕ) → byte ≡ 0 → ¬ (byte ≡ 0xA5)
shut_byte byte is opened = absurd (omega (arith, is, opened))

-- a gate that was written as shut
pub gate_is_shut : (slot : Slot) (image : Image) → ¬ IsOpen (with_gate slot 0 image) (slot_offset slot)
gate_is_shut slot image =
    let here : slot_offset slot ≡ slot_offset slot + 0 = omega arith in
    shut_byte _ (ap (with_gate slot 0 image) here ∙ overlay_inside image (slot_offset slot) (0 ∷ []) 0 (omega arith))

pub gate_alone : (slot : Slot) (byte : ℕ) (image : Image) → SameOutside (slot_offset slot) 1 image (with_gate slot byte image)
gate_alone slot byte image offset out = overlay_outside image (slot_offset slot) (byte ∷ []) offset out

-- an offset that is neither gate
pub no_gate : (slot : ℕ) (offset : ℕ) → IsSlot slot → ¬ (offset ≡ slot_a) → ¬ (offset ≡ slot_b) → (offset < slot) ⊎ (slot + 1 ≤ offset)
no_gate slot offset (inl e) a b = other_offset slot offset (λ is. a (is ∙ e))
no_gate slot offset (inr e) a b = other_offset slot offset (λ is. b (is ∙ e))

pub torn_gates : (slot : ℕ) (images : Image → Type 0) (image : Image) → IsSlot slot → Torn slot 1 images image → GatesTorn images image
torn_gates slot images image is torn = record { before = torn.before; was = torn.was; same = λ offset a b. torn.same offset (no_gate slot offset is a b) }

pub torn_again : (slot : ℕ) (images later : Image → Type 0) (image : Image) → IsSlot slot → ((i : Image) → later i → GatesTorn images i) → Torn slot 1 later image → GatesTorn images image
torn_again slot images later image is gates torn =
    let first = gates torn.before torn.was in
    record { before = first.before; was = first.was; same = λ offset a b. torn.same offset (no_gate slot offset is a b) ∙ first.same offset a b }

-- ---- after reads

-- reading adds nothing
pub adds_read : (old new : DiskState) → OnlyReads old new → AddsOnly old new old.now
adds_read old new reads = record { each = λ t u image might. inl (reads.between t u image might); here = reads.now }

pub settled_read : (old new : DiskState) → OnlyReads old new → new.reads ≡ old.reads → IsSettled old → IsSettled new
settled_read old new reads kept settled = record { only = λ image may. kept ∙ settled.only image (reads.now image may) }

-- ---- the steps

on_ok_two : {T E A B C : Type 0} (result : Result T E) → (A → B → C) → OnOk result A → OnOk result B → OnOk result C
on_ok_two (Ok x) f a b = f a b
on_ok_two (Err e) f a b = tt

alone_active : (slot : ℕ) (image : Image) → IsSlot slot → IsOpen image slot → ¬ IsOpen image (other_slot slot) → IsActiveSlot image slot
alone_active slot image (inl e) here shut =
    let there : other_slot slot ≡ slot_b = omega (arith, e) in
    subst (IsActiveSlot image) (sym e) (a_is_active image (subst (IsOpen image) e here) (λ opened. absurd (shut (subst (IsOpen image) (sym there) opened))))
alone_active slot image (inr e) here shut =
    let there : other_slot slot ≡ slot_a = omega (arith, e) in
    subst (IsActiveSlot image) (sym e) (b_is_active image (subst (IsOpen image) e here) (λ opened. absurd (shut (subst (IsOpen image) (sym there) opened))))

not_ok : {T E : Type 0} (A : Type 0) (result : Result T E) → IsErr result → OnOk result A
not_ok A (Ok x) failed = let e : false ≡ true = failed in absurd (false_is_not_true e)
  where
    false_is_not_true : false ≡ true → ⊥
    false_is_not_true e = cc
not_ok A (Err e) failed = tt

-- the image that is read after a gate was written over the one that was read before
written_over : (slot : Slot) (byte : ℕ) (old new : Option Image) (image : Image) → is_some new ≡ is_some old → new ≡ Some image
    → ((before : Image) → old ≡ Some before → new ≡ Some (with_gate slot byte before)) → (before : Image) × (old ≡ Some before) × (image ≡ with_gate slot byte before)
written_over slot byte old new image tells told written =
    let before = told_before old new image tells told in
    (before.0, before.1, same_image image (with_gate slot byte before.0) (sym told ∙ written before.0 before.1))

-- a settled disk has the image that it reads
only_read : (disk : DiskState) (before image : Image) → IsSettled disk → disk.reads ≡ Some before → disk.now image → image ≡ before
only_read disk before image settled told may = same_image image before (sym (settled.only image may) ∙ told)

-- the gate of the only open slot was torn
one_torn : (slot : Slot) (old : DiskState) (before image : Image) → IsOpen before (slot_offset slot) → ¬ IsOpen before (other_slot (slot_offset slot)) → IsSettled old → old.reads ≡ Some before
    → Torn (slot_offset slot) 1 old.now image → HoldsTheSame before image ⊎ IsShut image
one_torn slot old before image here shut settled told torn =
    let is = offset_is_slot slot in
    let was = only_read old before torn.before settled told torn.was in
    last_gate (slot_offset slot) before before image (alone_active (slot_offset slot) before is here shut) (λ offset out. refl) shut
    (λ offset out. torn.same offset out ∙ ap (λ (i : Image). i offset) was)

one_shut : (slot : Slot) (before image : Image) → ¬ IsOpen before (other_slot (slot_offset slot)) → image ≡ with_gate slot 0 before → IsShut image
one_shut slot before image shut is =
    let apart : (other_slot (slot_offset slot) < slot_offset slot) ⊎ (slot_offset slot + 1 ≤ other_slot (slot_offset slot)) =
    elim (apart_slots (slot_offset slot) (offset_is_slot slot)) [ inl low ↦ inr (omega (arith, low)) | inr high ↦ inl (omega (arith, high)) ] in
    subst IsShut (sym is) (both_shut (with_gate slot 0 before) (slot_offset slot) (offset_is_slot slot) (gate_is_shut slot before)
    (λ opened. shut (sym (gate_alone slot 0 before (other_slot (slot_offset slot)) apart) ∙ opened)))

but_for_gates : (slot : Slot) (before image : Image) → image ≡ with_gate slot 0 before → SameButForGates before image
but_for_gates slot before image is offset a b =
    ap (λ (i : Image). i offset) is ∙ gate_alone slot 0 before offset (no_gate (slot_offset slot) offset (offset_is_slot slot) a b)

pub shuts_one : {T : Type 0} (slot : Slot) (old new : DiskState) (result : Result T StoreFault) → is_some new.reads ≡ is_some old.reads
    → ((before : Image) → old.reads ≡ Some before → IsOpen before (slot_offset slot) × ¬ IsOpen before (other_slot (slot_offset slot)))
    → OnOk result ((before : Image) → old.reads ≡ Some before → new.reads ≡ Some (with_gate slot 0 before)) → OnOk result (IsSettled new)
    → AddsOnly old new (Torn (slot_offset slot) 1 old.now) → ShutsGates old new result
shuts_one slot old new result tells gates_say written settled torn = record {
  shut = on_ok_two result (λ reads only image may.
      let over = written_over slot 0 old.reads new.reads image tells (only.only image may) reads in
      one_shut slot over.0 image (gates_say over.0 over.1).1 over.2) written settled;
  rest = on_ok_by result (λ reads before told image later. but_for_gates slot before image (same_image image _ (sym later ∙ reads before told))) written;
  gates = adds_less old new _ _ (λ image is. torn_gates (slot_offset slot) old.now image (offset_is_slot slot) is) torn;
  holds = λ alone before told. adds_less old new _ _ (λ image is. one_torn slot old before image (gates_say before told).0 (gates_say before told).1 alone told is) torn;
}

-- nothing was open
pub shuts_none : {T : Type 0} (old new : DiskState) (result : Result T StoreFault) → ((before : Image) → old.reads ≡ Some before → IsShut before) → is_some new.reads ≡ is_some old.reads
    → OnOk result (new.reads ≡ old.reads) → OnOk result (IsSettled new) → AddsOnly old new old.now → ShutsGates old new result
shuts_none old new result gates_say tells kept settled adds = record {
  shut = on_ok_two result (λ same only image may. gates_say image (sym same ∙ only.only image may)) kept settled;
  rest = on_ok_by result (λ same before told image later offset a b. ap (λ (i : Image). i offset) (same_image image before (sym later ∙ same ∙ told))) kept;
  gates = adds_less old new _ _ (λ image is. as_it_was old.now image is) adds;
  holds = λ alone before told. adds_less old new _ _ (λ image is. inl (subst (HoldsTheSame before) (sym (only_read old before image alone told is)) (same_holds before))) adds;
}

-- ---- both are open

-- The other gate is torn first, which changes nothing.
first_torn : (active : ℕ) (old : DiskState) (before image : Image) → IsActiveSlot before active → IsOpen before (other_slot active) → IsSettled old → old.reads ≡ Some before
    → Torn (other_slot active) 1 old.now image → HoldsTheSame before image
first_torn active old before image rules there settled told torn =
    let was = only_read old before torn.before settled told torn.was in
    other_gate_holds active before image rules (λ offset out. torn.same offset out ∙ ap (λ (i : Image). i offset) was) (λ _. there)

pub shuts_first : {T : Type 0} (active other : Slot) (old new : DiskState) (result : Result T StoreFault) → slot_offset other ≡ other_slot (slot_offset active)
    → ((before : Image) → old.reads ≡ Some before → IsActiveSlot before (slot_offset active) × IsOpen before (other_slot (slot_offset active)))
    → AddsOnly old new (Torn (slot_offset other) 1 old.now) → IsErr result → ShutsGates old new result
shuts_first active other old new result is gates_say torn failed = record {
  shut = not_ok _ result failed;
  rest = not_ok _ result failed;
  gates = adds_less old new _ _ (λ image was. torn_gates (slot_offset other) old.now image (offset_is_slot other) was) torn;
  holds = λ alone before told. adds_less old new _ _ (λ image was. inl (first_torn (slot_offset active) old before image (gates_say before told).0 (gates_say before told).1 alone told
      (subst (λ (n : ℕ). Torn n 1 old.now image) is was))) torn;
}

-- what is read once the other gate is shut
record IsHalfShut (active : ℕ) (before middle : Image) : Type 0 where
  same : SameButForOther active before middle
  shut : ¬ IsOpen middle (other_slot active)

half_shut : (active other : Slot) (before middle : Image) → slot_offset other ≡ other_slot (slot_offset active) → middle ≡ with_gate other 0 before → IsHalfShut (slot_offset active) before middle
half_shut active other before middle is written =
    subst (IsHalfShut (slot_offset active) before) (sym written) (record {
      same = subst (λ (n : ℕ). SameOutside n 1 before (with_gate other 0 before)) is (gate_alone other 0 before);
      shut = subst (λ (n : ℕ). ¬ IsOpen (with_gate other 0 before) n) is (gate_is_shut other before);
    })

pub shuts_both : {T : Type 0} (active other : Slot) (old middle new : DiskState) (result : Result T StoreFault) → slot_offset other ≡ other_slot (slot_offset active)
    → is_some middle.reads ≡ is_some old.reads → is_some new.reads ≡ is_some middle.reads
    → ((before : Image) → old.reads ≡ Some before → IsActiveSlot before (slot_offset active) × IsOpen before (other_slot (slot_offset active)))
    → AddsOnly old middle (Torn (slot_offset other) 1 old.now)
    → ((before : Image) → old.reads ≡ Some before → middle.reads ≡ Some (with_gate other 0 before)) → IsSettled middle
    → OnOk result ((before : Image) → middle.reads ≡ Some before → new.reads ≡ Some (with_gate active 0 before)) → OnOk result (IsSettled new)
    → AddsOnly middle new (Torn (slot_offset active) 1 middle.now) → ShutsGates old new result
shuts_both active other old middle new result is tells then_tells gates_say first_torn_only first_written first_settled written settled torn = record {
  shut = on_ok_two result (λ reads only image may.
      let over = written_over active 0 middle.reads new.reads image then_tells (only.only image may) reads in
      let long = written_over other 0 old.reads middle.reads over.0 tells over.1 first_written in
      one_shut active over.0 image (half_shut active other long.0 over.0 is long.2).shut over.2) written settled;
  rest = on_ok_by result (λ reads before told image later offset a b.
      but_for_gates active (with_gate other 0 before) image (same_image image _ (sym later ∙ reads _ (first_written before told))) offset a b
      ∙ but_for_gates other before (with_gate other 0 before) refl offset a b) written;
  gates = adds_joined old middle new _ _ _ first_torn_only torn (λ image was. torn_gates (slot_offset other) old.now image (offset_is_slot other) was)
      (λ image was. torn_again (slot_offset active) old.now middle.now image (offset_is_slot active)
      (λ i may. torn_gates (slot_offset other) old.now i (offset_is_slot other) (first_torn_only.here i may)) was);
  holds = λ alone before told. adds_joined old middle new _ _ _ first_torn_only torn
      (λ image was. inl (first_torn (slot_offset active) old before image (gates_say before told).0 (gates_say before told).1 alone told (subst (λ (n : ℕ). Torn n 1 old.now image) is was)))
      (λ image was.
      let half = half_at before told in
      let only = only_read middle (with_gate other 0 before) was.before first_settled (first_written before told) was.was in
      last_gate (slot_offset active) before was.before image (gates_say before told).0
      (λ offset out. ap (λ (i : Image). i offset) only ∙ half.same offset out)
      (λ opened. half.shut (sym (ap (λ (i : Image). i (other_slot (slot_offset active))) only) ∙ opened)) was.same);
}
  where
    half_at : (before : Image) → old.reads ≡ Some before → IsHalfShut (slot_offset active) before (with_gate other 0 before)
    half_at before told = half_shut active other before (with_gate other 0 before) is refl

-- ---- after reads

-- The gates are shut after reads.
pub shuts_after_reads : {T : Type 0} (old read new : DiskState) (result : Result T StoreFault) → OnlyReads old read → read.reads ≡ old.reads → ShutsGates read new result → ShutsGates old new result
shuts_after_reads old read new result only kept shuts = record {
  shut = shuts.shut;
  rest = on_ok_by result (λ later before told. later before (kept ∙ told)) shuts.rest;
  gates = adds_joined old read new _ _ _ (adds_read old read only) shuts.gates (λ image is. as_it_was old.now image is)
      (λ image is. record { before = is.before; was = only.now is.before is.was; same = is.same });
  holds = λ alone before told. adds_joined old read new _ _ _ (adds_read old read only) (shuts.holds (settled_read old read only kept alone) before (kept ∙ told))
      (λ image is. inl (subst (HoldsTheSame before) (sym (only_read old before image alone told is)) (same_holds before))) (λ image is. is);
}

-- the reads failed
pub shuts_not : {T : Type 0} (old read : DiskState) (result : Result T StoreFault) → OnlyReads old read → IsErr result → ShutsGates old read result
shuts_not old read result only failed = record {
  shut = not_ok _ result failed;
  rest = not_ok _ result failed;
  gates = adds_less old read _ _ (λ image is. as_it_was old.now image is) (adds_read old read only);
  holds = λ alone before told. adds_less old read _ _ (λ image is. inl (subst (HoldsTheSame before) (sym (only_read old before image alone told is)) (same_holds before))) (adds_read old read only);
}
