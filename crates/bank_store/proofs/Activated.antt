-- What opening the gate leaves.
use Rattle.std.proofs.Common.{◌≡◌, ◌⊎◌, inl, inr, ℕ, ◌+◌, ◌<◌, ◌≤◌, [], ◌∷◌, List, get_or, Some, Result, true, false, sym, ◌∙◌, ap, ap₂, subst, arith}
use Rattle.std.specs.Prelude.{is_some}
use Rattle.std.specs.Option.{ForSome}
use Rattle.load_base.specs.Config.{LoadView}
use Rattle.std.proofs.lemmas.Bool.{cases_eq}
use Rattle.disk_model.specs.Image.{Image, overlay, SameOutside}
use Rattle.disk_model.specs.State.{DiskState, IsSettled, Elapses, Torn}
use Rattle.disk_model.specs.declared.disk.DiskFault.{DiskFault}
use Rattle.disk_model.proofs.OverlayLemmas.{overlay_is, overlay_outside}
use Rattle.disk_layout.specs.Slots.{IsOpen, IsSlot, bank_number, manifest_offset_of, manifest_length_of, slot_offset}
use Rattle.disk_layout.specs.declared.active.Active.{Active}
use Rattle.disk_layout.specs.declared.active.ManifestRange.{ManifestRange}
use Rattle.disk_layout.proofs.SlotLemmas.{offset_is_slot}
use Rattle.disk_layout.specs.Holds.{StandingView, HoldsBy, HoldsConfig}
use Rattle.bank_store.specs.DiskWrites.{AddsOnly, IsRunning}
use Rattle.disk_layout.specs.Slots.{other_slot}
use Rattle.disk_layout.specs.Slots.{other_bank}
use Rattle.bank_store.specs.Store.{active_slot, active_bank, active_sequence, IsSealed, IsSealedAt, IsPrepared, Switches}
use Rattle.bank_store.specs.Given.{configured}
use Rattle.bank_store.specs.Fits.{HoldsFor, IsReady, HoldsAt, HasWork, Fits, CanActivate}
use Rattle.bank_store.specs.Keeps.{IsOldOrNew, Activates}
use Rattle.bank_store.specs.declared.store.Store.{Store}
use Rattle.bank_store.specs.declared.stage.Stage.{Stage}
use Rattle.bank_store.specs.declared.stage.Stage.TheVariants as stages
use Rattle.bank_store.proofs.Gates.{same_image}
use Rattle.bank_store.proofs.Images.{told_before}
use Rattle.bank_store.proofs.Moments.{adds_first}
use Rattle.bank_store.proofs.Near.{shut_stands}
use Rattle.bank_store.proofs.Premises.{idle_fits, settled_works}
use Rattle.bank_store.proofs.Rests.{rest_gate}
use Rattle.bank_store.proofs.Written.{told_as}

opened_is : (image left : Image) (at : ℕ) → SameOutside at 1 image left → IsOpen left at → left ≡ overlay image at (0xA5 ∷ [])
opened_is image left at same opened = λ i offset. overlay_is image left at (0xA5 ∷ []) inside same offset i
  where
    inside : (k : ℕ) → k < 1 → left (at + k) ≡ get_or (0xA5 ∷ []) k 0
    inside k below =
        let none : k ≡ 0 = omega (arith, below) in
        ap (λ (j : ℕ). left (at + j)) none ∙ ap left (omega arith) ∙ opened ∙ ap (λ (j : ℕ). get_or (0xA5 ∷ []) j 0) (sym none)

-- whatever the gate's byte, the image holds one of the two
gate_torn : (store : Store) (image left : Image) (s : StandingView) (loads : List LoadView) → HoldsFor store image s → IsReady store image s loads → SameOutside (other_slot (active_slot store)) 1 image left
    → IsOldOrNew s (configured s loads) left
gate_torn store image left s loads was ready same = elim (cases_eq (left (other_slot (active_slot store))) 0xA5) [
  | inl opened ↦ inr (record {
    slot = other_slot (active_slot store);
    by = subst (λ (i : Image). HoldsBy i (other_slot (active_slot store)) (configured s loads)) (sym (opened_is image left (other_slot (active_slot store)) same opened)) ready.opens;
  })
  | inr shut ↦ inl (record { slot = (active_slot store); by = shut_stands store image left s was (λ offset out apart. same offset apart) shut })
]

pub while_opening : {T : Type 0} (store : Store) (old new : DiskState) (at : ℕ) (s : StandingView) (loads : List LoadView) (result : Result T DiskFault) → at ≡ other_slot (active_slot store)
    → CanActivate store old s loads → Elapses old new (Torn at 1 old.now) result → AddsOnly old new (IsOldOrNew s (configured s loads))
while_opening store old new at s loads result is can elapses =
    adds_first old new (Torn at 1 old.now) (IsOldOrNew s (configured s loads)) result elapses
    (λ left torn. gate_torn store can.beside.image left s loads can.beside.holds can.ready
    (λ offset out. torn.same offset (subst (λ (n : ℕ). (offset < n) ⊎ (n + 1 ≤ offset)) (sym is) out) ∙ ap (λ (i : Image). i offset) (sym (alone torn.before torn.was))))
  where
    alone : (left : Image) → old.now left → can.beside.image ≡ left
    alone left may = same_image can.beside.image left (sym can.beside.told ∙ (can.beside.works.settled (can.ready.manifest, can.ready.stage)).only left may)

-- the image with the gate open
pub opened_by : (store : Store) (image : Image) (s : StandingView) (loads : List LoadView) (at : ℕ) → at ≡ other_slot (active_slot store) → IsReady store image s loads
    → HoldsBy (overlay image at (0xA5 ∷ [])) (other_slot (active_slot store)) (configured s loads)
opened_by store image s loads at is ready = subst (λ (n : ℕ). HoldsBy (overlay image n (0xA5 ∷ [])) (other_slot (active_slot store)) (configured s loads)) (sym is) ready.opens

slots_differ : (slot : ℕ) → IsSlot slot → (slot < other_slot slot) ⊎ (other_slot slot + 1 ≤ slot)
slots_differ slot (inl e) = inl (omega (arith, e))
slots_differ slot (inr e) = inr (omega (arith, e))

other_other : (slot : ℕ) → IsSlot slot → other_slot (other_slot slot) ≡ slot
other_other slot (inl e) = omega (arith, e)
other_other slot (inr e) = omega (arith, e)

one_range : (a b : ManifestRange) → ◌≡◌ {A = Stage} (stages.Sealed a) (stages.Sealed b) → a ≡ b
one_range a b e = cc

pub switched_stands : (old new : Store) (image now : Image) (s : StandingView) (loads : List LoadView) (at : ℕ) → Switches old new → at ≡ other_slot (active_slot old) → now ≡ overlay image at (0xA5 ∷ [])
    → HoldsFor old image s → IsReady old image s loads → HoldsFor new now (configured s loads)
switched_stands old new image now s loads at switches is opened was ready =
    let is_slot = offset_is_slot old.active.slot in
    let back : other_slot (active_slot new) ≡ (active_slot old) = ap other_slot switches.slot ∙ other_other (active_slot old) is_slot in
    let same_manifest : ready.manifest ≡ new.active.manifest = one_range ready.manifest new.active.manifest (sym ready.stage ∙ switches.manifest) in
    let old_gate : IsOpen now (active_slot old) =
    ap (λ (i : Image). i (active_slot old)) opened
    ∙ overlay_outside image at (0xA5 ∷ []) (active_slot old) (subst (λ (n : ℕ). ((active_slot old) < n) ⊎ (n + 1 ≤ (active_slot old))) (sym is) (slots_differ (active_slot old) is_slot)) ∙ was.by.outline.has_active.is_active.gate in
    record {
      by = subst (λ (n : ℕ). HoldsBy now n (configured s loads)) (sym switches.slot)
          (subst (λ (i : Image). HoldsBy i (other_slot (active_slot old)) (configured s loads)) (sym opened) (opened_by old image s loads at is ready));
      bank = ap (λ (b : ℕ). other_bank b) was.bank ∙ sym switches.bank;
      sequence = ap (λ (n : ℕ). n + 1) was.sequence ∙ sym switches.sequence;
      size = was.size ∙ sym switches.size;
      offset = ap₂ (λ (i : Image) (n : ℕ). manifest_offset_of i n) (opened ∙ ap (λ (n : ℕ). overlay image n (0xA5 ∷ [])) is) switches.slot ∙ ready.offset ∙ ap (λ (m : ManifestRange). m.offset) same_manifest;
      length = ap₂ (λ (i : Image) (n : ℕ). manifest_length_of i n) (opened ∙ ap (λ (n : ℕ). overlay image n (0xA5 ∷ [])) is) switches.slot ∙ ready.length ∙ ap (λ (m : ManifestRange). m.length) same_manifest;
      known = switches.known ∙ ready.known;
      gate = record {
        open_there = λ _. subst (λ (n : ℕ). IsOpen now n) (sym back) old_gate;
        shut_there = λ shut. absurd (true_not_false (sym switches.opened ∙ shut));
      };
    }
  where
    true_not_false : true ≡ false → ⊥
    true_not_false e = cc

ready_of : (store : Store) (image : Image) → IsSealed store → HasWork store image → (s : StandingView) × (loads : List LoadView) × HoldsFor store image s × IsReady store image s loads
ready_of store image sealed work = subst (λ (stage : Stage). HoldsAt store image stage) sealed.1 work

pub switched_holds : (old new : Store) (before after : DiskState) (at : ℕ) → Switches old new → at ≡ other_slot (active_slot old) → IsSealed old → is_some after.reads ≡ is_some before.reads
    → ((image now : Image) → before.reads ≡ Some image → after.reads ≡ Some now → now ≡ overlay image at (0xA5 ∷ [])) → Fits old before → ForSome after.reads (λ now. (s : StandingView) × HoldsFor new now s)
switched_holds old new before after at switches is sealed tells opened fits now told =
    let first = told_before before.reads after.reads now tells told in
    let r = ready_of old first.0 sealed (fits.work first.0 first.1) in
    (configured r.0 r.1, switched_stands old new first.0 now r.0 r.1 at switches is (opened first.0 now first.1 told) r.2 r.3)

-- where the gate is open, nothing else may be left
pub opened_alone : (store : Store) (before after : DiskState) (s : StandingView) (loads : List LoadView) (at : ℕ) → at ≡ other_slot (active_slot store) → CanActivate store before s loads
    → ((image now : Image) → before.reads ≡ Some image → after.reads ≡ Some now → now ≡ overlay image at (0xA5 ∷ [])) → IsSettled after → (left : Image) → after.now left → HoldsConfig left (configured s loads)
opened_alone store before after s loads at is can opened settled left may = record {
  slot = other_slot (active_slot store);
  by = subst (λ (i : Image). HoldsBy i (other_slot (active_slot store)) (configured s loads)) (sym (opened can.beside.image left can.beside.told (settled.only left may)))
      (opened_by store can.beside.image s loads at is can.ready);
}

-- ---- the whole call

pub activated : (old middle new : Store) (before after : DiskState) (slot : ℕ) (manifest : ManifestRange) → middle.size ≡ old.size → middle.active ≡ old.active → slot ≡ other_slot (active_slot old) → new.size ≡ middle.size
    → active_slot new ≡ other_slot (active_slot middle) → active_bank new ≡ other_bank (active_bank middle) → active_sequence new ≡ active_sequence middle + 1 → new.active.manifest ≡ manifest
    → new.known.items ≡ old.body.items → new.other_is_open ≡ true → IsPrepared new → IsSealedAt old manifest → is_some after.reads ≡ is_some before.reads
    → ((image : Image) → before.reads ≡ Some image → after.reads ≡ Some (overlay image slot (0xA5 ∷ []))) → IsSettled after → IsRunning after → Activates old new before after
activated old middle new before after slot manifest same_size same_active is size new_slot bank sequence named known opened prepared sealed tells reads settled running =
    let switches : Switches old new = record {
      size = size ∙ same_size;
      slot = new_slot ∙ ap (λ (a : Active). other_slot (slot_offset a.slot)) same_active;
      bank = bank ∙ ap (λ (a : Active). other_bank (bank_number a.bank)) same_active;
      sequence = sequence ∙ ap (λ (a : Active). a.sequence + 1) same_active;
      manifest = sealed ∙ ap (λ (m : ManifestRange). stages.Sealed m) (sym named);
      known = known;
      opened = opened;
      idle = prepared.idle;
    } in
    let laid : (image now : Image) → before.reads ≡ Some image → after.reads ≡ Some now → now ≡ overlay image slot (0xA5 ∷ []) =
    λ image now told later. same_image now (overlay image slot (0xA5 ∷ [])) (sym later ∙ reads image told) in
    let fits : Fits old before → Fits new after =
    λ fits. idle_fits new after prepared.idle running (switched_holds old new before after slot switches is (manifest, sealed) tells laid fits) in
    record {
      switches = switches;
      prepared = prepared;
      written = λ image told. reads image told ∙ ap (λ (at : ℕ). told_as (overlay image at (0xA5 ∷ []))) is;
      holds = λ image told now later s loads was ready. switched_stands old new image now s loads slot switches is (laid image now told later) was ready;
      alone = λ s loads can. opened_alone old before after s loads slot is can laid settled;
      settled = settled;
      running = running;
      fits = fits;
      works = λ works. settled_works new after prepared.idle settled (fits works.fits);
      rest = λ image told now later offset out. rest_gate old image now slot _ offset is (laid image now told later) out;
    }
