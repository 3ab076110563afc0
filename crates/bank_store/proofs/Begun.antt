-- What the begin of an installation leaves.
use Rattle.std.proofs.Common.{◌≡◌, ◌⊎◌, ℕ, ◌+◌, ◌<◌, ◌≤◌, [], ◌∷◌, Some, Result, Ok, Err, OnOk, true, false, sym, ◌∙◌, ap, subst, arith}
use Rattle.std.specs.Prelude.{is_some}
use Rattle.disk_model.specs.Image.{Image, overlay}
use Rattle.disk_model.specs.State.{DiskState, IsSettled, Elapses, Torn}
use Rattle.disk_model.specs.declared.disk.DiskFault.{DiskFault}
use Rattle.disk_model.proofs.OverlayLemmas.{overlay_inside, overlay_outside}
use Rattle.disk_layout.specs.Slots.{IsOpen}
use Rattle.disk_layout.specs.Holds.{StandingView, HoldsBy, HoldsConfig}
use Rattle.bank_store.specs.DiskWrites.{AddsOnly, IsRunning}
use Rattle.disk_layout.specs.Slots.{other_slot}
use Rattle.bank_store.specs.Store.{active_slot, IsFilling, SameActive, nothing_filled}
use Rattle.bank_store.specs.Given.{nothing_given}
use Rattle.bank_store.specs.Fits.{HoldsFor, Fits, Works, InstallsBeside}
use Rattle.bank_store.specs.Keeps.{IsShutFor, LeavesActive, LeavesRest, Keeps}
use Rattle.bank_store.specs.declared.fault.StoreFault.{StoreFault}
use Rattle.bank_store.specs.declared.store.Store.{Store}
use Rattle.bank_store.proofs.Continuing.{has_work, not_sealed}
use Rattle.bank_store.proofs.Gates.{same_image}
use Rattle.bank_store.proofs.Giving.{given_nothing}
use Rattle.bank_store.proofs.Images.{told_before}
use Rattle.bank_store.proofs.Moments.{adds_first}
use Rattle.bank_store.proofs.Near.{SameButForGate, offset_same, length_same, shut_stands, torn_gate_stands}
use Rattle.bank_store.proofs.Carried.{offset_carried, length_carried, same_slot, same_bank, same_sequence}

pub on_ok_by : {T E A B : Type 0} (result : Result T E) → (A → B) → OnOk result A → OnOk result B
on_ok_by (Ok x) f a = f a
on_ok_by (Err e) f a = tt

-- the gate was shut, or is torn
pub shut_gate : (store : Store) (image : Image) (s : StandingView) (at : ℕ) → at ≡ other_slot (active_slot store) → HoldsFor store image s → IsShutFor store (overlay image at (0 ∷ [])) s
shut_gate store image s at is was =
    let now : Image = overlay image at (0 ∷ []) in
    let here : other_slot (active_slot store) ≡ at + 0 = omega (arith, is) in
    let zero_there : now (other_slot (active_slot store)) ≡ 0 = ap now here ∙ overlay_inside image at (0 ∷ []) 0 (omega arith) in
    let shut : ¬ IsOpen now (other_slot (active_slot store)) = λ opened. absurd (zero_not (now (other_slot (active_slot store))) zero_there opened) in
    let same : SameButForGate store image now = λ offset out apart. overlay_outside image at (0 ∷ []) offset (subst (λ (n : ℕ). (offset < n) ⊎ (n + 1 ≤ offset)) (sym is) apart) in
    record {
      by = shut_stands store image now s was same shut;
      shut = shut;
      offset = offset_same store image now s was same;
      length = length_same store image now s was same;
    }
  where
    zero_not : (byte : ℕ) → byte ≡ 0 → byte ≡ 0xA5 → ⊥
    zero_not byte is opened = omega (arith, is, opened)

pub while_shutting : {T : Type 0} (store : Store) (old new : DiskState) (at : ℕ) (s : StandingView) (result : Result T DiskFault) → at ≡ other_slot (active_slot store) → store.other_is_open ≡ true
    → InstallsBeside store old s → Elapses old new (Torn at 1 old.now) result → AddsOnly old new (λ left. HoldsConfig left s)
while_shutting store old new at s result is opened beside elapses =
    adds_first old new (Torn at 1 old.now) (λ left. HoldsConfig left s) result elapses
    (λ left torn. torn_gate_stands store beside.image left s opened beside.holds
    (λ offset out apart. torn.same offset (subst (λ (n : ℕ). (offset < n) ⊎ (n + 1 ≤ offset)) (sym is) apart) ∙ beside.works.near beside.image beside.told torn.before torn.was offset out))

pub begun_stands : (old new : Store) (image now : Image) (s : StandingView) → SameActive old new → new.other_is_open ≡ false → HoldsFor old image s → IsShutFor old now s → HoldsFor new now s
begun_stands old new image now s rules shut was is = record {
  by = subst (λ (n : ℕ). HoldsBy now n s) (sym (same_slot rules)) is.by;
  bank = was.bank ∙ sym (same_bank rules);
  sequence = was.sequence ∙ sym (same_sequence rules);
  size = was.size ∙ sym rules.size;
  offset = offset_carried old new now rules is.offset;
  length = length_carried old new now rules is.length;
  known = rules.known ∙ was.known;
  gate = record {
    open_there = λ opened. absurd (true_not_false (sym opened ∙ shut));
    shut_there = λ _ there. is.shut (subst (λ (n : ℕ). IsOpen now (other_slot n)) (same_slot rules) there);
  };
}
  where
    true_not_false : true ≡ false → ⊥
    true_not_false e = cc

pub begun_fits : (old new : Store) (before after : DiskState) → IsRunning after → SameActive old new → new.other_is_open ≡ false → IsFilling new nothing_filled → new.body.items ≡ []
    → is_some after.reads ≡ is_some before.reads
    → ((image now : Image) (s : StandingView) → before.reads ≡ Some image → after.reads ≡ Some now → HoldsFor old image s → IsShutFor old now s) → Fits old before → Fits new after
begun_fits old new before after running active shut filling empty tells each fits = record {
  running = running;
  holds = λ now told.
      let first = told_before before.reads after.reads now tells told in
      let s = fits.holds first.0 first.1 in
      (s.0, begun_stands old new first.0 now s.0 active shut s.1 (each first.0 now s.0 first.1 told s.1));
  work = λ now told. has_work new now nothing_filled nothing_given filling (given_nothing new now filling empty);
}

pub begun_works : (old new : Store) (before after : DiskState) → IsFilling new nothing_filled → IsSettled after → (Fits old before → Fits new after) → Works old before → Works new after
begun_works old new before after filling settled fits works = record {
  fits = fits works.fits;
  near = λ now told left may offset out. ap (λ (i : Image). i offset) (same_image left now (sym (settled.only left may) ∙ told));
  settled = λ sealed. absurd (not_sealed new nothing_filled filling sealed);
}

-- ---- the whole call

pub begun_keeps : {T : Type 0} (old new : Store) (before after : DiskState) (result : Result T StoreFault) → IsRunning after → SameActive old new → new.other_is_open ≡ false
    → IsFilling new nothing_filled → new.body.items ≡ [] → is_some after.reads ≡ is_some before.reads
    → ((image now : Image) (s : StandingView) → before.reads ≡ Some image → after.reads ≡ Some now → HoldsFor old image s → IsShutFor old now s) → IsSettled after
    → LeavesActive old before after → LeavesRest old before after → Keeps old new before after result
begun_keeps old new before after result running active shut filling empty tells each settled leaves rest =
    let fits : Fits old before → Fits new after = begun_fits old new before after running active shut filling empty tells each in
    record {
      active = active;
      leaves = leaves;
      answered = λ _. record {
        running = running;
        fits = fits;
        works = begun_works old new before after filling settled fits;
        holds = λ image told now later s was. begun_stands old new image now s active shut was (each image now s told later was);
        rest = rest;
      };
    }
