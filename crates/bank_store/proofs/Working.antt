-- What holds over the calls of an installation.
use Rattle.std.proofs.Common.{◌≡◌, inl, inr, ℕ, ◌+◌, ◌<◌, ◌≤◌, List, length, Some, Result, false, arith}
use Rattle.std.specs.Prelude.{is_some}
use Rattle.std.proofs.lemmas.Bool.{cases_lt}
use Rattle.disk_model.specs.Image.{Image, overlay}
use Rattle.disk_model.specs.State.{DiskState, Elapses, Torn, IsSettled}
use Rattle.disk_model.proofs.OverlayLemmas.{overlay_outside}
use Rattle.disk_model.specs.declared.disk.DiskFault.{DiskFault}
use Rattle.disk_layout.specs.Holds.{StandingView, HoldsConfig}
use Rattle.bank_store.specs.DiskWrites.{AddsOnly, IsRunning}
use Rattle.disk_layout.specs.Slots.{other_slot}
use Rattle.bank_store.specs.Store.{active_slot, work_at, SameActive, IsSealed}
use Rattle.bank_store.specs.Fits.{HoldsFor, SameButForWork, HasWork, Fits, Works}
use Rattle.bank_store.specs.Keeps.{KeepsNear, StillHolds, Keeps}
use Rattle.bank_store.specs.declared.fault.StoreFault.{StoreFault}
use Rattle.bank_store.specs.declared.store.Store.{Store}
use Rattle.bank_store.proofs.Rests.{rest_near}
use Rattle.bank_store.proofs.Near.{IsWork, near_stands, near_torn, near_on, near_back}
use Rattle.bank_store.proofs.Carried.{near_carried, stands_carried}
use Rattle.bank_store.proofs.Images.{told_before}
use Rattle.bank_store.proofs.Moments.{adds_none, adds_less, adds_more, adds_joined}

-- a part of the other bank
pub bank_is_work : (store : Store) (at n : ℕ) → work_at store ≤ at → at + n ≤ work_at store + store.size → IsWork store at n
bank_is_work store at n begins ends = record {
  within = λ offset out. elim (cases_lt offset at) [
    | inl before ↦ inl before
    | inr from ↦ elim (cases_lt offset (at + n)) [
      | inl within ↦ absurd (out (inl (omega (arith, begins, from), omega (arith, ends, within))))
      | inr after ↦ inr after
    ]
  ];
}

-- a part of the other slot's body
pub slot_is_work : (store : Store) (at n : ℕ) → store.other_is_open ≡ false → other_slot (active_slot store) < at → at + n ≤ other_slot (active_slot store) + 29 → IsWork store at n
slot_is_work store at n shut begins ends = record {
  within = λ offset out. elim (cases_lt offset at) [
    | inl before ↦ inl before
    | inr from ↦ elim (cases_lt offset (at + n)) [
      | inl within ↦ absurd (out (inr (shut, omega (arith, begins, from), omega (arith, ends, within))))
      | inr after ↦ inr after
    ]
  ];
}

-- at the start of a call, from what is read
pub near_start : (store : Store) (disk : DiskState) (image : Image) → Works store disk → disk.reads ≡ Some image → AddsOnly disk disk (SameButForWork store image)
near_start store disk image works told = adds_none disk (SameButForWork store image) (works.near image told)

-- over a write
pub near_write : {T : Type 0} (store : Store) (first : DiskState) (image : Image) (old new : DiskState) (at n : ℕ) (result : Result T DiskFault) → IsWork store at n
    → AddsOnly first old (SameButForWork store image) → Elapses old new (Torn at n old.now) result → AddsOnly first new (SameButForWork store image)
near_write store first image old new at n result work was elapses =
    adds_more first old new (Torn at n old.now) (SameButForWork store image) result was elapses
    (λ left torn. near_torn store image torn.before left at n work (was.here torn.before torn.was) torn.same)

-- over calls that keep near
pub near_then : (store : Store) (first old new : DiskState) (image : Image) → AddsOnly first old (SameButForWork store image) → KeepsNear store old new → AddsOnly first new (SameButForWork store image)
near_then store first old new image was keeps =
    adds_joined first old new (SameButForWork store image) (SameButForWork store image) (SameButForWork store image) was (keeps image was.here) (λ left is. is) (λ left is. is)

-- the same configuration is active all the time
pub holds_still : (store : Store) (first disk : DiskState) (image : Image) (s : StandingView) → HoldsFor store image s → AddsOnly first disk (SameButForWork store image)
    → AddsOnly first disk (λ left. HoldsConfig left s)
holds_still store first disk image s was near =
    adds_less first disk (SameButForWork store image) (λ left. HoldsConfig left s) (λ left same. record { slot = (active_slot store); by = (near_stands store image left s was same).by }) near

-- what an installation writes leaves the rest as it was
pub near_overlay : (store : Store) (image : Image) (at : ℕ) (bytes : List ℕ) → IsWork store at (length bytes) → SameButForWork store image (overlay image at bytes)
near_overlay store image at bytes work offset out = overlay_outside image at bytes offset (work.within offset out)

-- ---- after a call that is answered

-- the store still fits the disk
pub fits_on : (old new : Store) (before after : DiskState) → IsRunning after → is_some after.reads ≡ is_some before.reads → StillHolds old new before after
    → ((image now : Image) (s : StandingView) → before.reads ≡ Some image → after.reads ≡ Some now → HoldsFor old image s → HasWork old image → HasWork new now) → Fits old before → Fits new after
fits_on old new before after running tells holds work fits = record {
  running = running;
  holds = λ now told.
      let first = told_before before.reads after.reads now tells told in
      let s = fits.holds first.0 first.1 in
      (s.0, holds first.0 first.1 now told s.0 s.1);
  work = λ now told.
      let first = told_before before.reads after.reads now tells told in
      let s = fits.holds first.0 first.1 in
      work first.0 now s.0 first.1 told s.1 (fits.work first.0 first.1);
}

-- and it still works on it; `here` is the law `reads_now`
pub works_on : (old new : Store) (before after first : DiskState) → SameActive old new → new.other_is_open ≡ old.other_is_open → is_some after.reads ≡ is_some before.reads
    → ((image : Image) → after.reads ≡ Some image → after.now image) → ((image : Image) → before.reads ≡ Some image → AddsOnly first after (SameButForWork old image))
    → (IsSealed new → IsSettled after) → (Fits old before → Fits new after) → Works old before → Works new after
works_on old new before after first active gate tells here near settled fits works = record {
  fits = fits works.fits;
  near = λ now told left may.
      let first = told_before before.reads after.reads now tells told in
      let left_near = near first.0 first.1 in
      near_carried old new active gate now left
      (near_on old now first.0 left (near_back old first.0 now (left_near.here now (here now told))) (left_near.here left may));
  settled = settled;
}

-- ---- a whole call that writes what an installation does, and is answered; `here` is the law `reads_now`

pub keeps_written : {T : Type 0} (old new : Store) (before after : DiskState) (result : Result T StoreFault) → SameActive old new → new.other_is_open ≡ old.other_is_open → IsRunning after
    → is_some after.reads ≡ is_some before.reads → ((image : Image) → after.reads ≡ Some image → after.now image)
    → ((image : Image) → Works old before → before.reads ≡ Some image → AddsOnly before after (SameButForWork old image))
    → ((image now : Image) → before.reads ≡ Some image → after.reads ≡ Some now → SameButForWork old image now)
    → ((image now : Image) (s : StandingView) → before.reads ≡ Some image → after.reads ≡ Some now → HoldsFor old image s → HasWork old image → HasWork new now)
    → (IsSealed new → IsSettled after) → Keeps old new before after result
keeps_written old new before after result active gate running tells here near same work settled =
    let holds : StillHolds old new before after = λ image told now later s was. stands_carried old new active gate now s (near_stands old image now s was (same image now told later)) in
    let fits : Fits old before → Fits new after = fits_on old new before after running tells holds work in
    record {
      active = active;
      leaves = λ s beside. holds_still old before after beside.image s beside.holds (near beside.image beside.works beside.told);
      answered = λ _. record {
        running = running;
        fits = fits;
        works = λ works. works_on old new before after before active gate tells here (λ image told. near image works told) settled fits works;
        holds = holds;
        rest = λ image told now later offset out. rest_near old image now offset (same image now told later) out;
      };
    }
