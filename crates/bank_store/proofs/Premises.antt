-- Where a store works.
use Rattle.std.proofs.Common.{◌≡◌, ◌⊎◌, inl, inr, ℕ, ◌+◌, ◌-◌, ◌<◌, Bool, true, false, Some, sym, ◌∙◌, ap, subst, refl, arith}
use Rattle.std.proofs.lemmas.Bool.{cases_eq}
use Rattle.std.specs.Option.{ForSome}
use Rattle.disk_model.specs.Image.{Image}
use Rattle.disk_model.specs.State.{DiskState, IsSettled}
use Rattle.disk_layout.specs.DiskReads.{RunsOn}
use Rattle.disk_layout.specs.Holds.{StandingView, HoldsBy, HoldsConfig}
use Rattle.disk_layout.specs.Offsets.{bank_at}
use Rattle.disk_layout.specs.Slots.{IsOpen, other_slot}
use Rattle.disk_layout.proofs.SlotLemmas.{one_slot}
use Rattle.bank_store.specs.DiskWrites.{IsRunning}
use Rattle.bank_store.specs.Store.{active_slot, work_at, IsIdle}
use Rattle.bank_store.specs.Fits.{HoldsFor, HoldsAt, Fits, IsWorkBeside, LosesOnlyWork, MayChange, Works, InstallsBeside}
use Rattle.bank_store.specs.Keeps.{Continues}
use Rattle.bank_store.specs.declared.store.Store.{Store}
use Rattle.bank_store.specs.declared.stage.Stage.{Stage}
use Rattle.bank_store.proofs.Continuing.{idle_not_sealed}
use Rattle.bank_store.proofs.Gates.{same_image}
use Rattle.bank_store.proofs.Near.{near_stands, other_low, stands_apart}

-- ---- where no installation has begun

pub idle_fits : (store : Store) (disk : DiskState) → IsIdle store → IsRunning disk → ForSome disk.reads (λ image. (s : StandingView) × HoldsFor store image s) → Fits store disk
idle_fits store disk idle running holds = record {
  running = running;
  holds = holds;
  work = λ image told. subst (λ (stage : Stage). HoldsAt store image stage) (sym idle) tt;
}

pub settled_works : (store : Store) (disk : DiskState) → IsIdle store → IsSettled disk → Fits store disk → Works store disk
settled_works store disk idle settled fits = record {
  fits = fits;
  near = λ image told left may offset out. ap (λ (i : Image). i offset) (same_image left image (sym (settled.only left may) ∙ told));
  settled = λ sealed. absurd (idle_not_sealed sealed.0 (sym idle ∙ sealed.1));
}

-- ---- what a power loss may take

-- no image holds two configurations
abbrev pub OneStanding : Type 0
OneStanding = (image : Image) (s t : StandingView) → HoldsConfig image s → HoldsConfig image t → s ≡ t

-- where an installation writes, by the store and by the image that it keeps
module _ (store : Store) (image : Image) (s : StandingView) (holds : HoldsFor store image s) where
  there : bank_at s.identity.bank (1 - s.bank) ≡ work_at store
  there = ap (λ (n : ℕ). bank_at n (1 - s.bank)) holds.size ∙ ap (λ (n : ℕ). bank_at store.size (1 - n)) holds.bank

  pub beside_is_work : (offset : ℕ) → IsWorkBeside image (active_slot store) s offset → MayChange store offset
  beside_is_work offset (inl bank) = inl (omega (arith, there, bank.0), omega (arith, there, bank.1, holds.size))
  beside_is_work offset (inr body) = inr (by store.other_is_open refl, body.1, body.2)
    where
      by : (is_open : Bool) → store.other_is_open ≡ is_open → store.other_is_open ≡ false
      by true is = absurd (body.0 (holds.gate.open_there is))
      by false is = is

  pub work_is_beside : (offset : ℕ) → MayChange store offset → IsWorkBeside image (active_slot store) s offset
  work_is_beside offset (inl bank) = inl (omega (arith, there, bank.0), omega (arith, there, bank.1, holds.size))
  work_is_beside offset (inr body) = inr (holds.gate.shut_there body.0, body.1, body.2)

pub idle_works : OneStanding → (store : Store) (disk : DiskState) → IsIdle store → LosesOnlyWork disk → Fits store disk → Works store disk
idle_works one store disk idle loses fits = record {
  fits = fits;
  near = λ image told left may offset out.
      let same : loses.image ≡ image = (let e : Some loses.image ≡ Some image = sym loses.told ∙ told in cc) in
      let (s, holds) = fits.holds image told in
      let by : HoldsBy image loses.slot loses.active = subst (λ (i : Image). HoldsBy i loses.slot loses.active) same loses.holds in
      let slot : loses.slot ≡ active_slot store = one_slot image loses.slot (active_slot store) by.outline.has_active.is_active holds.by.outline.has_active.is_active in
      let active : loses.active ≡ s = one image loses.active s (record { slot = loses.slot; by = by }) (record { slot = active_slot store; by = holds.by }) in
      loses.near left may offset (λ work. out (beside_is_work store image s holds offset
      (subst (λ (n : ℕ). IsWorkBeside image n s offset) slot
      (subst (λ (x : StandingView). IsWorkBeside image loses.slot x offset) active
      (subst (λ (i : Image). IsWorkBeside i loses.slot loses.active offset) same work)))))
      ∙ ap (λ (i : Image). i offset) same;
  settled = λ sealed. absurd (idle_not_sealed sealed.0 (sym idle ∙ sealed.1));
}

pub settled_loses : (disk : DiskState) (image : Image) (s : StandingView) → disk.reads ≡ Some image → HoldsConfig image s → IsSettled disk → LosesOnlyWork disk
settled_loses disk image s told holds settled = record {
  image = image;
  told = told;
  slot = holds.slot;
  active = s;
  holds = holds.by;
  near = λ left may offset out. ap (λ (i : Image). i offset) (same_image left image (sym (settled.only left may) ∙ told));
}

pub works_loses : (store : Store) (disk : DiskState) (image : Image) → disk.reads ≡ Some image → Works store disk → LosesOnlyWork disk
works_loses store disk image told works =
    let (s, holds) = works.fits.holds image told in
    record {
      image = image;
      told = told;
      slot = active_slot store;
      active = s;
      holds = holds.by;
      near = λ left may offset out. works.near image told left may offset (λ work. out (work_is_beside store image s holds offset work));
    }

pub still_loses : (old new : DiskState) → new.reads ≡ old.reads → ((image : Image) → new.now image → old.now image) → LosesOnlyWork old → LosesOnlyWork new
still_loses old new reads none was = record {
  image = was.image;
  told = reads ∙ was.told;
  slot = was.slot;
  active = was.active;
  holds = was.holds;
  near = λ left may. was.near left (none left may);
}

-- what may be left holds what is active
module _ (disk : DiskState) (loses : LosesOnlyWork disk) (left : Image) (may : disk.now left) where
  abbrev other : ℕ
  other = other_slot loses.slot

  low_gate : ¬ IsWorkBeside loses.image loses.slot loses.active other
  low_gate (inl bank) = let high = (other_low loses.slot loses.holds.outline.has_active.is_active.is_slot).1 in omega (arith, bank.0, high)
  low_gate (inr body) = omega (arith, body.1)

  others_left : ¬ IsOpen left other ⊎ ((k : ℕ) → k < 29 → left (other + k) ≡ loses.image (other + k))
  others_left = elim (cases_eq (loses.image other) 0xA5) [
    | inl opened ↦ inr (λ k below. loses.near left may (other + k) (λ work. elim work [
      | inl bank ↦ (let high = (other_low loses.slot loses.holds.outline.has_active.is_active.is_slot).1 in omega (arith, bank.0, high, below))
      | inr body ↦ body.0 opened
    ]))
    | inr shut ↦ inl (λ opened. shut (sym (loses.near left may other low_gate) ∙ opened))
  ]

  pub loses_stands : HoldsConfig left loses.active
  loses_stands = record {
    slot = loses.slot;
    by = stands_apart loses.slot loses.active loses.image left loses.holds
        (λ offset bank slot. loses.near left may offset (λ work. elim work [
          | inl inside ↦ elim bank [ inl low ↦ omega (arith, low, inside.0) | inr high ↦ omega (arith, high, inside.1) ]
          | inr body ↦ elim slot [ inl low ↦ omega (arith, low, body.1) | inr high ↦ omega (arith, high, body.2) ]
        ]))
        others_left;
  }

pub loses_holds : OneStanding → (disk : DiskState) (image : Image) (s : StandingView) → LosesOnlyWork disk → disk.reads ≡ Some image → HoldsConfig image s
    → (left : Image) → disk.now left → HoldsConfig left s
loses_holds one disk image s loses told holds left may =
    let same : loses.image ≡ image = (let e : Some loses.image ≡ Some image = sym loses.told ∙ told in cc) in
    let active : loses.active ≡ s = one image loses.active s (subst (λ (i : Image). HoldsConfig i loses.active) same (record { slot = loses.slot; by = loses.holds })) holds in
    subst (λ (x : StandingView). HoldsConfig left x) active (loses_stands disk loses left may)

-- ---- over a read, or another call that leaves the disk as it was

pub fits_read : (store : Store) (old new : DiskState) → RunsOn old new → Fits store old → Fits store new
fits_read store old new on fits = record {
  running = on.running;
  holds = λ image told. fits.holds image (sym on.reads ∙ told);
  work = λ image told. fits.work image (sym on.reads ∙ told);
}

pub works_read : (store : Store) (old new : DiskState) → RunsOn old new → ((image : Image) → new.now image → old.now image) → Works store old → Works store new
works_read store old new on none works = record {
  fits = fits_read store old new on works.fits;
  near = λ image told left may. works.near image (sym on.reads ∙ told) left (none left may);
  settled = λ sealed. record { only = λ image may. on.reads ∙ (works.settled sealed).only image (none image may) };
}

-- ---- over a call that makes none of the disk

pub fits_continued : (before after : Store) (disk : DiskState) → Continues before after → Fits before disk → Fits after disk
fits_continued before after disk continues fits = record {
  running = fits.running;
  holds = λ image told. let s = fits.holds image told in (s.0, continues.holds image s.0 s.1);
  work = λ image told. continues.work image (fits.work image told);
}

pub works_continued : (before after : Store) (disk : DiskState) → Continues before after → Works before disk → Works after disk
works_continued before after disk continues works = record {
  fits = fits_continued before after disk continues works.fits;
  near = λ image told left may. continues.near image left (works.near image told left may);
  settled = λ sealed. works.settled (continues.sealed sealed);
}

-- ---- what a power loss may leave now

pub holds_now : (store : Store) (disk : DiskState) (s : StandingView) → InstallsBeside store disk s → (left : Image) → disk.now left → HoldsFor store left s
holds_now store disk s beside left may = near_stands store beside.image left s beside.holds (beside.works.near beside.image beside.told left may)

pub stands_now : (store : Store) (disk : DiskState) (s : StandingView) → InstallsBeside store disk s → (left : Image) → disk.now left → HoldsConfig left s
stands_now store disk s beside left may = record { slot = (active_slot store); by = (holds_now store disk s beside left may).by }
