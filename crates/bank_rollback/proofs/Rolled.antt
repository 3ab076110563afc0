-- What a rollback comes to.
use Rattle.std.proofs.Common.{◌≡◌, inl, inr, ℕ, ◌<◌, ◌≤◌, true, false, List, Option, Some, None, Err, refl, sym, ◌∙◌, ap, subst, arith}
use Rattle.std.specs.Prelude.{is_some}
use Rattle.std.specs.Option.{ForSome}
use Rattle.load_base.specs.Counts.{Rose}
use Rattle.load_base.specs.Config.{LoadView}
use Rattle.disk_model.specs.Image.{Image}
use Rattle.disk_model.proofs.MomentLemmas.{leaves_more, power_kept}
use Rattle.disk_model.specs.Moments.{LeavesOnly}
use Rattle.disk_model.specs.State.{DiskState, IsSettled, OnlyReads}
use Rattle.disk_layout.specs.DiskReads.{ReadsDisk, RunsOn}
use Rattle.disk_layout.specs.Holds.{HasDiskFault, HoldsConfig, Refuses, StandingView}
use Rattle.disk_layout.specs.Offsets.{IsBankSize}
use Rattle.disk_layout.specs.declared.fault.RecoverFault.{RecoverFault}
use Rattle.disk_layout.specs.declared.fault.RecoverFault.TheVariants as recovers
use Rattle.bank_store.specs.DiskWrites.{IsRunning, TimeGoesOn}
use Rattle.bank_store.specs.Fits.{HoldsFor}
use Rattle.bank_store.specs.Given.{configured}
use Rattle.bank_store.specs.Keeps.{IsOldOrNew}
use Rattle.bank_store.specs.Readopting.{HasLoadsAt}
use Rattle.bank_rollback.specs.Beside.{CanBringBack, StandsBeside}
use Rattle.bank_rollback.specs.Faults.{of_survey}
use Rattle.bank_rollback.specs.Rollbacks.{BringsBack, GoesOnAfter, HasRolledBack, IsActiveOrFormer, IsLookedAt, LeavesAfter, RefusesRollback, RollsBack}
use Rattle.bank_rollback.specs.Rollbacks.RanOut.{after_it, of_the_disk}
use Rattle.bank_rollback.specs.declared.fault.RollbackFault.TheVariants.{DiskFailed}
use Rattle.bank_rollback.specs.declared.rolling_back.Beside.{Beside}
use Rattle.bank_rollback.proofs.Finding.{holds_active}

-- ---- what is brought

pub brings : (image : Image) (beside : Beside) → CanBringBack beside → (stands : StandsBeside image beside) → BringsBack image (configured stands.active stands.former.loads)
brings image beside can stands = record {
  active = stands.active;
  former = stands.former;
  holds = holds_active beside.store image stands.active stands.holds;
  holds_former = stands.holds_former;
  goes_on = omega (arith, can.goes_on, stands.holds.sequence);
  is = refl;
}

-- so there is one to bring, where the disk tells its content
pub can_be_brought : (old : DiskState) (beside : Beside) → CanBringBack beside → ForSome old.reads (λ image. StandsBeside image beside) → ForSome old.reads (λ image. (brought : StandingView) × BringsBack image brought)
can_be_brought old beside can found = λ image told. (configured (found image told).active (found image told).former.loads, brings image beside can (found image told))

-- in the words of what was active at the start
pub leaves_either : (image : Image) (active : StandingView) (beside : Beside) → CanBringBack beside → (stands : StandsBeside image beside) → stands.active ≡ active → (since : ℕ) (disk : DiskState)
    → LeavesOnly since (IsOldOrNew stands.active (configured stands.active stands.former.loads)) disk → LeavesOnly since (IsActiveOrFormer image active) disk
leaves_either image active beside can stands same since disk leaves =
    leaves_more since (IsOldOrNew stands.active (configured stands.active stands.former.loads)) (IsActiveOrFormer image active) disk either leaves
  where
    either : (left : Image) → IsOldOrNew stands.active (configured stands.active stands.former.loads) left → IsActiveOrFormer image active left
    either left (inl was) = inl (subst (λ (s : StandingView). HoldsConfig left s) same was)
    either left (inr is) = inr (configured stands.active stands.former.loads, brings image beside can stands, is)

-- so many steps after it was found
pub leaves_since : (one_standing : (image : Image) (s t : StandingView) → HoldsConfig image s → HoldsConfig image t → s ≡ t) (old mid new : DiskState) (image : Image) (active : StandingView) (beside : Beside) → CanBringBack beside
    → (stands : StandsBeside image beside) → HoldsConfig image active → mid.clock ≡ old.clock → LeavesOnly mid.clock (IsOldOrNew stands.active (configured stands.active stands.former.loads)) new
    → LeavesOnly old.clock (IsActiveOrFormer image active) new
leaves_since one_standing old mid new image active beside can stands holds clock leaves =
    subst (λ (since : ℕ). LeavesOnly since (IsActiveOrFormer image active) new) clock
    (leaves_either image active beside can stands (one_standing image stands.active active (holds_active beside.store image stands.active stands.holds) holds) mid.clock new leaves)

-- once it was brought back
pub rolled_back : (old mid new : DiskState) (beside : Beside) → CanBringBack beside → ForSome old.reads (λ image. StandsBeside image beside) → RunsOn old mid
    → ForSome mid.reads (λ image. ForSome new.reads (λ now. (s : StandingView) (loads : List LoadView) → HoldsFor beside.store image s → HasLoadsAt beside.store image beside.place beside.length loads → HoldsConfig now (configured s loads)))
    → is_some new.reads ≡ is_some old.reads → IsSettled new → IsRunning new → HasRolledBack old new
rolled_back old mid new beside can found runs holds tells settled running = record {
  holds = λ image told now later.
      let stands = found image told in (
        configured stands.active stands.former.loads,
        brings image beside can stands,
        holds image (runs.reads ∙ told) now later stands.active stands.former.loads stands.holds stands.loads,
      );
  tells = tells;
  settled = settled;
  running = running;
}

-- ---- time

pub time_reads : (old new : DiskState) → OnlyReads old new → TimeGoesOn old new
time_reads old new reads = record {
  tells = reads.tells;
  faults = reads.faults;
  refusals = reads.refusals;
  later = omega (arith, reads.clock);
  keeps = reads.keeps;
  earlier = λ t u image before might. reads.between t u image might;
  power = reads.power;
}

pub time_joined : (a b c : DiskState) → TimeGoesOn a b → TimeGoesOn b c → TimeGoesOn a c
time_joined a b c first second = record {
  tells = second.tells ∙ first.tells;
  faults = omega (arith, first.faults, second.faults);
  refusals = omega (arith, first.refusals, second.refusals);
  later = omega (arith, first.later, second.later);
  keeps = λ t u image might. second.keeps t u image (first.keeps t u image might);
  earlier = λ t u image before might. first.earlier t u image before (second.earlier t u image (omega (arith, before, first.later)) might);
  power = power_kept a b c first.power second.power;
}

-- where a disk told its content it does after calls
pub told_after : (old new : Option Image) (image : Image) → is_some new ≡ is_some old → old ≡ Some image → (now : Image) × (new ≡ Some now)
told_after old (Some now) image tells told = (now, refl)
told_after old None image tells told = absurd (let there : is_some old ≡ true = ap is_some told in let both : true ≡ false = sym there ∙ sym tells in cc)

-- what was rolled back had one to bring
pub was_brought : (old mid : DiskState) → HasRolledBack old mid → ForSome old.reads (λ image. (brought : StandingView) × BringsBack image brought)
was_brought old mid rolled = λ image told.
    let (now, there) = told_after old.reads mid.reads image rolled.tells told in
    let (brought, brings_it, holds) = rolled.holds image told now there in
    (brought, brings_it)

-- what was settled is so after reads
pub settled_on : (old new : DiskState) → IsSettled old → OnlyReads old new → new.reads ≡ old.reads → IsSettled new
settled_on old new settled reads same = record { only = λ left may. same ∙ settled.only left (reads.now left may) }

-- ---- the last look

stopped_twice : (disk : DiskState) → disk.stopped ≡ true → disk.stopped ≡ false → ⊥
stopped_twice disk is not = let both : true ≡ false = sym is ∙ not in cc

-- a disk that runs on reads what it read
pub still_reads : {T : Type 0} (old new : DiskState) (fault : RecoverFault) → ReadsDisk {T = T} old new (Err fault) → new.stopped ≡ false → new.reads ≡ old.reads
still_reads old new recovers.DiskFailed look running = absurd (stopped_twice new (look.cause.failed refl).1 running)
still_reads old new recovers.Memory look running = elim look.err [ inl runs ↦ runs.reads | inr short ↦ absurd (stopped_twice new short.stopped running) ]
still_reads old new (recovers.NotFormatted offset) look running = look.err.reads
still_reads old new recovers.NoOpenSlot look running = look.err.reads
still_reads old new (recovers.BadSlot offset) look running = look.err.reads
still_reads old new (recovers.BadManifest offset) look running = look.err.reads

module _ (not_both : (image : Image) (s : StandingView) (f : RecoverFault) → HoldsConfig image s → HasDiskFault image f → ⊥) where
  -- what holds a configuration is refused for nothing that stands there
  pub look_refused : (image now : Image) (s : StandingView) (fault : RecoverFault) → HoldsConfig now s → Refuses now fault → RefusesRollback image (of_survey fault)
  look_refused image now s recovers.DiskFailed holds refuses = tt
  look_refused image now s recovers.Memory holds refuses = tt
  look_refused image now s (recovers.NotFormatted offset) holds refuses = absurd (not_both now s (recovers.NotFormatted offset) holds refuses)
  look_refused image now s recovers.NoOpenSlot holds refuses = absurd (not_both now s recovers.NoOpenSlot holds refuses)
  look_refused image now s (recovers.BadSlot offset) holds refuses = absurd (not_both now s (recovers.BadSlot offset) holds refuses)
  look_refused image now s (recovers.BadManifest offset) holds refuses = absurd (not_both now s (recovers.BadManifest offset) holds refuses)

  module _ (old mid new : DiskState) (rolled : HasRolledBack old mid) (time : TimeGoesOn old mid) where
    -- it read nothing else since
    pub rolled_on : OnlyReads mid new → RunsOn mid new → HasRolledBack old new
    rolled_on reads runs = record {
      holds = λ image told now later. rolled.holds image told now (sym runs.reads ∙ later);
      tells = reads.tells ∙ rolled.tells;
      settled = settled_on mid new rolled.settled reads runs.reads;
      running = runs.running;
    }

    -- a fault of what stands there comes on no disk that tells its content
    never : (fault : RecoverFault) → RunsOn mid new → ForSome mid.reads (λ now. HasDiskFault now fault) → is_some old.reads ≡ true → IsLookedAt old new
    never fault runs refuses tells = told old.reads tells refl
      where
        told : (reads : Option Image) → is_some reads ≡ true → old.reads ≡ reads → IsLookedAt old new
        told (Some image) some is =
            let (now, there) = told_after old.reads mid.reads image rolled.tells is in
            let (brought, brings, holds) = rolled.holds image is now there in
            absurd (not_both now brought fault holds (refuses now there))
        told None some is = absurd cc

    rose_since : (a b c : ℕ) → a ≤ b → Rose b c → Rose a c
    rose_since a b c earlier rose = omega (arith, earlier, rose)

    pub look_leaves : {T : Type 0} (fault : RecoverFault) → ReadsDisk {T = T} mid new (Err fault) → ForSome mid.reads (λ now. Refuses now fault) → LeavesAfter old new (of_survey fault)
    look_leaves recovers.DiskFailed look refuses = tt
    look_leaves recovers.Memory look refuses = elim look.err [
      | inl runs ↦ after_it (rolled_on look.only_reads runs)
      | inr short ↦ of_the_disk (record { counted = rose_since old.refusals mid.refusals new.refusals time.refusals short.counted; stopped = short.stopped })
    ]
    look_leaves (recovers.NotFormatted offset) look refuses = (look.err.running, never (recovers.NotFormatted offset) look.err refuses)
    look_leaves recovers.NoOpenSlot look refuses = (look.err.running, never recovers.NoOpenSlot look.err refuses)
    look_leaves (recovers.BadSlot offset) look refuses = (look.err.running, never (recovers.BadSlot offset) look.err refuses)
    look_leaves (recovers.BadManifest offset) look refuses = (look.err.running, never (recovers.BadManifest offset) look.err refuses)

    of_survey_failed : (fault : RecoverFault) → of_survey fault ≡ DiskFailed → fault ≡ recovers.DiskFailed
    of_survey_failed recovers.DiskFailed e = refl
    of_survey_failed recovers.Memory e = absurd cc
    of_survey_failed (recovers.NotFormatted offset) e = absurd cc
    of_survey_failed recovers.NoOpenSlot e = absurd cc
    of_survey_failed (recovers.BadSlot offset) e = absurd cc
    of_survey_failed (recovers.BadManifest offset) e = absurd cc

    pub look_goes_on : {S T : Type 0} (fault : RecoverFault) → ReadsDisk {T = S} mid new (Err fault) → ForSome mid.reads (λ now. Refuses now fault) → GoesOnAfter {T = T} old new (Err (of_survey fault))
    look_goes_on {S = S} fault look refuses = record {
      goes_on = time_joined old mid new time (time_reads mid new look.only_reads);
      refused = look_leaves {T = S} fault look refuses;
      cause = record {
        failed = λ e.
            let is : of_survey fault ≡ DiskFailed = cc in
            let cause = look.cause.failed (ap (λ (f : RecoverFault). Err f) (of_survey_failed fault is)) in
            (rose_since old.faults mid.faults new.faults time.faults cause.0, cause.1);
      };
    }

-- what is read then is what was brought
pub rolls_back : (one_standing : (image : Image) (s t : StandingView) → HoldsConfig image s → HoldsConfig image t → s ≡ t) (old mid new : DiskState) (standing : StandingView) → HasRolledBack old mid → HasRolledBack old new
    → new.reads ≡ mid.reads → ForSome mid.reads (λ now. HoldsConfig now standing) → IsBankSize standing.identity.bank → standing.bank < 2 → RollsBack old new standing
rolls_back one_standing old mid new standing before after same read size bank = record {
  brings = λ image told.
      let (now, there) = told_after old.reads mid.reads image before.tells told in
      let (brought, brings, holds) = before.holds image told now there in
      subst (λ (s : StandingView). BringsBack image s) (one_standing now brought standing holds (read now there)) brings;
  holds = λ now later. read now (sym same ∙ later);
  tells = after.tells;
  settled = after.settled;
  running = after.running;
  size = size;
  bank = bank;
}
