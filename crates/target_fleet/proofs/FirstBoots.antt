-- The first boots of a fleet's units, in their order.
use Rattle.std.proofs.Common.{◌≡◌, ◌≢◌, ◌⊎◌, inl, inr, ℕ, zero, suc, ◌+◌, ◌<◌, ◌≤◌, Bool, List, [], ◌∷◌, ◌++◌, length, Some, arith, refl, sym, ap, subst, ◌∙◌}
use Rattle.std.specs.Prelude.{slice_get}
use Rattle.std.proofs.lemmas.Option.{slice_get_within}
use Rattle.accept_rules.specs.declared.kept.KeptLoad.{KeptLoad}
use Rattle.bank_store.specs.DiskWrites.{IsRunning}
use Rattle.disk_model.specs.State.{DiskState, OnlyReads}
use Rattle.load_header.specs.declared.header.LoadHeader.{LoadHeader}
use Rattle.media_check.specs.Sets.{SetView}
use Rattle.upload_replay.specs.Drivers.{DriverState}
use Rattle.upload_replay.specs.Endings.{FailsToBegin, HoldsSome}
use Rattle.upload_replay.specs.declared.outcome.DriveFault.{DriveFault}
use Rattle.upload_replay.specs.declared.outcome.DriveFault.TheVariants as faults
use Rattle.target_fleet.specs.Boots.{AllBoot, BootsNext, BootsUnit, FailsAt, FailsToBoot, fleet_fault_of}
use Rattle.target_fleet.specs.Units.{AllDisks, AllOnlyRead, ChangesAt, ReadsUnitDisk}
use Rattle.target_fleet.specs.declared.outcome.FleetFault.{FleetFault}
use Rattle.target_fleet.specs.declared.outcome.FleetFault.TheVariants as fleets
use Rattle.target_fleet.proofs.Indexed.{changed_read, more_read, same_there, set_length, set_other, set_same}

-- ---- reading

pub only_reads_same : (s : DiskState) → OnlyReads s s
only_reads_same s = record {
  tells = refl;
  power = record { steady = refl; armings = refl; armed = refl };
  faults = omega arith;
  refusals = omega arith;
  clock = refl;
  now = λ image x. x;
  between = λ t u image x. x;
  keeps = λ t u image x. x;
  closed = λ steady place n c. c;
}

pub only_reads_then : (a b c : DiskState) → OnlyReads a b → OnlyReads b c → OnlyReads a c
only_reads_then a b c one other = record {
  tells = other.tells ∙ one.tells;
  power = record { steady = other.power.steady ∙ one.power.steady; armings = other.power.armings ∙ one.power.armings; armed = other.power.armed ∙ one.power.armed };
  faults = omega (arith, one.faults, other.faults);
  refusals = omega (arith, one.refusals, other.refusals);
  clock = other.clock ∙ one.clock;
  now = λ image x. one.now image (other.now image x);
  between = λ t u image x. one.between t u image (other.between t u image x);
  keeps = λ t u image x. other.keeps t u image (one.keeps t u image x);
  closed = λ steady place n x. other.closed (one.power.steady ∙ steady) place n (one.closed steady place n x);
}

pub below_or_at : (i n : ℕ) → i < n + 1 → (i < n) ⊎ (i ≡ n)
below_or_at zero zero lt = inr refl
below_or_at zero (suc n) lt = inl (omega arith)
below_or_at (suc i) zero lt = absurd (let no : ⊥ = omega (arith, lt) in no)
below_or_at (suc i) (suc n) lt = by (below_or_at i n (omega (arith, lt)))
  where
    by : (i < n) ⊎ (i ≡ n) → (suc i < suc n) ⊎ (suc i ≡ suc n)
    by (inl before) = inl (omega (arith, before))
    by (inr here) = inr (ap suc here)

pub there_is : {A : Type 0} (xs : List A) (i : ℕ) → i < length xs → (x : A) × (slice_get xs i ≡ Some x)
there_is [] i lt = absurd (let no : ⊥ = omega (arith, lt) in no)
there_is (x ∷ xs) zero lt = (x, refl)
there_is (x ∷ xs) (suc i) lt = there_is xs i (omega (arith, lt))

module _ {K : Type 0} (state : K → DiskState) where
  pub all_read_same : (disks : List K) → AllOnlyRead state disks disks
  all_read_same disks i before after e f = subst (λ (k : K). OnlyReads (state before) (state k)) (same_there disks i before after e f) (only_reads_same (state before))

  pub all_read_then : (old mid new : List K) → length new ≡ length mid → AllOnlyRead state old mid
      → AllOnlyRead state mid new → AllOnlyRead state old new
  all_read_then old mid new same one other i before after e f =
      let found = there_is mid i (let lt : i < length mid = omega (arith, slice_get_within new i after f, same) in lt) in
      only_reads_then (state before) (state found.0) (state after) (one i before found.0 e found.1) (other i found.0 after found.1 f)

  -- what a boot on one disk does to all
  pub reads_one : (index : ℕ) (before after : K) (old new : List K) → ChangesAt index before after old new
      → OnlyReads (state before) (state after) → ReadsUnitDisk state index old new
  reads_one index before after old new changes reads = record {
    same = ap length changes.kept ∙ set_length old index after;
    others = λ i apart. ap (λ (xs : List K). slice_get xs i) changes.kept ∙ set_other old index i after apart;
    reads = λ i k0 k e f. by i k0 k e (changed_read index before after old new changes i k f);
  }
    where
      by : (i : ℕ) (k0 k : K) → slice_get old i ≡ Some k0
          → ((i ≡ index) × (k ≡ after)) ⊎ ((i ≢ index) × (slice_get old i ≡ Some k)) → OnlyReads (state k0) (state k)
      by i k0 k e (inl here) =
          subst (λ (x : K). OnlyReads (state x) (state k)) (same_there old index before k0 changes.there (subst (λ (n : ℕ). slice_get old n ≡ Some k0) here.0 e))
          (subst (λ (x : K). OnlyReads (state before) (state x)) (sym here.1) reads)
      by i k0 k e (inr there) = all_read_same old i k0 k e there.1

  -- ---- refusals

  pub fails_at : (index : ℕ) (cause : DriveFault) (before after : K) (old new : List K)
      → slice_get old index ≡ Some before → slice_get new index ≡ Some after
      → FailsToBegin cause (state before) (state after) → FailsAt state index (fleet_fault_of cause (index + 1)) old new
  fails_at index faults.Link before after old new there now fails = absurd fails
  fails_at index faults.Disk before after old new there now fails = record { unit_is = refl; before = before; after = after; there = there; now = now; fails = fails }
  fails_at index (faults.NoConfig fault) before after old new there now fails = record { unit_is = refl; before = before; after = after; there = there; now = now; fails = fails }
  fails_at index faults.Memory before after old new there now fails = record {
    runs = λ b a e f.
        subst (λ (k : K). FailsToBegin faults.Memory (state b) (state k)) (same_there new index after a now f)
        (subst (λ (k : K). FailsToBegin faults.Memory (state k) (state after)) (same_there old index before b there e) fails);
  }

  fails_since : (index : ℕ) (fault : FleetFault) (old mid new : List K) → slice_get mid index ≡ slice_get old index
      → FailsAt state index fault mid new → FailsAt state index fault old new
  fails_since index (fleets.Disk unit) old mid new same by = record { unit_is = by.unit_is; before = by.before; after = by.after; there = sym same ∙ by.there; now = by.now; fails = by.fails }
  fails_since index (fleets.NoConfig unit fault) old mid new same by = record { unit_is = by.unit_is; before = by.before; after = by.after; there = sym same ∙ by.there; now = by.now; fails = by.fails }
  fails_since index fleets.Memory old mid new same by = record { runs = λ b a e f. by.runs b a (same ∙ e) f }

-- ---- units so far

module _ {R K : Type 0} (state : K → DiskState) (may_say : R → LoadHeader → List KeptLoad → Bool → Type 0) (interlock : R) (shown : SetView) where
  -- the units before this index came up, and the disks from it on are as they were
  pub record BootedSoFar (index : ℕ) (drivers : List (DriverState R)) (old new : List K) : Type 0 where
    pub many : length drivers ≡ index
    pub boots : AllBoot state may_say interlock shown drivers old new
    pub same : length new ≡ length old
    pub rest : (i : ℕ) → index ≤ i → slice_get new i ≡ slice_get old i
    pub reads : AllOnlyRead state old new
    pub stood : (i : ℕ) (k : K) → i < index → slice_get old i ≡ Some k → HoldsSome (state k)

  pub booted_none : (drivers : List (DriverState R)) (old : List K) → length drivers ≡ 0 → BootedSoFar 0 drivers old old
  booted_none drivers old none = record {
    many = none;
    boots = λ i d before after e f g. absurd (let no : ⊥ = omega (arith, slice_get_within drivers i d e, none) in no);
    same = refl;
    rest = λ i from. refl;
    reads = all_read_same state old;
    stood = λ i k lt e. absurd (let no : ⊥ = omega (arith, lt) in no);
  }

  module _ (index : ℕ) (drivers drivers_then : List (DriverState R)) (old mid new : List K) (sofar : BootedSoFar index drivers old mid) where
    pub disk_runs : AllDisks (λ (k : K). IsRunning (state k)) old → (k : K) → slice_get mid index ≡ Some k
        → IsRunning (state k)
    disk_runs running k e = running index k (sym (sofar.rest index (omega arith)) ∙ e)

    pub booted_more : BootsNext state may_say interlock shown index drivers drivers_then mid new
        → ReadsUnitDisk state index mid new → BootedSoFar (index + 1) drivers_then old new
    booted_more next reads = record {
      many = ap length next.more ∙ counted drivers next.driver ∙ ap suc sofar.many ∙ omega arith;
      boots = λ i d before after e f g. by i d before after f g (more_read drivers i next.driver d (ap (λ (ds : List (DriverState R)). slice_get ds i) (sym next.more) ∙ e));
      same = reads.same ∙ sofar.same;
      rest = λ i from. reads.others i (λ here. omega (arith, from, here)) ∙ sofar.rest i (omega (arith, from));
      reads = all_read_then state old mid new reads.same sofar.reads reads.reads;
      stood = λ i k lt e. stands i k e lt;
    }
      where
        counted : (ds : List (DriverState R)) (d : DriverState R) → length (ds ++ d ∷ []) ≡ suc (length ds)
        counted [] d = refl
        counted (x ∷ ds) d = ap suc (counted ds d)

        first : slice_get old index ≡ Some next.before
        first = sym (sofar.rest index (omega arith)) ∙ next.disk.there

        now : slice_get new index ≡ Some next.after
        now = ap (λ (xs : List K). slice_get xs index) next.disk.kept ∙ set_same mid index next.after next.before next.disk.there

        by : (i : ℕ) (d : DriverState R) (before after : K) → slice_get old i ≡ Some before
            → slice_get new i ≡ Some after
            → ((i ≡ length drivers) × (d ≡ next.driver)) ⊎ ((i < length drivers) × (slice_get drivers i ≡ Some d))
            → BootsUnit state may_say interlock shown d before after
        by i d before after f g (inl here) =
            let at_index = here.0 ∙ sofar.many in
            subst (λ (x : DriverState R). BootsUnit state may_say interlock shown x before after) (sym here.1)
            (subst (λ (x : K). BootsUnit state may_say interlock shown next.driver x after) (same_there old index next.before before first (subst (λ (n : ℕ). slice_get old n ≡ Some before) at_index f))
            (subst (λ (x : K). BootsUnit state may_say interlock shown next.driver next.before x) (same_there new index next.after after now (subst (λ (n : ℕ). slice_get new n ≡ Some after) at_index g)) next.boots))
        by i d before after f g (inr there) =
            sofar.boots i d before after there.1 f (sym (reads.others i (λ here. omega (arith, there.0, sofar.many, here))) ∙ g)

        stands : (i : ℕ) (k : K) → slice_get old i ≡ Some k → i < index + 1 → HoldsSome (state k)
        stands i k e lt = elim (below_or_at i index lt) [
          | inl before ↦ sofar.stood i k before e
          | inr here ↦ subst (λ (x : K). HoldsSome (state x)) (same_there old index next.before k first (subst (λ (n : ℕ). slice_get old n ≡ Some k) here e)) next.boots.stood
        ]

    pub boot_fails : (fault : FleetFault) → FailsAt state index fault mid new → FailsToBoot state fault old new
    boot_fails fault fails = record { index = index; fails = fails_since state index fault old mid new (sofar.rest index (omega arith)) fails; stood = sofar.stood }

    pub reads_on : ReadsUnitDisk state index mid new → AllOnlyRead state old new
    reads_on reads = all_read_then state old mid new reads.same sofar.reads reads.reads
