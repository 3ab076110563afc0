-- Why there is no run, and what is known at the end of one.
use Rattle.std.proofs.Common.{◌≡◌, ◌≤◌, ℕ, inl, inr, refl, sym, ap, subst, ◌∙◌, arith}
use Rattle.std.specs.Prelude.{IfErr, IfOk, IsErrOf, Result, Ok, Err}
use Rattle.std.specs.Option.{ForSome}
use Rattle.disk_layout.specs.DiskReads.{HasDiskCause, RunsOnAfter}
use Rattle.disk_layout.specs.Holds.{Refuses}
use Rattle.disk_layout.specs.declared.fault.RecoverFault.{RecoverFault}
use Rattle.disk_layout.specs.declared.fault.RecoverFault.TheVariants.{BadManifest, BadSlot, DiskFailed, Memory, NoOpenSlot, NotFormatted}
use Rattle.disk_model.specs.State.{DiskState, OnlyReads}
use Rattle.link_net.specs.Links.{LinkState}
use Rattle.target_machine.specs.Boots.{BootFails, RunsOnAfterBoot}
use Rattle.target_machine.specs.declared.boot.BootFault.{BootFault}
use Rattle.target_machine.specs.declared.boot.BootFault.TheVariants as boots
use Rattle.upload_replay.specs.declared.outcome.DriveFault.{DriveFault}
use Rattle.upload_replay.specs.declared.outcome.DriveFault.TheVariants as faults
use Rattle.upload_replay.specs.Turns.{HasDriveCause, IsOfRun}
use Rattle.upload_replay.specs.Endings.{FailsToBegin, HoldsSome, HoldsStanding, IsEndFault, IsLastFault, IsNoConfig, IsRefused, StaysAsItWas, first_fault_of, last_refusal_of}

pub first_refusal : {T : Type 0} (fault : BootFault) (first last : DiskState) (result : Result T BootFault) → result ≡ Err fault → ForSome first.reads (λ image. BootFails image fault) → OnlyReads first last → RunsOnAfterBoot first last fault
    → HasDiskCause (boots.Recover DiskFailed) first last result → FailsToBegin (first_fault_of fault) first last
first_refusal (boots.Recover (NotFormatted offset)) first last result is refused reads on cause = (λ of. of, record { none = refused; only_reads = reads; running = on })
first_refusal (boots.Recover NoOpenSlot) first last result is refused reads on cause = (λ of. of, record { none = refused; only_reads = reads; running = on })
first_refusal (boots.Recover (BadSlot offset)) first last result is refused reads on cause = (λ of. of, record { none = refused; only_reads = reads; running = on })
first_refusal (boots.Recover (BadManifest offset)) first last result is refused reads on cause = (λ of. of, record { none = refused; only_reads = reads; running = on })
first_refusal (boots.Recover DiskFailed) first last result is refused reads on cause = cause.failed is
first_refusal (boots.Recover Memory) first last result is refused reads on cause = on
first_refusal boots.Memory first last result is refused reads on cause = on

-- the disk reads as it did
pub last_fault : (fault : RecoverFault) (old new : DiskState) → ForSome old.reads (λ image. Refuses image fault) → RunsOnAfter old new fault
    → IfErr (last_refusal_of fault) (λ f. IsLastFault f old new)
last_fault (NotFormatted offset) old new refused on = (λ is. is, λ image told. refused image (sym on.reads ∙ told))
last_fault NoOpenSlot old new refused on = (λ is. is, λ image told. refused image (sym on.reads ∙ told))
last_fault (BadSlot offset) old new refused on = (λ is. is, λ image told. refused image (sym on.reads ∙ told))
last_fault (BadManifest offset) old new refused on = (λ is. is, λ image told. refused image (sym on.reads ∙ told))
last_fault DiskFailed old new refused on = tt
last_fault Memory old new refused on = elim on [ inl runs ↦ inl runs.running | inr out ↦ inr out ]

-- and so at the end, where the disk was restarted before
pub last_since : (fault : DriveFault) (old mid new : DiskState) → old.refusals ≤ mid.refusals → IsLastFault fault mid new → IsLastFault fault old new
last_since faults.Memory old mid new later runs = elim runs [ inl on ↦ inl on | inr out ↦ inr (record { counted = grind (arith, later, out.counted); stopped = out.stopped }) ]
last_since (faults.NoConfig f) old mid new later is = is
last_since faults.Disk old mid new later is = is
last_since faults.Link old mid new later is = is

-- a disk that isn't touched is as it was
pub stays : (disk : DiskState) → StaysAsItWas disk disk
stays disk = record {
  only_reads = record {
    tells = refl;
    power = record { steady = refl; armings = refl; armed = refl };
    faults = omega arith;
    refusals = omega arith;
    clock = refl;
    now = λ image may. may;
    between = λ t u image may. may;
    keeps = λ t u image may. may;
    closed = λ steady at n closed. closed;
  };
  reads = refl;
  left = λ image may. may;
  faults = refl;
  refusals = refl;
  stopped = refl;
}

pub end_fault : (fault : DriveFault) (old new : DiskState) → IsLastFault fault old new → IsEndFault fault old new
end_fault faults.Memory old new runs = inl runs
end_fault (faults.NoConfig f) old new is = is
end_fault faults.Disk old new is = is
end_fault faults.Link old new is = is

pub no_standing : (fault : RecoverFault) (disk : DiskState) → IfOk (last_refusal_of fault) (λ standing. HoldsStanding standing disk)
no_standing (NotFormatted offset) disk = tt
no_standing NoOpenSlot disk = tt
no_standing (BadSlot offset) disk = tt
no_standing (BadManifest offset) disk = tt
no_standing DiskFailed disk = tt
no_standing Memory disk = tt

-- ---- why there is no run

no_link : {T : Type 0} (fault : DriveFault) (P : DriveFault → Type 0) → (P faults.Link → ⊥) → P fault → ◌≡◌ {A = Result T DriveFault} (Err fault) (Err faults.Link) → ⊥
no_link fault P never is link = never (subst P (let same : fault ≡ faults.Link = cc in same) is)

-- nothing was asked of the link before the target came up
pub refused_first : {T : Type 0} (count : ℕ) (old new : DiskState) (link : LinkState) (fault : DriveFault) → FailsToBegin fault old new → OnlyReads old new → IsRefused {T = T} count count old new link link (Err fault)
refused_first {T} count old new link fault fails reads = record {
  link_failed = record {
    cause = record {
      later = omega arith;
      failed = λ is. absurd (no_link {T = T} fault (λ f. FailsToBegin f old new) (λ none. none) fails is);
      once = omega arith;
      ok = tt;
      others = λ other. refl;
    };
    began = λ is. absurd (no_link {T = T} fault (λ f. FailsToBegin f old new) (λ none. none) fails is);
  };
  disk_failed = record {
    failed = λ is. subst (λ (f : DriveFault). FailsToBegin f old new) (let same : fault ≡ faults.Disk = cc in same) fails;
    only_reads = λ is. reads;
    untouched = λ is. refl;
  };
  no_config = by fault fails;
  no_memory = λ is. inl (record { only_reads = reads; runs = subst (λ (f : DriveFault). FailsToBegin f old new) (let same : fault ≡ faults.Memory = cc in same) fails; untouched = refl });
}
  where
    by : (f : DriveFault) → FailsToBegin f old new → IsNoConfig f old new link link
    by faults.Link fails = tt
    by faults.Disk fails = tt
    by (faults.NoConfig f) fails = (fails.0, inl (record { held = fails.1; untouched = refl }))
    by faults.Memory fails = tt

-- the link failed in a run, or memory was out
pub refused_run : {S T : Type 0} (before now : ℕ) (old new : DiskState) (link link_then : LinkState) (fault : DriveFault) → IsOfRun fault → HasDriveCause {T = S} before now (Err fault) → HoldsSome old → IsRefused {T = T} before now old new link link_then (Err fault)
refused_run {S} {T} before now old new link link_then fault of cause held = record {
  link_failed = record {
    cause = record {
      later = cause.later;
      failed = λ is. let same : fault ≡ faults.Link = cc in cause.failed (ap (λ (f : DriveFault). Err f) same);
      once = cause.once;
      ok = tt;
      others = cause.others;
    };
    began = λ is. held;
  };
  disk_failed = record { failed = λ is. absurd (not_disk is); only_reads = λ is. absurd (not_disk is); untouched = λ is. absurd (not_disk is) };
  no_config = by fault of;
  no_memory = λ is. inr held;
}
  where
    not_disk : ◌≡◌ {A = Result T DriveFault} (Err fault) (Err faults.Disk) → ⊥
    not_disk is = subst IsOfRun (let same : fault ≡ faults.Disk = cc in same) of

    by : (f : DriveFault) → IsOfRun f → IsNoConfig f old new link link_then
    by faults.Link of = tt
    by faults.Disk of = absurd of
    by (faults.NoConfig f) of = absurd of
    by faults.Memory of = tt

-- the last recovery was refused
pub refused_last : {T : Type 0} (before now : ℕ) (old last new : DiskState) (link link_then : LinkState) (fault : DriveFault) → now ≡ before → HoldsSome old → IsEndFault fault last new → IsRefused {T = T} before now old new link link_then (Err fault)
refused_last {T} before now old last new link link_then fault same held refused = record {
  link_failed = record {
    cause = record {
      later = omega (arith, same);
      failed = λ is. absurd (no_link {T = T} fault (λ f. IsEndFault f last new) (λ none. none) refused is);
      once = omega (arith, same);
      ok = tt;
      others = λ other. same;
    };
    began = λ is. held;
  };
  disk_failed = record { failed = λ is. absurd (not_disk is); only_reads = λ is. absurd (not_disk is); untouched = λ is. absurd (not_disk is) };
  no_config = by fault refused;
  no_memory = λ is. inr held;
}
  where
    not_disk : ◌≡◌ {A = Result T DriveFault} (Err fault) (Err faults.Disk) → ⊥
    not_disk is = subst (λ (f : DriveFault). IsEndFault f last new) (let is_disk : fault ≡ faults.Disk = cc in is_disk) refused

    by : (f : DriveFault) → IsEndFault f last new → IsNoConfig f old new link link_then
    by faults.Link refused = tt
    by faults.Disk refused = tt
    by (faults.NoConfig f) refused = (refused.0, inr (held, refused.1))
    by faults.Memory refused = tt

-- the run came to its end
pub refused_none : {T : Type 0} (before now : ℕ) (old new : DiskState) (link link_then : LinkState) (x : T) → now ≡ before → HoldsSome old → IsRefused before now old new link link_then (Ok x)
refused_none {T} before now old new link link_then x same held = record {
  link_failed = record {
    cause = record { later = omega (arith, same); failed = λ is. absurd (not_ok faults.Link is); once = omega (arith, same); ok = same; others = tt };
    began = λ is. absurd (not_ok faults.Link is);
  };
  disk_failed = record { failed = λ is. absurd (not_ok faults.Disk is); only_reads = λ is. absurd (not_ok faults.Disk is); untouched = λ is. absurd (not_ok faults.Disk is) };
  no_config = tt;
  no_memory = λ is. inr held;
}
  where
    not_ok : (f : DriveFault) → ◌≡◌ {A = Result T DriveFault} (Ok x) (Err f) → ⊥
    not_ok f is = cc

-- after the last recovery
pub refused_after : {T : Type 0} (before now : ℕ) (old last new : DiskState) (link link_then : LinkState) (result : Result T DriveFault) → now ≡ before → HoldsSome old → IfErr result (λ fault. IsEndFault fault last new) → IsRefused before now old new link link_then result
refused_after before now old last new link link_then (Ok x) same held refused = refused_none before now old new link link_then x same held
refused_after before now old last new link link_then (Err fault) same held refused = refused_last before now old last new link link_then fault same held refused

pub never_link : {T : Type 0} (old new : DiskState) (result : Result T DriveFault) → IfErr result (λ fault. IsEndFault fault old new) → IsErrOf result faults.Link → ⊥
never_link old new (Ok x) refused is = cc
never_link {T} old new (Err fault) refused is = no_link {T = T} fault (λ f. IsEndFault f old new) (λ none. none) refused is
