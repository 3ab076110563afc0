-- What spoiling unsynced ranges leaves.
use Rattle.std.specs.Prelude.{◌≡◌, ℕ, ◌+◌, ◌≤◌, true, false, Result, Ok, Err, OnOk, refl}
use Rattle.std.proofs.Common.{arith, inl, ◌∙◌}
use Rattle.disk_model.specs.State.{DiskState, Closed, KeepsClosed, KeepsCounts, Elapses, HasCause, Torn}
use Rattle.disk_model.proofs.MomentLemmas.{closed_goes_on, closed_within, elapses_joined}
use Rattle.disk_model.specs.Fused.{MayElapse, Spoils}
use Rattle.disk_model.specs.declared.disk.DiskFault.{DiskFault}
use Rattle.disk_model.specs.declared.disk.DiskFault.TheVariants.{Failed}

-- the time of a call, whatever it answers
pub may_elapse : {T : Type 0} (old new : DiskState) (result : Result T DiskFault) → Elapses old new old.now result → MayElapse old new
may_elapse old new result elapses = record {
  tells = elapses.tells;
  power = elapses.power;
  faults = elapses.faults;
  refusals = elapses.refusals;
  later = elapses.later;
  goes_on = tt;
  now = elapses.now;
  keeps = elapses.keeps;
  adds = elapses.adds;
  earlier = elapses.earlier;
}

no_time : (disk : DiskState) → MayElapse disk disk
no_time disk = record {
  tells = refl;
  power = record { steady = refl; armings = refl; armed = refl };
  faults = omega arith;
  refusals = omega arith;
  later = omega arith;
  goes_on = tt;
  now = λ image may. may;
  keeps = λ t u image may. may;
  adds = λ t u image may. inl may;
  earlier = λ t u image early may. may;
}

no_fault : {T : Type 0} (x : T) (fault : DiskFault) → ◌≡◌ {A = Result T DiskFault} (Ok x) (Err fault) → ⊥
no_fault x fault is = cc

-- where nothing was written
pub spoils_nothing : (disk : DiskState) → disk.stopped ≡ false → Spoils {T = Unit {0}} disk disk (Ok tt)
spoils_nothing disk running = record {
  closed = λ at n closed. closed;
  no_image = no_time disk;
  cause = record {
    stops = running;
    failed = λ is. absurd (no_fault tt _ is);
    memory = λ is. absurd (no_fault tt _ is);
    counts = record { faults = refl; refusals = refl };
    one_fault = λ is. absurd (no_fault tt _ is);
    one_refusal = λ is. absurd (no_fault tt _ is);
  };
}

-- one after the other
counts_joined : {T : Type 0} (a b c : DiskState) (result : Result T DiskFault) → KeepsCounts a b → OnOk result (KeepsCounts b c) → OnOk result (KeepsCounts a c)
counts_joined a b c (Ok x) one other = record { faults = other.faults ∙ one.faults; refusals = other.refusals ∙ one.refusals }
counts_joined a b c (Err e) one other = tt

-- a call before which none was refused has its cause
pub cause_joined : {T : Type 0} (a b c : DiskState) (result : Result T DiskFault) → KeepsCounts a b → HasCause b c result → HasCause a c result
cause_joined a b c result one cause = record {
  stops = cause.stops;
  failed = λ is. let rose = cause.failed is in rw (← one.faults) rose;
  memory = λ is. let rose = cause.memory is in rw (← one.refusals) rose;
  counts = counts_joined a b c result one cause.counts;
  one_fault = λ is. let found = cause.one_fault is in (omega (arith, found.0, one.faults), found.1 ∙ one.refusals);
  one_refusal = λ is. let found = cause.one_refusal is in (omega (arith, found.0, one.refusals), found.1 ∙ one.faults);
}

pub spoils_joined : {S T : Type 0} (a b c : DiskState) (x : S) (other : Result T DiskFault) → Spoils a b (Ok x) → Spoils b c other → Spoils a c other
spoils_joined a b c x other first second = record {
  closed = λ at n closed. second.closed at n (first.closed at n closed);
  no_image = elapses_joined a b c a.now b.now a.now (Err Failed) (Err Failed) first.no_image second.no_image (λ image may. may) first.no_image.now;
  cause = cause_joined a b c other first.cause.counts second.cause;
}

-- a write of a part of a range that may hold anything
pub spoils_part : {T : Type 0} (old new : DiskState) (at n from m : ℕ) (result : Result T DiskFault) → old.steady ≡ true → at ≤ from → from + m ≤ at + n
    → Closed old at n → KeepsClosed old new → Elapses old new (Torn from m old.now) result → HasCause old new result → Spoils old new result
spoils_part old new at n from m result steady begins ends closed keeps elapses cause = record {
  closed = keeps steady;
  no_image = may_elapse old new result (closed_goes_on old new from m result (closed_within old at n from m begins ends closed) elapses);
  cause = cause;
}
