-- Looking at a disk again and again.
use Rattle.std.proofs.Common.{inl, inr, ◌≡◌, ℕ, ◌≤◌, false, Result, Ok, Err, OnOk, refl, sym, ap, subst, ◌∙◌, arith}
use Rattle.std.specs.Prelude.{IfErr, IsErrOf}
use Rattle.load_base.specs.Counts.{Rose}
use Rattle.disk_model.specs.State.{DiskState, OnlyReads}
use Rattle.disk_model.proofs.MomentLemmas.{reads_joined}
use Rattle.disk_layout.specs.DiskReads.{RunsOn, RunsOnAfter, IsOfDisk, ReadsDisk}
use Rattle.disk_layout.specs.declared.fault.RecoverFault.{RecoverFault}
use Rattle.disk_layout.specs.declared.fault.RecoverFault.TheVariants.{DiskFailed}

-- nothing was written so far, and the disk runs on
pub record Looked (old new : DiskState) : Type 0 where
  pub only_reads : OnlyReads old new
  pub runs : RunsOn old new

-- before the first look
pub not_yet : (disk : DiskState) → disk.stopped ≡ false → Looked disk disk
not_yet disk running = record {
  only_reads = record {
    tells = refl;
    power = record { steady = refl; armings = refl; armed = refl };
    faults = omega arith;
    refusals = omega arith;
    clock = refl;
    now = λ image may. may;
    between = λ t u image may. may;
    keeps = λ t u image may. may;
    closed = λ is at n closed. closed;
  };
  runs = record { reads = refl; running = running };
}

runs_joined : (a b c : DiskState) → RunsOn a b → RunsOn b c → RunsOn a c
runs_joined a b c first second = record { reads = second.reads ∙ first.reads; running = second.running }

-- one more look
pub look_more : {T : Type 0} (a b c : DiskState) (x : T) → Looked a b → ReadsDisk b c (Ok x) → Looked a c
look_more a b c x so_far look = record { only_reads = reads_joined a b c so_far.only_reads look.only_reads; runs = runs_joined a b c so_far.runs look.ok }

rose_since : (a b c : ℕ) → a ≤ b → Rose b c → Rose a c
rose_since a b c earlier rose = omega (arith, earlier, rose)

runs_after : (a b c : DiskState) (fault : RecoverFault) → a.refusals ≤ b.refusals → RunsOn a b → RunsOnAfter b c fault → RunsOnAfter a c fault
runs_after a b c RecoverFault.DiskFailed refused first after = tt
runs_after a b c RecoverFault.Memory refused first (inl after) = inl (runs_joined a b c first after)
runs_after a b c RecoverFault.Memory refused first (inr short) =
    inr (record { counted = rose_since a.refusals b.refusals c.refusals refused short.counted; stopped = short.stopped })
runs_after a b c (RecoverFault.NotFormatted offset) refused first after = runs_joined a b c first after
runs_after a b c RecoverFault.NoOpenSlot refused first after = runs_joined a b c first after
runs_after a b c (RecoverFault.BadSlot offset) refused first after = runs_joined a b c first after
runs_after a b c (RecoverFault.BadManifest offset) refused first after = runs_joined a b c first after

-- after the last look
pub looked_on : {T : Type 0} (a b : DiskState) (result : Result T RecoverFault) → Looked a b → OnOk result (RunsOn a b) → IfErr result (λ fault. IsOfDisk fault) → ¬ IsErrOf result DiskFailed → ReadsDisk a b result
looked_on a b (Ok x) so_far ok err failed = record { only_reads = so_far.only_reads; ok = so_far.runs; err = tt; cause = record { failed = λ e. absurd (failed e) } }
looked_on a b (Err RecoverFault.DiskFailed) so_far ok err failed = absurd (failed refl)
looked_on a b (Err RecoverFault.Memory) so_far ok err failed = record { only_reads = so_far.only_reads; ok = tt; err = inl so_far.runs; cause = record { failed = λ e. absurd (failed e) } }
looked_on a b (Err (RecoverFault.NotFormatted offset)) so_far ok err failed = absurd err
looked_on a b (Err RecoverFault.NoOpenSlot) so_far ok err failed = absurd err
looked_on a b (Err (RecoverFault.BadSlot offset)) so_far ok err failed = absurd err
looked_on a b (Err (RecoverFault.BadManifest offset)) so_far ok err failed = absurd err

-- the last look is a fault of the disk
pub look_ends : {S T : Type 0} (a b c : DiskState) (fault : RecoverFault) (last : Result S RecoverFault) (result : Result T RecoverFault) → last ≡ Err fault → result ≡ Err fault
    → Looked a b → ReadsDisk b c last → ReadsDisk a c result
look_ends {T = T} a b c fault last result is told so_far look =
    subst (λ (r : Result T RecoverFault). ReadsDisk a c r) (sym told) (
    record {
      only_reads = reads_joined a b c so_far.only_reads look.only_reads;
      ok = tt;
      err = runs_after a b c fault so_far.only_reads.refusals so_far.runs (rw is at look.err);
      cause = record {
        failed = λ e.
            let same : fault ≡ DiskFailed = cc in
            let cause = look.cause.failed (is ∙ ap (λ (f : RecoverFault). Err f) same) in
            (rose_since a.faults b.faults c.faults so_far.only_reads.faults cause.0, cause.1);
      };
    }
    )

-- what was read is refused
pub refused_after : {S T : Type 0} (a b : DiskState) (x : S) (fault : RecoverFault) → ¬ (fault ≡ DiskFailed) → ReadsDisk a b (Ok x) → ReadsDisk {T = T} a b (Err fault)
refused_after a b x fault other look = record {
  only_reads = look.only_reads;
  ok = tt;
  err = runs_on fault look.ok;
  cause = record { failed = λ e. absurd (other cc) };
}
  where
    runs_on : (f : RecoverFault) → RunsOn a b → RunsOnAfter a b f
    runs_on RecoverFault.DiskFailed runs = tt
    runs_on RecoverFault.Memory runs = inl runs
    runs_on (RecoverFault.NotFormatted offset) runs = runs
    runs_on RecoverFault.NoOpenSlot runs = runs
    runs_on (RecoverFault.BadSlot offset) runs = runs
    runs_on (RecoverFault.BadManifest offset) runs = runs
