-- What looking at a disk does to it (docs/DISK.md).
use Rattle.std.specs.Prelude.{◌≡◌, ◌⊎◌, true, false, Result, OnOk, IfErr, IsErrOf}
use Rattle.load_base.specs.Counts.{Rose}
use Rattle.disk_model.specs.State.{DiskState, OnlyReads}
use Rattle.disk_layout.specs.declared.fault.RecoverFault.{RecoverFault}
use Rattle.disk_layout.specs.declared.fault.RecoverFault.TheVariants.{DiskFailed, Memory}

-- Where a call answers this failure, the disk failed in it and is stopped.
pub record HasDiskCause {T F : Type 0} (failure : F) (old new : DiskState) (result : Result T F) : Type 0 where
  pub failed : IsErrOf result failure → Rose old.faults new.faults × (new.stopped ≡ true)

-- the disk reads as before, and runs
pub record RunsOn (old new : DiskState) : Type 0 where
  pub reads : new.reads ≡ old.reads
  pub running : new.stopped ≡ false

-- the disk or memory failed: the fault says nothing of what stands on the disk
abbrev pub IsOfDisk : RecoverFault → Type 0
IsOfDisk DiskFailed = Unit {0}
IsOfDisk Memory = Unit {0}
IsOfDisk fault = ⊥

-- a call of the disk was refused because it is out of memory, which it counts, and it is stopped
pub record IsOutOfMemory (old new : DiskState) : Type 0 where
  pub counted : Rose old.refusals new.refusals
  pub stopped : new.stopped ≡ true

-- A fault of what stands on the disk leaves the disk running, and so does out of memory where it isn't the disk's.
abbrev pub RunsOnAfter : DiskState → DiskState → RecoverFault → Type 0
RunsOnAfter old new DiskFailed = Unit {0}
RunsOnAfter old new Memory = RunsOn old new ⊎ IsOutOfMemory old new
RunsOnAfter old new fault = RunsOn old new

-- Nothing is written. The disk runs on unless a call of it was refused, and each of its refusals has its cause.
pub record ReadsDisk {T : Type 0} (old new : DiskState) (result : Result T RecoverFault) : Type 0 where
  pub only_reads : OnlyReads old new
  pub ok : OnOk result (RunsOn old new)
  pub err : IfErr result (λ fault. RunsOnAfter old new fault)
  pub cause : HasDiskCause DiskFailed old new result
