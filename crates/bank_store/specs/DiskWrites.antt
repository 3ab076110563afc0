-- What a call of the store does to the disk, whatever it answers (docs/DISK.md).
use Rattle.std.specs.Prelude.{◌≡◌, ◌⊎◌, ℕ, ◌<◌, ◌≤◌, true, false, Result, Ok, Err, is_some, OnOk, IsErrOf}
use Rattle.load_base.specs.Counts.{Rose}
use Rattle.disk_model.specs.Image.{Image}
use Rattle.disk_model.specs.State.{DiskState, HasCause, KeepsCounts, KeepsPower, OnlyReads}
use Rattle.disk_model.specs.declared.disk.DiskFault.{DiskFault}
use Rattle.disk_layout.specs.DiskReads.{HasDiskCause}
use Rattle.bank_store.specs.declared.fault.StoreFault.{StoreFault}
use Rattle.bank_store.specs.declared.fault.StoreFault.TheVariants.{DiskFailed, Memory}

-- Time goes on: no count falls, the disk goes on telling its content, or not, and no image that might have been left
-- is lost.
pub record TimeGoesOn (old new : DiskState) : Type 0 where
  pub tells : is_some new.reads ≡ is_some old.reads
  pub faults : old.faults ≤ new.faults
  pub refusals : old.refusals ≤ new.refusals
  pub later : old.clock ≤ new.clock
  pub keeps : (t u : ℕ) (image : Image) → old.between t u image → new.between t u image
  pub earlier : (t u : ℕ) (image : Image) → u < old.clock → new.between t u image → old.between t u image
  pub power : KeepsPower old new

-- the disk failed, or refused because it is out of memory
abbrev pub IsFailure : StoreFault → Type 0
IsFailure DiskFailed = Unit {0}
IsFailure Memory = Unit {0}
IsFailure fault = ⊥

-- the disk takes calls
abbrev pub IsRunning : DiskState → Type 0
IsRunning disk = disk.stopped ≡ false

-- Time goes on; the disk runs on unless it refused a call, and each of its refusals has its cause.
pub record WritesDisk {T : Type 0} (old new : DiskState) (result : Result T StoreFault) : Type 0 where
  pub goes_on : TimeGoesOn old new
  pub running : OnOk result (new.stopped ≡ false)
  pub cause : HasDiskCause DiskFailed old new result
  pub memory : IsErrOf result Memory → Rose old.refusals new.refusals × (new.stopped ≡ true)
  pub counts : OnOk result (KeepsCounts old new)

-- Nothing is written, each refusal of the disk has its cause, and with Ok the same is read as before.
pub record ReadsUnchanged {T : Type 0} (old new : DiskState) (result : Result T DiskFault) : Type 0 where
  pub kept : OnOk result (new.reads ≡ old.reads)
  pub only_reads : OnlyReads old new
  pub cause : HasCause old new result

-- A power loss within these calls may leave nothing new but images with this property, and may leave no other now.
pub record AddsOnly (old new : DiskState) (P : Image → Type 0) : Type 0 where
  pub each : (t u : ℕ) (image : Image) → new.between t u image → old.between t u image ⊎ P image
  pub here : (image : Image) → new.now image → P image

-- the call was done, or refused for what was asked: neither the disk nor memory failed
abbrev pub IsAnswered : {T : Type 0} → Result T StoreFault → Type 0
IsAnswered (Ok x) = Unit {0}
IsAnswered (Err fault) = ¬ IsFailure fault
