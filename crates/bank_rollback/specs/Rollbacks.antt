-- What a rollback does to a disk (docs/DISK.md, "Rollback").
use Rattle.std.specs.Prelude.{◌≡◌, ◌⊎◌, ◌<◌, true, Some, Result, IfErr, is_some}
use Rattle.std.specs.Option.{ForSome}
use Rattle.disk_model.specs.Image.{Image}
use Rattle.disk_model.specs.Moments.{LeavesOnly}
use Rattle.disk_model.specs.State.{DiskState, IsSettled, OnlyReads}
use Rattle.disk_layout.specs.DiskReads.{HasDiskCause, IsOutOfMemory, RunsOn}
use Rattle.disk_layout.specs.Holds.{StandingView, HoldsConfig}
use Rattle.disk_layout.specs.Offsets.{IsBankSize}
use Rattle.bank_store.specs.DiskWrites.{IsRunning, TimeGoesOn}
use Rattle.bank_store.specs.Fits.{LosesOnlyWork}
use Rattle.bank_store.specs.Given.{configured}
use Rattle.recovery.specs.Formers.{HoldsFormer, RefusesFormer}
use Rattle.recovery.specs.declared.former_fault.FormerFault.TheVariants as formers
use Rattle.bank_rollback.specs.declared.fault.RollbackFault.{RollbackFault}
use Rattle.bank_rollback.specs.declared.fault.RollbackFault.TheVariants.{Former, SequenceSpent, DiskFailed, Memory}

-- ---- what it brings

-- This follows the active configuration: the former loads, in the other bank, with the next sequence number.
pub record BringsBack (image : Image) (brought : StandingView) : Type 0 where
  pub active : StandingView
  pub former : StandingView
  pub holds : HoldsConfig image active
  pub holds_former : HoldsFormer image former
  pub goes_on : active.sequence < 4294967295
  pub is : brought ≡ configured active former.loads

-- The former loads are active: where the disk tells its content, it read a former configuration and reads what follows from
-- it. The disk runs, and nothing else may be left.
pub record RollsBack (old new : DiskState) (brought : StandingView) : Type 0 where
  pub brings : ForSome old.reads (λ image. BringsBack image brought)
  pub holds : ForSome new.reads (λ image. HoldsConfig image brought)
  pub tells : is_some new.reads ≡ is_some old.reads
  pub settled : IsSettled new
  pub running : IsRunning new
  pub size : IsBankSize brought.identity.bank
  pub bank : brought.bank < 2

-- ---- why it is refused

-- The image holds a former configuration, and the active one has the last sequence number.
pub record IsSpentFor (image : Image) : Type 0 where
  pub active : StandingView
  pub former : StandingView
  pub holds : HoldsConfig image active
  pub holds_former : HoldsFormer image former
  pub last : active.sequence ≡ 4294967295

-- A refusal names the condition that fails; one of the disk, or because it is out of memory, says nothing of the image.
abbrev pub RefusesRollback : Image → RollbackFault → Type 0
RefusesRollback image (Former fault) = RefusesFormer image fault
RefusesRollback image SequenceSpent = IsSpentFor image
RefusesRollback image DiskFailed = Unit {0}
RefusesRollback image Memory = Unit {0}

-- ---- what a power loss leaves

-- the image holds what was active, or what a rollback of it brings
abbrev pub IsActiveOrFormer : Image → StandingView → Image → Type 0
IsActiveOrFormer image active left = HoldsConfig left active ⊎ ((brought : StandingView) × BringsBack image brought × HoldsConfig left brought)

-- Where a power loss may take nothing but work of an installation at the start, each image that it might leave since then
-- holds what was active, or what the rollback brings.
abbrev pub LeavesActiveOrFormer : (old new : DiskState) → Type 0
LeavesActiveOrFormer old new =
    LosesOnlyWork old → (image : Image) (active : StandingView) → old.reads ≡ Some image → HoldsConfig image active
    → LeavesOnly old.clock (IsActiveOrFormer image active) new

-- ---- what becomes of the disk

-- Nothing is written, but where the disk holds a former configuration, and a sequence number is left for it.
abbrev pub WritesWhereItCan : (old new : DiskState) → Type 0
WritesWhereItCan old new = OnlyReads old new ⊎ ForSome old.reads (λ image. (brought : StandingView) × BringsBack image brought)

-- nothing was written, and the disk runs on
pub record IsLookedAt (old new : DiskState) : Type 0 where
  pub only_reads : OnlyReads old new
  pub runs_on : RunsOn old new

-- The former loads are active, and the disk runs on, from which nothing else may be left.
pub record HasRolledBack (old new : DiskState) : Type 0 where
  pub holds : ForSome old.reads (λ image. ForSome new.reads (λ now. (brought : StandingView) × BringsBack image brought × HoldsConfig now brought))
  pub tells : is_some new.reads ≡ is_some old.reads
  pub settled : IsSettled new
  pub running : IsRunning new

-- Memory ran out: before anything was written; or once the former loads were active, as what the disk holds was read; or the
-- disk was itself out of memory.
pub data RanOut (old new : DiskState) : Type 0 where
  before_writing : IsLookedAt old new → RanOut old new
  after_it : HasRolledBack old new → RanOut old new
  of_the_disk : IsOutOfMemory old new → RanOut old new

-- A refusal of what stands on the disk leaves it as it was. One by V1 to V4 may come after writing too, where the disk tells
-- no content.
abbrev pub LeavesAfter : (old new : DiskState) → RollbackFault → Type 0
LeavesAfter old new DiskFailed = Unit {0}
LeavesAfter old new Memory = RanOut old new
LeavesAfter old new (Former (formers.Recover fault)) = IsRunning new × (is_some old.reads ≡ true → IsLookedAt old new)
LeavesAfter old new fault = IsLookedAt old new

-- Time goes on, the disk runs on unless a call of it was refused, and each of its refusals has its cause.
pub record GoesOnAfter {T : Type 0} (old new : DiskState) (result : Result T RollbackFault) : Type 0 where
  pub goes_on : TimeGoesOn old new
  pub refused : IfErr result (λ fault. LeavesAfter old new fault)
  pub cause : HasDiskCause DiskFailed old new result
