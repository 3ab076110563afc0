-- What `rollback` prints, its status, and the cause of each; and what it leaves of the disk (docs/PROMISES.md).
use Rattle.std.specs.Prelude.{◌≡◌, ℕ, List, true, is_some, ⊤}
use Rattle.std.specs.Option.{ForSome}
use Rattle.load_base.specs.Counts.{Rose}
use Rattle.disk_model.specs.State.{DiskState}
use Rattle.disk_layout.specs.DiskReads.{IsOfDisk}
use Rattle.disk_layout.specs.Holds.{HasDiskFault, StandingView}
use Rattle.disk_layout.specs.declared.fault.RecoverFault.{RecoverFault}
use Rattle.listing.specs.Listing.{listing}
use Rattle.bank_store.specs.DiskWrites.{IsRunning}
use Rattle.bank_store.specs.Fits.{LosesOnlyWork}
use Rattle.recovery.specs.declared.former_fault.FormerFault.TheVariants as formers
use Rattle.bank_rollback.specs.Rollbacks.{IsLookedAt, LeavesActiveOrFormer, RefusesRollback, RollsBack, WritesWhereItCan}
use Rattle.bank_rollback.specs.declared.fault.RollbackFault.{RollbackFault}
use Rattle.bank_rollback.specs.declared.fault.RollbackFault.TheVariants.{Former, SequenceSpent}
use Rattle.loader_cli.specs.Texts.{disk_fault, no_configuration, no_former}

-- G1 to G3, or K2: it is what is former, or its sequence number, that is lacking
abbrev pub IsOfFormer : RollbackFault → Type 0
IsOfFormer (Former formers.SlotClosed) = ⊤
IsOfFormer (Former (formers.SlotBad offset)) = ⊤
IsOfFormer (Former (formers.ManifestBad offset)) = ⊤
IsOfFormer SequenceSpent = ⊤
IsOfFormer fault = ⊥

-- the status, the text, and what it says of the disk, where the disk tells its content
pub data RollsBackAs (old new : DiskState) (status : ℕ) (text : List ℕ) : Type 0 where
  -- 0: the former loads are active, and this is what the disk holds; a power loss leaves nothing else, and it runs on
  rolled_back : (brought : StandingView) → RollsBack old new brought → status ≡ 0 → text ≡ listing brought → RollsBackAs old new status text
  -- 5: the disk failed in this call
  rollback_failed : Rose old.faults new.faults → new.stopped ≡ true → status ≡ 5 → text ≡ disk_fault → RollsBackAs old new status text
  -- 8: the disk holds no configuration, at this fault, and runs on; one that tells its content is as it was
  none_active : (fault : RecoverFault) → ForSome old.reads (λ image. HasDiskFault image fault) → ¬ IsOfDisk fault → IsRunning new
      → (is_some old.reads ≡ true → IsLookedAt old new) → status ≡ 8 → text ≡ no_configuration fault → RollsBackAs old new status text
  -- 9: it holds one, and no former one, or one with the last sequence number; nothing was written, and it runs on
  none_former : (fault : RollbackFault) → ForSome old.reads (λ image. RefusesRollback image fault) → IsOfFormer fault → IsLookedAt old new
      → status ≡ 9 → text ≡ no_former fault → RollsBackAs old new status text

-- What a rollback leaves: nothing is written but where there is a former configuration to go back to, and the disk goes on
-- telling its content, or not. Where a power loss could take nothing but work of an
-- installation at first, each image that one may leave, or might have left since, holds what was active then, or what the
-- rollback brings; and where the disk runs on, a power loss may take no more than at first.
pub record LeavesRollback (old new : DiskState) : Type 0 where
  pub writes : WritesWhereItCan old new
  pub tells : is_some new.reads ≡ is_some old.reads
  pub either : LeavesActiveOrFormer old new
  pub rests : LosesOnlyWork old → IsRunning new → LosesOnlyWork new
