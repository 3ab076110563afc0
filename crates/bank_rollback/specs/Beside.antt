-- A former configuration beside the active one, as it is found.
use Rattle.std.specs.Prelude.{◌≡◌, ◌⊎◌, ℕ, ◌<◌, List, Result, OnOk, IfErr}
use Rattle.std.specs.Option.{ForSome}
use Rattle.load_base.specs.Config.{LoadView}
use Rattle.disk_model.specs.Image.{Image}
use Rattle.disk_model.specs.State.{DiskState, IsSettled, OnlyReads}
use Rattle.disk_layout.specs.DiskReads.{HasDiskCause, IsOutOfMemory, RunsOn}
use Rattle.disk_layout.specs.Holds.{HoldsConfig, StandingView}
use Rattle.disk_layout.specs.Slots.{IsManifestRange, manifest_length_of, manifest_offset_of, other_slot}
use Rattle.bank_store.specs.Bounds.{largest_bank}
use Rattle.bank_store.specs.Fits.{HoldsFor}
use Rattle.bank_store.specs.Given.{configured}
use Rattle.bank_store.specs.Readopting.{HasLoadsAt}
use Rattle.bank_store.specs.Store.{IsPrepared, active_sequence}
use Rattle.bank_store.specs.declared.store.Store.{Store}
use Rattle.recovery.specs.Formers.{HoldsFormer}
use Rattle.bank_rollback.specs.declared.fault.RollbackFault.{RollbackFault}
use Rattle.bank_rollback.specs.declared.fault.RollbackFault.TheVariants.{DiskFailed, Memory}
use Rattle.bank_rollback.specs.declared.rolling_back.Beside.{Beside}

-- this is the former configuration, and the other slot names its manifest here
pub record IsFormerAt (image : Image) (former : StandingView) (place size : ℕ) : Type 0 where
  pub holds : HoldsFormer image former
  pub offset : place ≡ manifest_offset_of image (other_slot holds.slot)
  pub length : size ≡ manifest_length_of image (other_slot holds.slot)

-- The store is that of the active configuration, and in the other bank the loads of the former one stand.
pub record StandsBeside (image : Image) (beside : Beside) : Type 0 where
  pub active : StandingView
  pub former : StandingView
  pub holds : HoldsFor beside.store image active
  pub holds_former : HoldsFormer image former
  pub loads : HasLoadsAt beside.store image beside.place beside.length former.loads

-- What it takes to name it again, also where the disk tells no content: memory, a sequence number, and a range that lies on
-- the disk.
pub record CanBringBack (beside : Beside) : Type 0 where
  pub prepared : IsPrepared beside.store
  pub goes_on : active_sequence beside.store < 4294967295
  pub range : IsManifestRange largest_bank (record { offset = beside.place; length = beside.length })

-- The loads that stood in the other bank, with their manifest at this place, are active, and nothing else may be left.
pub record MakesActive (store : Store) (old new : DiskState) (place size : ℕ) : Type 0 where
  pub holds : ForSome old.reads (λ image. ForSome new.reads (λ now. (s : StandingView) (loads : List LoadView) → HoldsFor store image s
      → HasLoadsAt store image place size loads → HoldsConfig now (configured s loads)))
  pub settled : IsSettled new

-- a refusal of what stands on the disk leaves the disk running, and so does out of memory where it isn't the disk's
abbrev pub LooksAfter : DiskState → DiskState → RollbackFault → Type 0
LooksAfter old new DiskFailed = Unit {0}
LooksAfter old new Memory = RunsOn old new ⊎ IsOutOfMemory old new
LooksAfter old new fault = RunsOn old new

-- Nothing is written. The disk runs on unless a call of it was refused, and each of its refusals has its cause.
pub record LooksFor {T : Type 0} (old new : DiskState) (result : Result T RollbackFault) : Type 0 where
  pub only_reads : OnlyReads old new
  pub ok : OnOk result (RunsOn old new)
  pub err : IfErr result (λ fault. LooksAfter old new fault)
  pub cause : HasDiskCause DiskFailed old new result
