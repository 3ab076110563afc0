-- The faults of a rollback, and how they are printed (docs/FORMATS.md).
use Rattle.std.specs.Prelude.{ℕ, List, [], codes, ⊤}
use Rattle.printed_text.specs.FaultTexts.{coded}
use Rattle.disk_layout.specs.declared.fault.RecoverFault.{RecoverFault}
use Rattle.disk_layout.specs.declared.fault.RecoverFault.TheVariants as recovers
use Rattle.bank_store.specs.declared.fault.StoreFault.{StoreFault}
use Rattle.bank_store.specs.declared.fault.StoreFault.TheVariants as stores
use Rattle.recovery.specs.Formers.{former_fault_text}
use Rattle.recovery.specs.declared.former_fault.FormerFault.{FormerFault}
use Rattle.recovery.specs.declared.former_fault.FormerFault.TheVariants as formers
use Rattle.bank_rollback.specs.declared.fault.RollbackFault.{RollbackFault}
use Rattle.bank_rollback.specs.declared.fault.RollbackFault.TheVariants.{Former, SequenceSpent, DiskFailed, Memory}

-- a refusal to find what is former
abbrev pub of_former : FormerFault → RollbackFault
of_former formers.DiskFailed = DiskFailed
of_former formers.Memory = Memory
of_former fault = Former fault

-- a refusal to find what is active
abbrev pub of_survey : RecoverFault → RollbackFault
of_survey recovers.DiskFailed = DiskFailed
of_survey recovers.Memory = Memory
of_survey fault = Former (formers.Recover fault)

-- a refusal of the store
abbrev pub of_store : StoreFault → RollbackFault
of_store stores.SequenceSpent = SequenceSpent
of_store stores.Memory = Memory
of_store fault = DiskFailed

-- a failure of the disk, and out of memory, are told by their own names
abbrev pub RollbackHasOwnName : RollbackFault → Type 0
RollbackHasOwnName (Former formers.DiskFailed) = ⊥
RollbackHasOwnName (Former formers.Memory) = ⊥
RollbackHasOwnName (Former (formers.Recover recovers.DiskFailed)) = ⊥
RollbackHasOwnName (Former (formers.Recover recovers.Memory)) = ⊥
RollbackHasOwnName fault = ⊤

-- the text of what is lacking, or the code; a failure of the disk and out of memory are told otherwise
abbrev pub rollback_fault_text : RollbackFault → List ℕ
rollback_fault_text (Former fault) = former_fault_text fault
rollback_fault_text SequenceSpent = coded (codes "K2") []
rollback_fault_text DiskFailed = []
rollback_fault_text Memory = []
