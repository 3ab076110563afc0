-- The faults of the store, and how they are printed (docs/FORMATS.md).
use Rattle.std.specs.Prelude.{ℕ, List, [], ◌∷◌, codes}
use Rattle.printed_text.specs.FaultTexts.{coded}
use Rattle.disk_model.specs.declared.disk.DiskFault.{DiskFault}
use Rattle.disk_model.specs.declared.disk.DiskFault.TheVariants as disk
use Rattle.bank_store.specs.declared.fault.StoreFault.{StoreFault}
use Rattle.bank_store.specs.declared.fault.StoreFault.TheVariants.{BankFull, SequenceSpent, DiskFailed, Memory}

-- a refusal of the disk, as one of the store
abbrev pub store_fault_of : DiskFault → StoreFault
store_fault_of disk.Failed = DiskFailed
store_fault_of disk.Memory = Memory

-- the code and its numbers; out of memory is no fault of what was asked
abbrev pub store_fault_text : StoreFault → List ℕ
store_fault_text (BankFull need have) = coded (codes "K1") (need ∷ have ∷ [])
store_fault_text SequenceSpent = coded (codes "K2") []
store_fault_text DiskFailed = coded (codes "K3") []
store_fault_text Memory = []
