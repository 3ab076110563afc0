-- The faults of recovery: a refusal of the disk as one of them, and how they are printed (docs/FORMATS.md).
use Rattle.std.specs.Prelude.{ℕ, List, [], ◌∷◌, codes}
use Rattle.printed_text.specs.FaultTexts.{coded}
use Rattle.disk_model.specs.declared.disk.DiskFault.{DiskFault}
use Rattle.disk_model.specs.declared.disk.DiskFault.TheVariants as disk
use Rattle.disk_layout.specs.declared.fault.RecoverFault.{RecoverFault}
use Rattle.disk_layout.specs.declared.fault.RecoverFault.TheVariants.{NotFormatted, NoOpenSlot, BadSlot, BadManifest, DiskFailed, Memory}

abbrev pub recover_fault_of : DiskFault → RecoverFault
recover_fault_of disk.Failed = DiskFailed
recover_fault_of disk.Memory = Memory

-- a code, and an offset where there is one; failures of the disk and of memory aren't printed so
abbrev pub recover_fault_text : RecoverFault → List ℕ
recover_fault_text (NotFormatted offset) = coded (codes "V1") (offset ∷ [])
recover_fault_text NoOpenSlot = coded (codes "V2") []
recover_fault_text (BadSlot offset) = coded (codes "V3") (offset ∷ [])
recover_fault_text (BadManifest offset) = coded (codes "V4") (offset ∷ [])
recover_fault_text DiskFailed = []
recover_fault_text Memory = []
