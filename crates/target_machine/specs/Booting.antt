-- A refusal of recovery, as one of a target that comes up.
use Rattle.disk_layout.specs.declared.fault.RecoverFault.{RecoverFault}
use Rattle.disk_layout.specs.declared.fault.RecoverFault.TheVariants as faults
use Rattle.target_machine.specs.declared.boot.BootFault.{BootFault}
use Rattle.target_machine.specs.declared.boot.BootFault.TheVariants.{Recover, Memory}

abbrev pub boot_fault_of : RecoverFault → BootFault
boot_fault_of faults.Memory = Memory
boot_fault_of fault = Recover fault
