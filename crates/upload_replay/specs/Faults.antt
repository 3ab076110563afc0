-- A fault of the link, as one of a run.
use Rattle.link_net.specs.declared.link.LinkFault.{LinkFault}
use Rattle.link_net.specs.declared.link.LinkFault.TheVariants as links
use Rattle.upload_replay.specs.declared.outcome.DriveFault.{DriveFault}
use Rattle.upload_replay.specs.declared.outcome.DriveFault.TheVariants as faults

abbrev pub drive_fault_of : LinkFault → DriveFault
drive_fault_of links.Failed = faults.Link
drive_fault_of links.Memory = faults.Memory
