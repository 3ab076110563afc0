use Rattle.worked_traces.proofs.OtherHardwareRun.{other_hardware}
use Rattle.worked_traces.proofs.other_hardware.Goals as goal

pub returns : goal.returns
returns c = other_hardware
