use Rattle.worked_traces.proofs.BootsRun.{boots}
use Rattle.worked_traces.proofs.boots.Goals as goal

pub returns : goal.returns
returns c = boots
