use Rattle.worked_traces.proofs.LossesRun.{losses}
use Rattle.worked_traces.proofs.losses.Goals as goal

pub returns : goal.returns
returns c = losses
