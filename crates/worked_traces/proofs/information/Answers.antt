use Rattle.worked_traces.proofs.InformationRun.{information}
use Rattle.worked_traces.proofs.information.Goals as goal

pub returns : goal.returns
returns c = information
