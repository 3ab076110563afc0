use Rattle.worked_traces.proofs.GivesUpRun.{gives_up}
use Rattle.worked_traces.proofs.gives_up.Goals as goal

pub returns : goal.returns
returns c = gives_up
