use Rattle.worked_traces.proofs.RepeatsRun.{repeats}
use Rattle.worked_traces.proofs.repeats.Goals as goal

pub returns : goal.returns
returns c = repeats
