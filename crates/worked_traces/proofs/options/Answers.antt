use Rattle.worked_traces.proofs.OptionsRun.{options}
use Rattle.worked_traces.proofs.options.Goals as goal

pub returns : goal.returns
returns c = options
