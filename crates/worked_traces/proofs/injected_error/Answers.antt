use Rattle.worked_traces.proofs.InjectedErrorRun.{injected_error}
use Rattle.worked_traces.proofs.injected_error.Goals as goal

pub returns : goal.returns
returns c = injected_error
