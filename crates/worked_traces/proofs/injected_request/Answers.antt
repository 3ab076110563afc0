use Rattle.worked_traces.proofs.InjectedRequestRun.{injected_request}
use Rattle.worked_traces.proofs.injected_request.Goals as goal

pub returns : goal.returns
returns c = injected_request
