use Rattle.session_rules.proofs.RequestLemmas.{loader_writes_requests}
use Rattle.session_rules.proofs.laws.a_loader_writes_requests.Goals as goal

pub returns : goal.returns
returns c = loader_writes_requests
