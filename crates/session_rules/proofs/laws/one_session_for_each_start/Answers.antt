use Rattle.session_rules.proofs.SessionLemmas.{one_session_a_start}
use Rattle.session_rules.proofs.laws.one_session_for_each_start.Goals as goal

pub returns : goal.returns
returns c = one_session_a_start
