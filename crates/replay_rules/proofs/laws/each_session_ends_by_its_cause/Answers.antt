use Rattle.replay_rules.proofs.ByCause.{outcomes_have_causes}
use Rattle.replay_rules.proofs.laws.each_session_ends_by_its_cause.Goals as goal

pub returns : goal.returns
returns c = outcomes_have_causes
