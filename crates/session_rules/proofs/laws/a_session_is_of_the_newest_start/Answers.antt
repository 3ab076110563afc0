use Rattle.session_rules.proofs.OwnSessionLemmas.{sessions_are_of_newest_starts}
use Rattle.session_rules.proofs.laws.a_session_is_of_the_newest_start.Goals as goal

pub returns : goal.returns
returns c = sessions_are_of_newest_starts
