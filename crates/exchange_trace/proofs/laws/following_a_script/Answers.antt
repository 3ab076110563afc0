use Rattle.exchange_trace.proofs.FollowingLemmas.{end_is_last, following_is_honest, turn_is_honest}
use Rattle.exchange_trace.proofs.laws.following_a_script.Goals as goal

pub returns-clause-honest : goal.returns-clause-honest
returns-clause-honest c = turn_is_honest

pub returns-clause-all_honest : goal.returns-clause-all_honest
returns-clause-all_honest c = following_is_honest

pub returns-clause-last : goal.returns-clause-last
returns-clause-last c = end_is_last
