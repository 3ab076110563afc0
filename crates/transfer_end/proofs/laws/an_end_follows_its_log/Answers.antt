use Rattle.transfer_end.proofs.ViewLemmas.{view_follows, views_follow}
use Rattle.transfer_end.proofs.laws.an_end_follows_its_log.Goals as goal

pub returns-clause-one_move : goal.returns-clause-one_move
returns-clause-one_move c = view_follows

pub returns-clause-moves : goal.returns-clause-moves
returns-clause-moves c = views_follow
