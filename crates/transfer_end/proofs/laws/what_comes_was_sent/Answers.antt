use Rattle.transfer_end.proofs.FairMoves.{moves_stay_fair}
use Rattle.transfer_end.proofs.ReceivedLemmas.{receives_what_was_sent}
use Rattle.transfer_end.proofs.laws.what_comes_was_sent.Goals as goal

pub returns-clause-moves : goal.returns-clause-moves
returns-clause-moves c = moves_stay_fair

pub returns-clause-receives : goal.returns-clause-receives
returns-clause-receives c = receives_what_was_sent
