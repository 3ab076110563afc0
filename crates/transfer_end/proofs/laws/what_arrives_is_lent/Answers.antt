use Rattle.transfer_end.proofs.ArrivalLemmas.{taken_is_lent}
use Rattle.transfer_end.proofs.laws.what_arrives_is_lent.Goals as goal

pub returns : goal.returns
returns c = taken_is_lent
