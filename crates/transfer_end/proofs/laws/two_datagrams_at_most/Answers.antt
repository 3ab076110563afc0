use Rattle.transfer_end.proofs.PostedLemmas.{moves_post_two}
use Rattle.transfer_end.proofs.laws.two_datagrams_at_most.Goals as goal

pub returns : goal.returns
returns c = moves_post_two
