use Rattle.transfer_end.proofs.InOrder.{moves_post_in_order}
use Rattle.transfer_end.proofs.laws.blocks_are_first_posted_in_order.Goals as goal

pub returns : goal.returns
returns c = moves_post_in_order
