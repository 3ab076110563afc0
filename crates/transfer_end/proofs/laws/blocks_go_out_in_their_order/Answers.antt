use Rattle.transfer_end.proofs.RfcLemmas.{acknowledges_taken, end_is_of_link, sends_next_block}
use Rattle.transfer_end.proofs.laws.blocks_go_out_in_their_order.Goals as goal

pub returns-clause-of_link : goal.returns-clause-of_link
returns-clause-of_link c = end_is_of_link

pub returns-clause-next : goal.returns-clause-next
returns-clause-next c = sends_next_block

pub returns-clause-taken : goal.returns-clause-taken
returns-clause-taken c = acknowledges_taken
