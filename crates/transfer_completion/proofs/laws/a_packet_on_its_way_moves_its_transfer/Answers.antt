use Rattle.transfer_completion.proofs.TalkLemmas.{finished_is_whole, reading_begins, receiver_goes_on, sender_goes_on, taken_is_small, writing_begins}
use Rattle.transfer_completion.proofs.laws.a_packet_on_its_way_moves_its_transfer.Goals as goal

pub returns-clause-receiver : goal.returns-clause-receiver
returns-clause-receiver c = receiver_goes_on

pub returns-clause-sender : goal.returns-clause-sender
returns-clause-sender c = sender_goes_on

pub returns-clause-reading : goal.returns-clause-reading
returns-clause-reading c = reading_begins

pub returns-clause-writing : goal.returns-clause-writing
returns-clause-writing c = writing_begins

pub returns-clause-whole : goal.returns-clause-whole
returns-clause-whole c = finished_is_whole

pub returns-clause-small : goal.returns-clause-small
returns-clause-small c = taken_is_small
