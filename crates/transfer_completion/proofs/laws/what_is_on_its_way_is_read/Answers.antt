use Rattle.transfer_completion.proofs.TalkLemmas.{requests_are_read, talk_is_read}
use Rattle.transfer_completion.proofs.laws.what_is_on_its_way_is_read.Goals as goal

pub returns-clause-packets : goal.returns-clause-packets
returns-clause-packets c = talk_is_read

pub returns-clause-requests : goal.returns-clause-requests
returns-clause-requests c = requests_are_read
