use Rattle.transfer_completion.proofs.PastLemmas.{past_is_quiet, past_request_is_spent}
use Rattle.transfer_completion.proofs.laws.what_was_posted_before_changes_nothing.Goals as goal

pub returns-clause-packet : goal.returns-clause-packet
returns-clause-packet c = past_is_quiet

pub returns-clause-request : goal.returns-clause-request
returns-clause-request c = past_request_is_spent
