use Rattle.tftp_link.proofs.RepeatLemmas.{duplicate_ack_is_dropped, other_ack_is_dropped, oack_is_acknowledged_again, late_oack_is_dropped, receiver_fails_at_error, sender_fails_at_error}
use Rattle.tftp_link.proofs.laws.repeat_laws.Goals as goal

pub returns-clause-duplicate_ack : goal.returns-clause-duplicate_ack
returns-clause-duplicate_ack c = duplicate_ack_is_dropped

pub returns-clause-other_ack : goal.returns-clause-other_ack
returns-clause-other_ack c = other_ack_is_dropped

pub returns-clause-oack_again : goal.returns-clause-oack_again
returns-clause-oack_again c = oack_is_acknowledged_again

pub returns-clause-late_oack : goal.returns-clause-late_oack
returns-clause-late_oack c = late_oack_is_dropped

pub returns-clause-receiver_fails : goal.returns-clause-receiver_fails
returns-clause-receiver_fails c = receiver_fails_at_error

pub returns-clause-sender_fails : goal.returns-clause-sender_fails
returns-clause-sender_fails c = sender_fails_at_error
