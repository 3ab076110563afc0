use Rattle.transfer_end.proofs.AckLemmas.{last_stays_acked, posts_ack_what_came}
use Rattle.transfer_end.proofs.laws.what_is_acknowledged_came.Goals as goal

pub returns-clause-posts : goal.returns-clause-posts
returns-clause-posts c = posts_ack_what_came

pub returns-clause-last : goal.returns-clause-last
returns-clause-last c = last_stays_acked
