use Rattle.session_rules.proofs.AckLemmas.{loader_acks_what_came, target_acks_what_came}
use Rattle.session_rules.proofs.laws.what_is_acknowledged_came.Goals as goal

pub returns-clause-loader : goal.returns-clause-loader
returns-clause-loader c = loader_acks_what_came

pub returns-clause-target : goal.returns-clause-target
returns-clause-target c = target_acks_what_came
