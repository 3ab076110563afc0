use Rattle.session_rules.proofs.HeardLemmas.{loader_takes_what_came, target_takes_what_came}
use Rattle.session_rules.proofs.laws.what_was_taken_came.Goals as goal

pub returns-clause-loader : goal.returns-clause-loader
returns-clause-loader c = loader_takes_what_came

pub returns-clause-target : goal.returns-clause-target
returns-clause-target c = target_takes_what_came
