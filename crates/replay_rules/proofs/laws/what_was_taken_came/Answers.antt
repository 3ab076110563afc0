use Rattle.replay_rules.proofs.CameTraceLemmas.{both_take_what_came, due_is_acked}
use Rattle.replay_rules.proofs.laws.what_was_taken_came.Goals as goal

pub returns-clause-taken : goal.returns-clause-taken
returns-clause-taken c = both_take_what_came

pub returns-clause-acknowledged : goal.returns-clause-acknowledged
returns-clause-acknowledged c = due_is_acked
