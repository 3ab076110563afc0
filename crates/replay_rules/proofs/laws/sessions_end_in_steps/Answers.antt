use Rattle.replay_rules.proofs.EndedSteps.{sessions_end_in_steps}
use Rattle.replay_rules.proofs.laws.sessions_end_in_steps.Goals as goal

pub returns : goal.returns
returns c = sessions_end_in_steps
