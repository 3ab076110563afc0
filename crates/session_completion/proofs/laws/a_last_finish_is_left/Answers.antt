use Rattle.session_completion.proofs.Finishing.{power_is_left}
use Rattle.session_completion.proofs.LastFinish.{finish_alone_is_left, last_finish_is_reached}
use Rattle.session_completion.proofs.laws.a_last_finish_is_left.Goals as goal

pub returns-clause-alone : goal.returns-clause-alone
returns-clause-alone c = finish_alone_is_left

pub returns-clause-reached : goal.returns-clause-reached
returns-clause-reached c = last_finish_is_reached

pub returns-clause-power : goal.returns-clause-power
returns-clause-power c = power_is_left
