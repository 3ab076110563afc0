use Rattle.fleet_trace.proofs.OwnFinishes.{finish_alone_is_left, finish_is_own}
use Rattle.fleet_trace.proofs.laws.a_last_finish_is_one_at_each_unit.Goals as goal

pub returns-clause-follows : goal.returns-clause-follows
returns-clause-follows c = finish_is_own

pub returns-clause-left : goal.returns-clause-left
returns-clause-left c = finish_alone_is_left
