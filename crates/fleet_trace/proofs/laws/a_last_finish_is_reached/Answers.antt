use Rattle.fleet_trace.proofs.LastFleetFinish.{each_is_left_to_own, last_fleet_finish_is_reached, rest_is_of_finish}
use Rattle.fleet_trace.proofs.laws.a_last_finish_is_reached.Goals as goal

pub returns-clause-reached : goal.returns-clause-reached
returns-clause-reached c = λ units waiting asks script lines earlier ends_so follows. last_fleet_finish_is_reached units waiting asks script lines ends_so earlier follows

pub returns-clause-gives : goal.returns-clause-gives
returns-clause-gives c = λ units waiting asks script before more left follows goes. rest_is_of_finish units waiting asks script before left more follows goes

pub returns-clause-each_unit : goal.returns-clause-each_unit
returns-clause-each_unit c = each_is_left_to_own
