use Rattle.fleet_trace.proofs.FleetEnds.{fleet_end_comes_again, fleet_end_is_last, none_ended}
use Rattle.fleet_trace.proofs.laws.the_end_of_a_fleet_is_last.Goals as goal

pub returns-clause-last : goal.returns-clause-last
returns-clause-last c = fleet_end_is_last

pub returns-clause-ended : goal.returns-clause-ended
returns-clause-ended c = fleet_end_comes_again

pub returns-clause-not_before : goal.returns-clause-not_before
returns-clause-not_before c = none_ended
