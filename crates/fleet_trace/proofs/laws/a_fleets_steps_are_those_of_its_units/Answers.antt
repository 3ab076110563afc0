use Rattle.fleet_trace.proofs.Merging.{known_steps, merged_again, merged_goes, one_more_merged, order_of_merged, own_of_merged, same_merged}
use Rattle.fleet_trace.proofs.laws.a_fleets_steps_are_those_of_its_units.Goals as goal

pub returns-clause-again : goal.returns-clause-again
returns-clause-again c = merged_again

pub returns-clause-known : goal.returns-clause-known
returns-clause-known c = known_steps

pub returns-clause-own : goal.returns-clause-own
returns-clause-own c = own_of_merged

pub returns-clause-order : goal.returns-clause-order
returns-clause-order c = order_of_merged

pub returns-clause-not_ended : goal.returns-clause-not_ended
returns-clause-not_ended c = merged_goes

pub returns-clause-one_more : goal.returns-clause-one_more
returns-clause-one_more c = one_more_merged

pub returns-clause-alike : goal.returns-clause-alike
returns-clause-alike c = same_merged
