use Rattle.fleet_trace.proofs.OwnUndelivered.{least_is_own, least_is_there, none_is_own, own_undelivered}
use Rattle.fleet_trace.proofs.laws.what_is_undelivered_is_so_at_its_unit.Goals as goal

pub returns-clause-own : goal.returns-clause-own
returns-clause-own c = own_undelivered

pub returns-clause-none : goal.returns-clause-none
returns-clause-none c = none_is_own

pub returns-clause-least : goal.returns-clause-least
returns-clause-least c = least_is_own

pub returns-clause-there : goal.returns-clause-there
returns-clause-there c = least_is_there
