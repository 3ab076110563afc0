use Rattle.fleet_trace.proofs.PostPlaces.{no_place, place_is_right, place_is_there}
use Rattle.fleet_trace.proofs.laws.a_datagrams_place_is_its_own_number_at_its_unit.Goals as goal

pub returns-clause-datagram : goal.returns-clause-datagram
returns-clause-datagram c = place_is_right

pub returns-clause-there : goal.returns-clause-there
returns-clause-there c = place_is_there

pub returns-clause-none : goal.returns-clause-none
returns-clause-none c = no_place
