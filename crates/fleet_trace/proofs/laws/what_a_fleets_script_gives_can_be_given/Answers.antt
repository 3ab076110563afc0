use Rattle.fleet_trace.proofs.CanBeGiven.{all_can, all_honest, asked_may_be, given_can, given_is_honest}
use Rattle.fleet_trace.proofs.laws.what_a_fleets_script_gives_can_be_given.Goals as goal

pub returns-clause-given : goal.returns-clause-given
returns-clause-given c = given_can

pub returns-clause-honest : goal.returns-clause-honest
returns-clause-honest c = given_is_honest

pub returns-clause-asked : goal.returns-clause-asked
returns-clause-asked c = asked_may_be

pub returns-clause-all_given : goal.returns-clause-all_given
returns-clause-all_given c = all_can

pub returns-clause-all_honest : goal.returns-clause-all_honest
returns-clause-all_honest c = all_honest
