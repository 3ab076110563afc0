use Rattle.replay_rules.proofs.PlacedTraceLemmas.{due_is_placed, due_is_two_at_most, ports_rise}
use Rattle.replay_rules.proofs.laws.datagrams_of_a_trace.Goals as goal

pub returns-clause-placed : goal.returns-clause-placed
returns-clause-placed c = due_is_placed

pub returns-clause-two : goal.returns-clause-two
returns-clause-two c = due_is_two_at_most

pub returns-clause-ports : goal.returns-clause-ports
returns-clause-ports c = ports_rise
