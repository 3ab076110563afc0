use Rattle.session_rules.proofs.HeardLemmas.{loader_posts_two, target_posts_two}
use Rattle.session_rules.proofs.PlacedLemmas.{loader_ports_count_up, loader_posts_placed, target_ports_count_up, target_posts_placed}
use Rattle.session_rules.proofs.laws.datagrams_go_where_they_may.Goals as goal

pub returns-clause-placed : goal.returns-clause-placed
returns-clause-placed c = (loader_posts_placed, target_posts_placed)

pub returns-clause-two : goal.returns-clause-two
returns-clause-two c = (loader_posts_two, target_posts_two)

pub returns-clause-ports : goal.returns-clause-ports
returns-clause-ports c = (loader_ports_count_up, target_ports_count_up)
