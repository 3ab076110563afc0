use Rattle.exchange_trace.specs.Posts.{posted_in}
use Rattle.exchange_trace.proofs.PostLemmas.{port_above_all, port_above_least, port_above_no_more}
use Rattle.exchange_trace.proofs.laws.the_first_port_after_a_boot.Goals as goal

pub returns-clause-from_1024 : goal.returns-clause-from_1024
returns-clause-from_1024 c = λ steps. port_above_least 1024 (posted_in steps)

pub returns-clause-above : goal.returns-clause-above
returns-clause-above c = λ steps. port_above_all 1024 (posted_in steps)

pub returns-clause-least : goal.returns-clause-least
returns-clause-least c = λ steps port. port_above_no_more 1024 (posted_in steps) port
