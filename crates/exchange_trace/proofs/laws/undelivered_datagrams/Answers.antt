use Rattle.exchange_trace.proofs.PostLemmas.{undelivered_ascends, undelivered_grows, undelivered_shrinks}
use Rattle.exchange_trace.proofs.PostLemmas.{undelivered_has}
use Rattle.exchange_trace.proofs.laws.undelivered_datagrams.Goals as goal

pub returns-clause-exact : goal.returns-clause-exact
returns-clause-exact c = undelivered_has

pub returns-clause-ascending : goal.returns-clause-ascending
returns-clause-ascending c = undelivered_ascends

pub returns-clause-shrinks : goal.returns-clause-shrinks
returns-clause-shrinks c = undelivered_shrinks

pub returns-clause-grows : goal.returns-clause-grows
returns-clause-grows c = undelivered_grows
