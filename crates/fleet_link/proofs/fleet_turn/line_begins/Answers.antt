use Rattle.fleet_link.proofs.fleet_turn.line_begins.Goals as goal

pub returns-in-At-clause-turn : goal.returns-in-At-clause-turn
returns-in-At-clause-turn c = rw c.in-At.is (c.unit_begins.ensures.turn c.args.may_ask)

pub returns-in-At-clause-memory : goal.returns-in-At-clause-memory
returns-in-At-clause-memory c = rw c.in-At.is (c.unit_begins.ensures.memory c.args.may_ask)

pub returns-in-AskNext-clause-turn : goal.returns-in-AskNext-clause-turn
returns-in-AskNext-clause-turn c = rw c.in-AskNext.is (c.asking.ensures c.args.mail.now c.args.waits.now)

pub returns-in-FinishBatch-clause-turn : goal.returns-in-FinishBatch-clause-turn
returns-in-FinishBatch-clause-turn c = rw c.in-FinishBatch.is (c.batch_asking.ensures c.args.mail.now c.args.waits.now)
