use Rattle.fleet_link.specs.FleetPlans.{seen_with, turns_in}
use Rattle.fleet_link.proofs.FleetTurns.{batch_asks_then, batch_goes_on}
use Rattle.fleet_link.proofs.fleet_turn.batch_finishes.Goals as goal

pub returns-in-Some : goal.returns-in-Some
returns-in-Some c = batch_goes_on c.args.mail.now (seen_with c.args.mail.now c.args.waits.now c.args.may_ask) (turns_in c.args.firsts) c.in-Some.turn (rw c.in-Some.is at (c.finishing.ensures c.args.may_ask))

pub returns-in-None : goal.returns-in-None
returns-in-None c = batch_asks_then c.args.mail.now (seen_with c.args.mail.now c.args.waits.now c.args.may_ask) (turns_in c.args.firsts) c.batch_asking.result (rw c.in-None.is at (c.finishing.ensures c.args.may_ask)) (c.batch_asking.ensures c.args.mail.now c.args.waits.now)
