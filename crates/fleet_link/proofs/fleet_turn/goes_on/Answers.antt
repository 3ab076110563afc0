use Rattle.fleet_link.proofs.fleet_turn.goes_on.Goals as goal

pub returns-in-Finishing : goal.returns-in-Finishing
returns-in-Finishing c = rw c.in-Finishing.is (c.finishing.ensures c.args.may_ask)
