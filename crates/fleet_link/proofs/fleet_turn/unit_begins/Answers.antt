use Rattle.link_net.specs.Lines.{line_view}
use Rattle.fleet_link.proofs.FleetTurns.{unit_gives}
use Rattle.fleet_link.proofs.fleet_turn.unit_begins.Goals as goal

pub returns-in-Some-clause-turn : goal.returns-in-Some-clause-turn
returns-in-Some-clause-turn c = λ may_ask.
    unit_gives c.args.mail.now may_ask c.args.waits.now c.args.unit (line_view c.args.line.now) c.mail_at.result.now c.waiting_at.result c.in-Some.field-0 c.in_ok-given.field-0 c.once.result c.requires c.mail_at.ensures c.waiting_at.ensures c.in-Some.is c.in_ok-given.ensures.turn c.once.ensures
