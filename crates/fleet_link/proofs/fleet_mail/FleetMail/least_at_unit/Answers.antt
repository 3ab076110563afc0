use Rattle.std.proofs.Common.{Some, None, ap, ◌∙◌}
use Rattle.std.specs.Prelude.{Option}
use Rattle.exchange_trace.specs.Following.{delivery}
use Rattle.fleet_trace.specs.FleetFollowing.{given_at_place}
use Rattle.fleet_trace.specs.FleetPosts.{PostPlace}
use Rattle.fleet_link.specs.FleetMail.{fleet_scene_in}
use Rattle.fleet_link.proofs.Placed.{given_at_unit}
use Rattle.fleet_link.proofs.fleet_mail.FleetMail.least_at_unit.Goals as goal

pub returns-in_err-given-clause-value : goal.returns-in_err-given-clause-value
returns-in_err-given-clause-value c = λ units waits_at may_ask.
    rw c.from_residual-in_err-given.ensures
    (given_at_unit delivery c.args.self.now units waits_at may_ask c.in_ok-place.place c.mail_at.result.now None c.mail_at.ensures c.in_err-given.ensures.value
    ∙ ap (λ (p : Option PostPlace). given_at_place (fleet_scene_in c.args.self.now units waits_at may_ask) delivery p) c.in_ok-place.ensures.place)

pub returns-clause-value : goal.returns-clause-value
returns-clause-value c = λ units waits_at may_ask.
    given_at_unit delivery c.args.self.now units waits_at may_ask c.in_ok-place.place c.mail_at.result.now (Some c.in_ok-given.given) c.mail_at.ensures c.in_ok-given.ensures.value
    ∙ ap (λ (p : Option PostPlace). given_at_place (fleet_scene_in c.args.self.now units waits_at may_ask) delivery p) c.in_ok-place.ensures.place
