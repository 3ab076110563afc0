use Rattle.std.proofs.Common.{◌≡◌, Some, ap, ◌∙◌}
use Rattle.std.specs.Prelude.{Option}
use Rattle.exchange_trace.specs.Following.{loss}
use Rattle.fleet_trace.specs.FleetFollowing.{given_at_place}
use Rattle.fleet_trace.specs.FleetPosts.{PostPlace, located}
use Rattle.fleet_link.specs.FleetMail.{fleet_scene_in, place_view}
use Rattle.fleet_link.proofs.Placed.{given_there, named_there}
use Rattle.fleet_link.proofs.fleet_mail.FleetMail.loss.Goals as goal

pub returns-clause-value : goal.returns-clause-value
returns-clause-value c = λ units waits_at may_ask.
    let place = c.in_ok-place.place in
    let at : Some (place_view place) ≡ located c.args.self.now.posted c.args.number = c.in_ok-place.ensures.place in
    given_there loss c.args.self.now units waits_at may_ask place c.mail_at.result.now c.loss.result c.at_unit.result c.mail_at.ensures c.loss.ensures.value c.at_unit.ensures
    ∙ ap (λ (p : Option PostPlace). given_at_place (fleet_scene_in c.args.self.now units waits_at may_ask) loss p) at

pub returns-clause-named : goal.returns-clause-named
returns-clause-named c = named_there c.args.self.now c.in_ok-place.place.unit c.mail_at.result.now c.loss.result c.at_unit.result c.in_ok-place.ensures.unit c.mail_at.ensures c.loss.ensures.named c.at_unit.ensures
