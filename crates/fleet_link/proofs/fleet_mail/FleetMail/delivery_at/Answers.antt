use Rattle.std.proofs.Common.{option_map, sym, ap, ◌∙◌}
use Rattle.std.specs.Prelude.{Option}
use Rattle.exchange_trace.specs.Following.{delivery}
use Rattle.fleet_trace.specs.FleetFollowing.{given_at_place}
use Rattle.fleet_trace.specs.FleetPosts.{PostPlace}
use Rattle.fleet_link.specs.FleetMail.{fleet_scene_in, place_view}
use Rattle.fleet_link.proofs.Placed.{given_there, named_there}
use Rattle.fleet_link.proofs.fleet_mail.FleetMail.delivery_at.Goals as goal

pub returns-clause-value : goal.returns-clause-value
returns-clause-value c = λ units waits_at may_ask.
    given_there delivery c.args.self.now units waits_at may_ask c.in_ok-place.place c.mail_at.result.now c.delivery.result c.at_unit.result c.mail_at.ensures c.delivery.ensures.value c.at_unit.ensures
    ∙ ap (λ (p : Option PostPlace). given_at_place (fleet_scene_in c.args.self.now units waits_at may_ask) delivery p) (sym (ap (option_map place_view) c.in_ok-place.was))

pub returns-clause-named : goal.returns-clause-named
returns-clause-named c = named_there c.args.self.now c.in_ok-place.place.unit c.mail_at.result.now c.delivery.result c.at_unit.result (rw c.in_ok-place.was at c.requires) c.mail_at.ensures c.delivery.ensures.named c.at_unit.ensures
