use Rattle.std.proofs.Common.{◌≡◌, ap, option_map, subst, ◌∙◌}
use Rattle.std.specs.Prelude.{List, slice_get}
use Rattle.fleet_trace.specs.FleetFollowing.{first_place}
use Rattle.fleet_trace.specs.FleetPosts.{undelivered_places}
use Rattle.fleet_link.specs.declared.fleet_mail.Place.{Place}
use Rattle.fleet_link.specs.FleetMail.{FleetMailView, place_view}
use Rattle.fleet_link.proofs.Placed.{least_is_first, stands_at_unit}
use Rattle.fleet_link.proofs.fleet_mail.FleetMail.least_place.Goals as goal

pub returns-clause-place : goal.returns-clause-place
returns-clause-place c =
    let kept = c.self.inside.places.items in
    let read : c.place_at.result ≡ slice_get kept c.self.inside.least = c.place_at.ensures ∙ ap (λ (places : List Place). slice_get places c.self.inside.least) c.as_slice.ensures.value in
    subst (λ (mail : FleetMailView). option_map place_view c.place_at.result ≡ first_place (undelivered_places mail.posted mail.given)) c.self.view_is
    (ap (option_map place_view) read ∙ least_is_first c.self.inside.mails kept c.self.inside.least _ c.self.invariant)

pub returns-clause-unit : goal.returns-clause-unit
returns-clause-unit c =
    let kept = c.self.inside.places.items in
    let read : c.place_at.result ≡ slice_get kept c.self.inside.least = c.place_at.ensures ∙ ap (λ (places : List Place). slice_get places c.self.inside.least) c.as_slice.ensures.value in
    stands_at_unit c.self.inside.mails kept c.self.inside.least _ c.self.invariant c.self.inside.least c.place_at.result c.self.invariant.units read
