use Rattle.std.proofs.Common.{◌≡◌, ap, ◌∙◌}
use Rattle.std.specs.Prelude.{List, slice_get}
use Rattle.fleet_link.specs.declared.fleet_mail.Place.{Place}
use Rattle.fleet_link.proofs.Placed.{stands_at_unit}
use Rattle.fleet_link.proofs.fleet_mail.FleetMail.place_of.Goals as goal

pub returns-clause-unit : goal.returns-clause-unit
returns-clause-unit c =
    let kept = c.self.inside.places.items in
    let read : c.place_at.result ≡ slice_get kept c.in_ok-index.index = c.place_at.ensures ∙ ap (λ (places : List Place). slice_get places c.in_ok-index.index) c.as_slice.ensures.value in
    stands_at_unit c.self.inside.mails kept c.self.inside.least _ c.self.invariant c.in_ok-index.index c.place_at.result c.self.invariant.units read
