use Rattle.std.proofs.Common.{◌≡◌, ◌≤◌, ◌∷◌, [], length, map, Some, reverse, ap, sym, subst, ◌∙◌}
use Rattle.std.specs.Prelude.{List, slice_get}
use Rattle.std.proofs.lemmas.List.{map-append, reverse-append}
use Rattle.exchange_trace.specs.Happenings.{happening_view}
use Rattle.fleet_trace.specs.FleetPosts.{posts_of_unit}
use Rattle.fleet_trace.specs.FleetTraces.{At_unit}
use Rattle.link_net.specs.Mail.{NamesPosted}
use Rattle.fleet_link.specs.declared.fleet_mail.Place.{Place}
use Rattle.fleet_link.specs.FleetMail.{FleetMailView, given_at_units}
use Rattle.fleet_link.proofs.FleetMails.{keeps_fleet_given, stays_placed}
use Rattle.fleet_link.proofs.fleet_mail.FleetMail.note_given.Goals as goal

pub next_undelivered-self-inside-requires-clause-placed : goal.next_undelivered-self-inside-requires-clause-placed
next_undelivered-self-inside-requires-clause-placed c = λ k place e.
    let before = c.self.inside in
    stays_placed before.mails c.note_given_at.new.mails before.places.items before.least _ c.self.invariant c.args.unit (happening_view c.args.given.now) c.requires.0.0 c.note_given_at.ensures place
    (c.self.invariant.placed k place (subst (λ (places : List Place). slice_get places k ≡ Some place) c.as_slice.ensures.value e))

pub invariant_of-self : goal.invariant_of-self
invariant_of-self c =
    let before = c.self.inside in
    let h = happening_view c.args.given.now in
    let found = c.next_undelivered-self-inside.ensures in
    let value = c.as_slice.ensures.value in
    let given : given_at_units c.and-self-inside.result.items ≡ At_unit c.args.unit h ∷ given_at_units before.given.items =
    ap given_at_units c.and-self-inside.ensures
    ∙ (ap reverse (map-append (λ entry. At_unit entry.1 (happening_view entry.0)) before.given.items ((c.args.given.now, c.args.unit) ∷ []))
    ∙ reverse-append (map (λ entry. At_unit entry.1 (happening_view entry.0)) before.given.items) (At_unit c.args.unit h ∷ [])) in
    rw given
    (keeps_fleet_given before.mails c.note_given_at.new.mails before.places.items before.least _ c.self.invariant c.args.unit h c.requires.0.0 c.note_given_at.ensures c.next_undelivered-self-inside.result
    (subst (λ (mail : FleetMailView). NamesPosted (length (posts_of_unit c.args.unit mail.posted)) h) (sym c.self.view_is) c.requires.1)
    (subst (λ (places : List Place). c.next_undelivered-self-inside.result ≤ length places) value found.within)
    (λ k p from lt e. found.passed k p from lt (subst (λ (places : List Place). slice_get places k ≡ Some p) (sym value) e))
    (λ p e. found.found p (subst (λ (places : List Place). slice_get places c.next_undelivered-self-inside.result ≡ Some p) (sym value) e)))
