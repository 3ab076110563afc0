use Rattle.std.proofs.Common.{◌≡◌, ◌++◌, ◌∷◌, [], ap, ◌∙◌}
use Rattle.std.proofs.lemmas.List.{map-append}
use Rattle.exchange_trace.specs.Happenings.{datagram_view}
use Rattle.fleet_trace.specs.FleetPosts.{unit_post}
use Rattle.fleet_link.specs.FleetMail.{posted_at_units}
use Rattle.fleet_link.specs.declared.fleet_mail.Place.{Place}
use Rattle.fleet_link.proofs.FleetMails.{keeps_fleet_posted}
use Rattle.fleet_link.proofs.fleet_mail.FleetMail.note_post.Goals as goal

pub invariant_of-self-2 : goal.invariant_of-self-2
invariant_of-self-2 c =
    let before = c.self.inside in
    let place : Place = record { unit = c.args.unit; number = c.in_ok-number.number } in
    let logged : posted_at_units c.and-log.result.items ≡ posted_at_units before.posted.items ++ unit_post c.args.unit (datagram_view c.args.datagram.now) ∷ [] = ap posted_at_units c.and-log.ensures ∙ map-append (λ entry. unit_post entry.1 (datagram_view entry.0)) before.posted.items _ in
    let pushed : c.push_reserved.new.self.items ≡ before.places.items ++ place ∷ [] = cc in
    rw (logged, pushed) (keeps_fleet_posted before.mails c.note_post_at.new.mails before.places.items before.least _ c.self.invariant place (datagram_view c.args.datagram.now) c.requires.0 c.in_ok-number.ensures.ok)
