use Rattle.std.proofs.Common.{◌≤◌, sym, subst}
use Rattle.exchange_trace.specs.Happenings.{datagram_view}
use Rattle.fleet_link.specs.FleetLinks.{FleetLinkState}
use Rattle.fleet_link.proofs.FleetUnits.{posts_stay}
use Rattle.fleet_link.proofs.fleet_link.FleetLink.note_post.Goals as goal

pub invariant_of-self : goal.invariant_of-self
invariant_of-self c =
    let unit = c.args.unit in
    let within : (1 ≤ unit) × (unit ≤ c.self.inside.units) = subst (λ (s : FleetLinkState). (1 ≤ unit) × (unit ≤ s.units)) (sym c.self.view_is) c.requires in
    record {
      few = c.self.invariant.few;
      posts = posts_stay c.note_post.result c.self.inside.units unit (datagram_view c.args.datagram.now) c.self.inside.mail c.note_post.new.self within c.self.invariant.posts c.note_post.ensures.ok c.note_post.ensures.err;
      within = c.self.invariant.within;
      each = c.self.invariant.each;
    }
