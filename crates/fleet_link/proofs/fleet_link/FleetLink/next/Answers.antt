use Rattle.std.proofs.Common.{ap, sym, subst, ◌∙◌}
use Rattle.fleet_trace.specs.FleetTraces.{fleet_happening_view}
use Rattle.fleet_link.specs.FleetLinks.{FleetLinkState, GivesInFleet}
use Rattle.fleet_link.specs.Lines.{fleet_line_view}
use Rattle.fleet_link.proofs.FleetUnits.{left_at_units}
use Rattle.fleet_link.proofs.FleetGives.{gives_in_fleet, link_with}
use Rattle.fleet_link.proofs.fleet_link.FleetLink.next.Goals as goal

pub returns-clause-ok : goal.returns-clause-ok
returns-clause-ok c =
    let link = c.self.inside in
    let lines = link.lines.items in
    let said = rw c.as_slice-lines.ensures at c.in-Ok.ensures.turn in
    subst (λ (s : FleetLinkState). GivesInFleet s (link_with link.units lines c.keep.new.mail c.in-Ok.turn.rest c.in-Ok.next) c.args.waits.now c.args.may_ask (fleet_happening_view c.in-Ok.turn.given)) c.self.view_is
    (gives_in_fleet link.units lines link.mail c.keep.new.mail link.rest link.next c.in-Ok.next c.in-Ok.turn c.args.waits.now c.args.may_ask (c.requires ∙ ap (λ (s : FleetLinkState). s.units) (sym c.self.view_is)) c.self.invariant.posts (left_at_units link.units fleet_line_view link.next lines c.self.invariant.each) said c.keep.ensures)
