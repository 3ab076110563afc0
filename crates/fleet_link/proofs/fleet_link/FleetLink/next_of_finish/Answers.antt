use Rattle.std.proofs.Common.{length, ap, sym, subst, ◌∙◌}
use Rattle.exchange_trace.specs.Happenings.{happening_view}
use Rattle.fleet_trace.specs.FleetTraces.{At_unit}
use Rattle.fleet_link.specs.FleetLinks.{FleetLinkState, GivesInFleet}
use Rattle.fleet_link.specs.FleetPlans.{waits_in}
use Rattle.fleet_link.specs.Lines.{fleet_line_view}
use Rattle.fleet_link.proofs.FleetUnits.{left_at_units}
use Rattle.fleet_link.proofs.FleetGives.{finish_gives, link_with}
use Rattle.fleet_link.proofs.fleet_link.FleetLink.next_of_finish.Goals as goal

pub returns-in_ok-unit-in-Finishing-clause-some : goal.returns-in_ok-unit-in-Finishing-clause-some
returns-in_ok-unit-in-Finishing-clause-some c = λ waits may_ask count.
    let link = c.self.inside in
    let lines = link.lines.items in
    let found = c.in_ok-unit-in-Finishing in
    subst (λ (s : FleetLinkState). GivesInFleet s (link_with link.units lines c.note_given.new.self link.rest link.next) waits may_ask (At_unit found.unit (happening_view found.given))) c.self.view_is
    (finish_gives link.units lines link.mail c.note_given.new.self link.rest link.next found.unit found.given waits may_ask (count ∙ ap (λ (s : FleetLinkState). s.units) (sym c.self.view_is)) c.self.invariant.posts (left_at_units link.units fleet_line_view link.next lines c.self.invariant.each) c.in-Finishing.is (found.ensures.value (length waits) (waits_in waits) may_ask) c.note_given.ensures)
