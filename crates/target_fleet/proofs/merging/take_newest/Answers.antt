use Rattle.std.proofs.Common.{◌≡◌, ◌-◌, ◌++◌, ◌≤◌, Some, append-nil, length, arith, refl, sym, ap, subst, ◌∙◌}
use Rattle.std.specs.Prelude.{slice_get, slice_index_or, slice_set}
use Rattle.std.proofs.lemmas.Option.{slice_get_read}
use Rattle.target_fleet.specs.Merges.{IsUnitOf, TakesOff, asked_lines}
use Rattle.target_fleet.specs.SteppingOrders.{stepped_view}
use Rattle.target_fleet.proofs.merging.take_newest.Goals as goal

pub returns-else-asked : goal.returns-else-asked
returns-else-asked c =
    let traces = c.args.traces.now in
    let index = c.in-Unit.unit - 1 in
    let is_unit : (1 ≤ c.in-Unit.unit) × (c.in-Unit.unit ≤ length traces) = subst (λ stepped. IsUnitOf (length traces) (stepped_view stepped)) c.in-Unit.is c.requires in
    let there = slice_get_read traces (length traces) index c.index-traces-unit.result refl (omega (arith, is_unit.0, is_unit.1)) c.index-traces-unit.is in
    subst (λ stepped. TakesOff (stepped_view stepped) traces (slice_set traces index c.take_step.new.trace) c.args.lines.now.items c.take_step.new.lines.items) (sym c.in-Unit.is)
    (record {
      trace = slice_index_or traces index c.index-traces-unit.result;
      trace_then = c.take_step.new.trace;
      changes = record { there = subst (λ trace. slice_get traces index ≡ Some trace) c.index-traces-unit.is there; kept = refl };
      mid = c.take_step.new.lines.items;
      takes = c.in_ok-take_step-in-Unit.ensures;
      lines_are = sym (ap (λ asked. c.take_step.new.lines.items ++ asked_lines asked) c.if-asked.false ∙ append-nil c.take_step.new.lines.items);
    })
