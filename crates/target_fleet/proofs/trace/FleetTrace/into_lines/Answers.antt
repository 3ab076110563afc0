use Rattle.std.proofs.Common.{◌≡◌, subst, ◌∙◌}
use Rattle.std.proofs.lemmas.Result.{IfOk-weaker}
use Rattle.fleet_trace.specs.FleetTraces.{fleet_steps_of}
use Rattle.target_fleet.specs.Merges.{MergesAll}
use Rattle.target_fleet.specs.Orders.{IsFleetInOrder}
use Rattle.target_fleet.proofs.KeptSteps.{lines_kept}
use Rattle.target_fleet.proofs.trace.FleetTrace.into_lines.Goals as goal

pub returns-clause-steps : goal.returns-clause-steps
returns-clause-steps c =
    IfOk-weaker c.merge-lines.result (λ lines. MergesAll c.self.inside.order c.deref_mut.result.now lines.items) (λ lines. fleet_steps_of lines.items ≡ c.args.self)
    (λ lines merges. (lines_kept c.self.inside.order c.self.inside.units.items c.self.invariant.0 lines.items (subst (λ traces. MergesAll c.self.inside.order traces lines.items) c.deref_mut.ensures.value merges)).0 ∙ c.self.view_is)
    c.merge-lines.ensures

pub returns-clause-ordered : goal.returns-clause-ordered
returns-clause-ordered c =
    IfOk-weaker c.merge-lines.result (λ lines. MergesAll c.self.inside.order c.deref_mut.result.now lines.items) (λ lines. IsFleetInOrder lines.items)
    (λ lines merges. (lines_kept c.self.inside.order c.self.inside.units.items c.self.invariant.0 lines.items (subst (λ traces. MergesAll c.self.inside.order traces lines.items) c.deref_mut.ensures.value merges)).1)
    c.merge-lines.ensures
