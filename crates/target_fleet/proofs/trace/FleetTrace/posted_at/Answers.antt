use Rattle.std.proofs.Common.{◌≡◌, ◌-◌, ◌<◌, ◌≤◌, List, length, ap, arith, subst, ◌∙◌}
use Rattle.std.proofs.lemmas.Option.{get_or_from_slice_get}
use Rattle.exchange_trace.specs.Posts.{posted_in}
use Rattle.exchange_trace.specs.Steps.{steps_of}
use Rattle.fleet_trace.specs.FleetTraces.{StepOfFleet}
use Rattle.target_fleet.specs.FleetTexts.{posted_at}
use Rattle.target_fleet.proofs.FirstBoots.{there_is}
use Rattle.target_fleet.proofs.KeptSteps.{no_posts, posts_of_trace}
use Rattle.target_fleet.proofs.trace.FleetTrace.posted_at.Goals as goal
use Rattle.target_fleet.proofs.trace.FleetTrace.posted_at.Goals.{then-unit-eq0-via-then-unit-eq0, then-unit-eq0-via-else-unit-eq0+then-unit-len}

pub returns-then-unit-eq0 : goal.returns-then-unit-eq0
returns-then-unit-eq0 c =
    subst (λ (steps : List StepOfFleet). 0 ≡ posted_at c.args.unit steps) c.self.view_is
    (no_posts c.self.inside.order c.self.inside.units.items c.self.invariant.0 c.args.unit
    (λ within. elim c.then-unit-eq0.branch [ then-unit-eq0-via-then-unit-eq0 w ↦ omega (arith, w.if-unit-eq0.true, within.0) | then-unit-eq0-via-else-unit-eq0+then-unit-len w ↦ omega (arith, w.if-unit-len.true, w.len.ensures, within.1) ]))

pub bounds-self-inside-unit : goal.bounds-self-inside-unit
bounds-self-inside-unit c = omega (arith, c.if-unit-eq0.false, c.if-unit-len.false, c.len.ensures, c.self.invariant.1.few)

pub offset_bounds-self-inside-unit : goal.offset_bounds-self-inside-unit
offset_bounds-self-inside-unit c = omega (arith, c.if-unit-eq0.false, c.if-unit-len.false, c.len.ensures, c.self.invariant.1.few)

pub returns : goal.returns
returns c =
    let units = c.self.inside.units.items in
    let above : 1 ≤ c.args.unit = omega (arith, c.if-unit-eq0.false) in
    let within : c.args.unit - 1 < length units = omega (arith, c.if-unit-len.false, c.len.ensures, above) in
    let trace = there_is units (c.args.unit - 1) within in
    let counted = c.self.invariant.1.counted (c.args.unit - 1) trace.0 trace.1 in
    get_or_from_slice_get c.self.inside.posted (c.args.unit - 1) (length (posted_in (steps_of trace.0.items))) 0 counted
    ∙ (posts_of_trace c.self.inside.order units c.self.invariant.0 c.args.unit trace.0 above trace.1 ∙ ap (posted_at c.args.unit) c.self.view_is)
