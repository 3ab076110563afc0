use Rattle.std.proofs.Common.{◌≡◌, ◌-◌, length, arith, refl, sym, subst, ◌∙◌}
use Rattle.target_fleet.specs.Merges.{IsUnitOf}
use Rattle.target_fleet.specs.SteppingOrders.{stepped_view}
use Rattle.target_fleet.proofs.MergedSteps.{TakenOf, above_of, all_taken, none_taken, one_taken, takes_off_length, unit_of}
use Rattle.target_fleet.proofs.SteppedSoFar.{all_taken_off, fewer_taken, none_taken_off, one_taken_off, taken_is_read}
use Rattle.target_fleet.proofs.merging.take_steps.Goals as goal

pub steps-init : goal.steps-init
steps-init c = record { same = refl; off = none_taken_off c.args.order.now; of = none_taken c.args.order.now c.args.traces.now c.args.lines.now.items }

pub take_newest-requires : goal.take_newest-requires
take_newest-requires c =
    let order = c.args.order.now in
    let stepped = stepped_view c.in-Some.stepped in
    let read = taken_is_read order c.steps.order c.pop.new.self c.steps.counter stepped c.steps.invariant.off c.in-Some.ensures.newest in
    subst (λ units. IsUnitOf units stepped) (sym c.steps.invariant.same) (unit_of (length c.args.traces.now) order (length order - 1 - c.steps.counter) stepped c.requires read)

pub steps-preserved : goal.steps-preserved
steps-preserved c =
    let order = c.args.order.now in
    let stepped = stepped_view c.in-Some.stepped in
    let newest = c.in-Some.ensures.newest in
    let off = c.steps.invariant.off in
    let read = taken_is_read order c.steps.order c.pop.new.self c.steps.counter stepped off newest in
    record {
      same = takes_off_length stepped c.steps.traces c.take_newest.new.traces c.steps.lines.items c.take_newest.new.lines.items c.in_ok-take_newest.ensures ∙ c.steps.invariant.same;
      off = one_taken_off order c.steps.order c.pop.new.self c.steps.counter stepped off newest;
      of = one_taken order c.args.traces.now c.steps.traces c.steps.counter c.args.lines.now.items c.steps.lines.items c.steps.invariant.of
          (fewer_taken order c.steps.order c.pop.new.self c.steps.counter stepped off newest) c.take_newest.new.traces c.take_newest.new.lines.items
          stepped (above_of (length c.args.traces.now) stepped (unit_of (length c.args.traces.now) order (length order - 1 - c.steps.counter) stepped c.requires read)) read c.in_ok-take_newest.ensures;
    }

pub returns-in_default : goal.returns-in_default
returns-in_default c =
    all_taken c.args.order.now c.args.traces.now c.steps.traces c.args.lines.now.items c.steps.lines.items
    (subst (λ taken. TakenOf c.args.order.now c.args.traces.now c.steps.traces taken c.args.lines.now.items c.steps.lines.items)
    (all_taken_off c.args.order.now c.steps.order c.steps.counter c.steps.invariant.off c.in_default.ensures.none) c.steps.invariant.of)

pub returns : goal.returns
returns c =
    all_taken c.args.order.now c.args.traces.now c.steps.traces c.args.lines.now.items c.steps.lines.items
    (subst (λ taken. TakenOf c.args.order.now c.args.traces.now c.steps.traces taken c.args.lines.now.items c.steps.lines.items) (let all : c.steps.counter ≡ length c.args.order.now = omega (arith, c.steps-test.false, c.steps.auto.counter-end, c.len-end.ensures) in all) c.steps.invariant.of)
