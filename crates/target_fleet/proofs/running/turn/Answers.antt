use Rattle.std.proofs.Common.{◌≤◌, inl, inr, refl, ap, subst, sym, ◌∙◌}
use Rattle.exchange_trace.specs.Happenings.{happening_view}
use Rattle.fleet_link.specs.FleetLinks.{FleetLinkState}
use Rattle.media_check.specs.Sets.{set_view}
use Rattle.target_fleet.proofs.FinishTurns.{many_now, may_now, told_now, waits_now}
use Rattle.target_fleet.proofs.TakenTurns.{unit_goes_on, unit_leaves, unit_ready}
use Rattle.target_fleet.proofs.TurnsLeave.{anyway, can_step}
use Rattle.target_fleet.proofs.running.turn.Goals as goal

pub step_unit-requires-clause-unit : goal.step_unit-requires-clause-unit
step_unit-requires-clause-unit g c =
    let drivers = c.args.units.now.drivers in
    let gives = c.in-Some.ensures.some (waits_now drivers) (may_now (set_view c.args.media.now) c.args.units.now) (many_now drivers c.args.link.now.units c.requires.ready.drivers) in
    (gives.unit.0, subst (λ units. c.in-Some.unit ≤ units) (sym gives.units) gives.unit.1)

pub step_unit-requires-clause-drivers : goal.step_unit-requires-clause-drivers
step_unit-requires-clause-drivers g c =
    let drivers = c.args.units.now.drivers in
    let gives = c.in-Some.ensures.some (waits_now drivers) (may_now (set_view c.args.media.now) c.args.units.now) (many_now drivers c.args.link.now.units c.requires.ready.drivers) in
    subst (λ units. c.in-Some.unit ≤ units) (sym c.requires.ready.drivers) gives.unit.1

pub step_unit-requires-clause-can : goal.step_unit-requires-clause-can
step_unit-requires-clause-can g c = λ d k e f.
    let drivers = c.args.units.now.drivers in
    let gives = c.in-Some.ensures.some (waits_now drivers) (may_now (set_view c.args.media.now) c.args.units.now) (many_now drivers c.args.link.now.units c.requires.ready.drivers) in
    can_step g.K.Disk.state c.args.link.now c.args.units.now c.args.disks.now c.requires.ready c.in-Some.unit gives.unit.0 (happening_view c.in-Some.happening) gives.can d k e f

pub returns-in_err-step_unit-in-Some-clause-as_many : goal.returns-in_err-step_unit-in-Some-clause-as_many
returns-in_err-step_unit-in-Some-clause-as_many g c =
    let drivers = c.args.units.now.drivers in
    let gives = c.in-Some.ensures.some (waits_now drivers) (may_now (set_view c.args.media.now) c.args.units.now) (many_now drivers c.args.link.now.units c.requires.ready.drivers) in
    record {
      units = elim c.in_err-step_unit-in-Some.ensures.left [
        | inl left ↦ ap (λ (l : FleetLinkState). l.units) left.0 ∙ gives.units
        | inr left ↦ ap (λ (l : FleetLinkState). l.units) left.part.linked ∙ gives.units
      ];
      disks = c.step_unit.ensures.same;
    }

pub returns-in_err-step_unit-in-Some-clause-leaves : goal.returns-in_err-step_unit-in-Some-clause-leaves
returns-in_err-step_unit-in-Some-clause-leaves g c = λ rule began first on.
    let drivers = c.args.units.now.drivers in
    let waits = waits_now drivers in
    let may = may_now (set_view c.args.media.now) c.args.units.now in
    let gives = c.in-Some.ensures.some waits may (many_now drivers c.args.link.now.units c.requires.ready.drivers) in
    anyway c.from_residual.result _ (unit_leaves g.K.Disk.state g.R.Rule.may_say rule (set_view c.args.media.now) g.met.K.Disk.wider g.met.K.Disk.splits g.met.K.Disk.only_now began c.args.link.now c.next_of_finish.new.self c.args.units.now first c.args.disks.now on c.requires.ready waits may c.step_unit.new.link c.step_unit.new.disks c.in-Some.unit (happening_view c.in-Some.happening) gives c.in_err-step_unit-in-Some.ensures.left)

pub returns-in_ok-step_unit-in-Some-clause-ready : goal.returns-in_ok-step_unit-in-Some-clause-ready
returns-in_ok-step_unit-in-Some-clause-ready g c =
    let drivers = c.args.units.now.drivers in
    let waits = waits_now drivers in
    let may = may_now (set_view c.args.media.now) c.args.units.now in
    let gives = c.in-Some.ensures.some waits may (many_now drivers c.args.link.now.units c.requires.ready.drivers) in
    unit_ready g.K.Disk.state g.R.Rule.may_say (set_view c.args.media.now) c.args.link.now c.next_of_finish.new.self c.args.units.now c.step_unit.new.units c.args.disks.now c.step_unit.new.disks c.requires.ready c.requires.batches waits may c.step_unit.new.link c.in-Some.unit (happening_view c.in-Some.happening) gives c.in_ok-step_unit-in-Some.ensures.steps

pub returns-in_ok-step_unit-in-Some-clause-goes_on : goal.returns-in_ok-step_unit-in-Some-clause-goes_on
returns-in_ok-step_unit-in-Some-clause-goes_on g c = λ rule began first on.
    let drivers = c.args.units.now.drivers in
    let waits = waits_now drivers in
    let may = may_now (set_view c.args.media.now) c.args.units.now in
    let many = many_now drivers c.args.link.now.units c.requires.ready.drivers in
    let gives = c.in-Some.ensures.some waits may many in
    unit_goes_on g.K.Disk.state g.R.Rule.may_say (set_view c.args.media.now) c.args.link.now c.next_of_finish.new.self c.args.units.now c.step_unit.new.units c.args.disks.now c.step_unit.new.disks c.requires.ready c.requires.batches waits may c.step_unit.new.link c.in-Some.unit (happening_view c.in-Some.happening) gives c.in_ok-step_unit-in-Some.ensures.steps
    rule began first on many (told_now drivers) refl

pub returns-in_ok-step_unit-in-Some-clause-as_many : goal.returns-in_ok-step_unit-in-Some-clause-as_many
returns-in_ok-step_unit-in-Some-clause-as_many g c =
    let drivers = c.args.units.now.drivers in
    let gives = c.in-Some.ensures.some (waits_now drivers) (may_now (set_view c.args.media.now) c.args.units.now) (many_now drivers c.args.link.now.units c.requires.ready.drivers) in
    record { units = ap (λ (l : FleetLinkState). l.units) c.in_ok-step_unit-in-Some.ensures.steps.linked ∙ gives.units; disks = c.step_unit.ensures.same }
