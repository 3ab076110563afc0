use Rattle.std.proofs.Common.{◌≡◌, ◌-◌, ◌<◌, Some, length, arith, sym, ap, subst, ◌∙◌}
use Rattle.std.specs.Prelude.{option_map, slice_get}
use Rattle.std.proofs.lemmas.Option.{slice_get-get_or}
use Rattle.exchange_trace.specs.Happenings.{HappeningView, happening_view}
use Rattle.loader_machine.specs.Machine.{all_sessions}
use Rattle.target_fleet.specs.AskedTurns.{AsksUnit, asked_more}
use Rattle.target_fleet.specs.Runs.{FleetState}
use Rattle.upload_replay.specs.DriverSteps.{CanStep}
use Rattle.target_fleet.proofs.BatchTurns.{asks_of}
use Rattle.target_fleet.proofs.Indexed.{same_there}
use Rattle.target_fleet.proofs.running.ask.Goals as goal

pub step_unit-requires-clause-can : goal.step_unit-requires-clause-can
step_unit-requires-clause-can g c = λ d k e f.
    subst (λ (h : HappeningView). CanStep {R = g.row.R.Denot} h d (g.K.Disk.state k)) (sym c.in_ok-start.ensures) (c.requires.can d k e f)

pub returns-clause-asked : goal.returns-clause-asked
returns-clause-asked g c =
    let told = c.in_ok-step_unit.ensures.steps in
    let after = ap (λ units. units.drivers) c.units-2.view_is in
    let was = ap (λ units. units.drivers) c.units.view_is in
    let within : c.args.unit - 1 < length c.units.inside.drivers.items = let many = ap length was in omega (arith, c.requires.unit.0, c.requires.drivers, many) in
    let read : slice_get c.units.inside.drivers.items (c.args.unit - 1) ≡ Some c.index.result.now = slice_get-get_or c.units.inside.drivers.items (c.args.unit - 1) c.index.result.now within ∙ ap Some (sym c.index.ensures) in
    let driver : c.index.result.now ≡ told.step.before = same_there c.args.units.now.drivers (c.args.unit - 1) c.index.result.now told.step.before (subst (λ list. slice_get list (c.args.unit - 1) ≡ Some c.index.result.now) was read) told.step.unit.there in
    let sessions : c.session_count-session.result ≡ length (all_sessions told.step.before.loader.view) = c.session_count-session.ensures ∙ ap (λ d. length (all_sessions d.loader.view)) driver in
    let now : FleetState g.row.R.Denot = record { drivers = c.units-2.inside.drivers.items; order = c.units-2.inside.order; running = c.ask.new.self.running; ended = c.ask.new.self.ended.items } in
    subst (λ (h : HappeningView). AsksUnit g.K.Disk.state g.R.Rule.may_say c.args.unit h c.args.units.now now c.args.link.now c.step_unit.new.link c.args.disks.now c.step_unit.new.disks) c.in_ok-start.ensures
    (asks_of g.K.Disk.state g.R.Rule.may_say c.args.unit (happening_view c.in_ok-start.start) c.args.units.now c.step_unit.new.units now c.args.link.now c.started.new.self c.step_unit.new.link c.args.disks.now c.step_unit.new.disks c.session_count-session.result
    told c.started.ensures after (ap (λ units. units.order) c.units-2.view_is) (c.ask.ensures.running ∙ ap (λ units. option_map (asked_more (c.args.unit - 1) c.session_count-session.result) units.running) c.units-2.view_is)
    (ap (λ list. list.items) c.ask.ensures.ended ∙ ap (λ units. units.ended) c.units-2.view_is) sessions)
