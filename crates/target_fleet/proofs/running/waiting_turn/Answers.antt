use Rattle.std.proofs.Common.{◌+◌, ◌<◌, ◌≤◌, List, IfSome, length, take, sym, ap, subst, ◌∙◌, arith}
use Rattle.std.specs.Prelude.{is_some, option_map}
use Rattle.std.proofs.lemmas.List.{length-take-le}
use Rattle.exchange_trace.specs.Happenings.{happening_view}
use Rattle.fleet_link.specs.FleetLinks.{GivesInFleet}
use Rattle.fleet_trace.specs.FleetTraces.{fleet_happening_view}
use Rattle.media_check.specs.Sets.{set_view}
use Rattle.upload_replay.specs.Drivers.{DriverState}
use Rattle.target_fleet.specs.Asking.{next_of_running}
use Rattle.target_fleet.specs.AskingCalls.{places_in, running_view, sessions_in, upload_at}
use Rattle.target_fleet.specs.AskedTurns.{upload_of}
use Rattle.target_fleet.specs.Leaves.{AllLeave}
use Rattle.target_fleet.specs.Waits.{TellWaits}
use Rattle.target_fleet.proofs.BatchTurns.{batch_in_order, begun_is, mapped_is_some}
use Rattle.target_fleet.proofs.FleetTurns.{batch_begins, ends_here, ready_still, told_of_taken}
use Rattle.target_fleet.proofs.TakenTurns.{asked_goes_on, asked_leaves, asked_ready, unit_goes_on, unit_leaves, unit_ready}
use Rattle.target_fleet.proofs.TurnsLeave.{all_leave_given, all_leave_now, anyway, can_step}
use Rattle.target_fleet.proofs.running.waiting_turn.Goals as goal

pub step_unit-requires-clause-can : goal.step_unit-requires-clause-can
step_unit-requires-clause-can g c = λ d k e f.
    let gives = subst (λ happening. GivesInFleet c.args.link.now c.next.new.self (take c.len.result c.waits_of-waits.result) c.is_some.result (fleet_happening_view happening)) c.in-Ok-At.field-0-is c.in-Ok-At.ensures.ok in
    can_step g.K.Disk.state c.args.link.now c.args.units.now c.args.disks.now c.requires.ready c.in-Ok-At.unit gives.unit.0 (happening_view c.in-Ok-At.happening) gives.can d k e f

pub returns-in_err-step_unit-in-Ok-At-clause-leaves : goal.returns-in_err-step_unit-in-Ok-At-clause-leaves
returns-in_err-step_unit-in-Ok-At-clause-leaves g c = λ rule began first on.
    let gives = subst (λ happening. GivesInFleet c.args.link.now c.next.new.self (take c.len.result c.waits_of-waits.result) c.is_some.result (fleet_happening_view happening)) c.in-Ok-At.field-0-is c.in-Ok-At.ensures.ok in
    anyway c.from_residual.result _ (unit_leaves g.K.Disk.state g.R.Rule.may_say rule (set_view c.args.media.now) g.met.K.Disk.wider g.met.K.Disk.splits g.met.K.Disk.only_now began c.args.link.now c.next.new.self c.args.units.now first c.args.disks.now on c.requires.ready (take c.len.result c.waits_of-waits.result) c.is_some.result c.step_unit.new.link c.step_unit.new.disks c.in-Ok-At.unit (happening_view c.in-Ok-At.happening) gives c.in_err-step_unit-in-Ok-At.ensures.left)

pub ask-requires-clause-can : goal.ask-requires-clause-can
ask-requires-clause-can g c = λ d k e f.
    can_step g.K.Disk.state c.args.link.now c.args.units.now c.args.disks.now c.requires.ready (c.in-Some.index + 1) (let above : 1 ≤ c.in-Some.index + 1 = omega arith in above) (upload_of c.in-Some.target.now) tt d k e f

pub returns-in_err-ask-in-Some-clause-leaves : goal.returns-in_err-ask-in-Some-clause-leaves
returns-in_err-ask-in-Some-clause-leaves g c = λ rule began first on.
    let gives = subst (λ happening. GivesInFleet c.args.link.now c.next.new.self (take c.len.result c.waits_of-waits.result) c.is_some.result (fleet_happening_view happening)) c.in-Ok-AskNext.field-0-is c.in-Ok-AskNext.ensures.ok in
    anyway c.from_residual-in_err-ask-in-Some.result _ (asked_leaves g.K.Disk.state g.R.Rule.may_say rule (set_view c.args.media.now) g.met.K.Disk.wider g.met.K.Disk.splits g.met.K.Disk.only_now began c.args.link.now c.next.new.self c.args.units.now first c.args.disks.now on c.requires.ready (take c.len.result c.waits_of-waits.result) c.is_some.result c.ask.new.link c.ask.new.disks c.in-Some.index (upload_of c.in-Some.target.now) gives c.in_err-ask-in-Some.ensures.left)

pub returns-in_err-begin_batch-in-Some-begun-clause-leaves : goal.returns-in_err-begin_batch-in-Some-begun-clause-leaves
returns-in_err-begin_batch-in-Some-begun-clause-leaves g c = λ rule began first on.
    let gives = subst (λ happening. GivesInFleet c.args.link.now c.next.new.self (take c.len.result c.waits_of-waits.result) c.is_some.result happening) (begun_is (fleet_happening_view c.in-Ok.given) c.in-Some-begun.part (sym c.in-Some-begun.ensures)) c.in-Ok.ensures.ok in
    anyway c.from_residual-in_err-begin_batch-in-Some-begun.result _ (all_leave_given g.K.Disk.state g.R.Rule.may_say rule (set_view c.args.media.now) g.met.K.Disk.wider g.met.K.Disk.splits g.met.K.Disk.only_now began c.args.link.now c.args.units.now first c.args.disks.now on c.requires.ready c.next.new.self gives.posted gives.given)

pub returns-in_ok-step_unit-in-Ok-At-clause-ready : goal.returns-in_ok-step_unit-in-Ok-At-clause-ready
returns-in_ok-step_unit-in-Ok-At-clause-ready g c =
    let gives = subst (λ happening. GivesInFleet c.args.link.now c.next.new.self (take c.len.result c.waits_of-waits.result) c.is_some.result (fleet_happening_view happening)) c.in-Ok-At.field-0-is c.in-Ok-At.ensures.ok in
    unit_ready g.K.Disk.state g.R.Rule.may_say (set_view c.args.media.now) c.args.link.now c.next.new.self c.args.units.now c.step_unit.new.units c.args.disks.now c.step_unit.new.disks c.requires.ready c.requires.batches (take c.len.result c.waits_of-waits.result) c.is_some.result c.step_unit.new.link c.in-Ok-At.unit (happening_view c.in-Ok-At.happening) gives c.in_ok-step_unit-in-Ok-At.ensures.steps

pub returns-in_ok-step_unit-in-Ok-At-clause-goes_on : goal.returns-in_ok-step_unit-in-Ok-At-clause-goes_on
returns-in_ok-step_unit-in-Ok-At-clause-goes_on g c = λ rule began first on.
    let gives = subst (λ happening. GivesInFleet c.args.link.now c.next.new.self (take c.len.result c.waits_of-waits.result) c.is_some.result (fleet_happening_view happening)) c.in-Ok-At.field-0-is c.in-Ok-At.ensures.ok in
    let counted = sym c.deref.ensures.len ∙ ap length (c.deref.ensures.value ∙ ap (λ units. units.drivers) c.units.view_is) in
    let many = c.len.ensures ∙ (counted ∙ c.requires.ready.drivers) in
    let told = told_of_taken c.args.units.now.drivers c.waits_of-waits.result c.len.result (c.len.ensures ∙ counted) c.waits_of-waits.ensures.many (omega (arith, c.requires.few, many))
    (subst (λ drivers. TellWaits (length drivers) drivers c.waits_of-waits.result) (c.deref.ensures.value ∙ ap (λ units. units.drivers) c.units.view_is) c.waits_of-waits.ensures.told) in
    let length_is = length-take-le c.len.result c.waits_of-waits.result (omega (arith, c.waits_of-waits.ensures.many, c.requires.few, many)) ∙ many in
    let found_is = c.next_upload-next.ensures.next
    ∙ (ap (λ (ds : List (DriverState g.row.R.Denot)). next_of_running (set_view c.args.media.now) (places_in ds) (sessions_in ds) (option_map running_view c.units.inside.batches.running)) (c.deref-2.ensures.value ∙ ap (λ units. units.drivers) c.units.view_is)
    ∙ ap (λ running. next_of_running (set_view c.args.media.now) (places_in c.args.units.now.drivers) (sessions_in c.args.units.now.drivers) (option_map running_view running)) (ap (λ units. units.running) c.units.view_is)) in
    let may = c.is_some.ensures ∙ (sym (mapped_is_some (λ next. upload_at next.0 next.1.now) c.next_upload-next.result) ∙ ap (λ next. is_some next) found_is) in
    unit_goes_on g.K.Disk.state g.R.Rule.may_say (set_view c.args.media.now) c.args.link.now c.next.new.self c.args.units.now c.step_unit.new.units c.args.disks.now c.step_unit.new.disks c.requires.ready c.requires.batches (take c.len.result c.waits_of-waits.result) c.is_some.result c.step_unit.new.link c.in-Ok-At.unit (happening_view c.in-Ok-At.happening) gives c.in_ok-step_unit-in-Ok-At.ensures.steps
    rule began first on length_is told may

pub returns-in_ok-ask-in-Some-clause-ready : goal.returns-in_ok-ask-in-Some-clause-ready
returns-in_ok-ask-in-Some-clause-ready g c =
    let gives = subst (λ happening. GivesInFleet c.args.link.now c.next.new.self (take c.len.result c.waits_of-waits.result) c.is_some.result (fleet_happening_view happening)) c.in-Ok-AskNext.field-0-is c.in-Ok-AskNext.ensures.ok in
    let found_is = c.next_upload-next.ensures.next
    ∙ (ap (λ (ds : List (DriverState g.row.R.Denot)). next_of_running (set_view c.args.media.now) (places_in ds) (sessions_in ds) (option_map running_view c.units.inside.batches.running)) (c.deref-2.ensures.value ∙ ap (λ units. units.drivers) c.units.view_is)
    ∙ ap (λ running. next_of_running (set_view c.args.media.now) (places_in c.args.units.now.drivers) (sessions_in c.args.units.now.drivers) (option_map running_view running)) (ap (λ units. units.running) c.units.view_is)) in
    let next = sym found_is ∙ ap (option_map (λ next. upload_at next.0 next.1.now)) c.in-Some.is in
    let within = subst (λ (ds : List (DriverState g.row.R.Denot)). c.in-Some.index < length ds) (c.deref-2.ensures.value ∙ ap (λ units. units.drivers) c.units.view_is)
    (subst (λ next. IfSome next (λ x. x.0 < length c.deref-2.result.now)) c.in-Some.is c.next_upload-next.ensures.within) in
    asked_ready g.K.Disk.state g.R.Rule.may_say (set_view c.args.media.now) c.args.link.now c.next.new.self c.args.units.now c.ask.new.units c.args.disks.now c.ask.new.disks c.requires.ready c.requires.batches (take c.len.result c.waits_of-waits.result) c.is_some.result c.ask.new.link c.in-Some.index c.in-Some.target.now within next gives c.in_ok-ask-in-Some.ensures.asked

pub returns-in_ok-ask-in-Some-clause-goes_on : goal.returns-in_ok-ask-in-Some-clause-goes_on
returns-in_ok-ask-in-Some-clause-goes_on g c = λ rule began first on.
    let gives = subst (λ happening. GivesInFleet c.args.link.now c.next.new.self (take c.len.result c.waits_of-waits.result) c.is_some.result (fleet_happening_view happening)) c.in-Ok-AskNext.field-0-is c.in-Ok-AskNext.ensures.ok in
    let counted = sym c.deref.ensures.len ∙ ap length (c.deref.ensures.value ∙ ap (λ units. units.drivers) c.units.view_is) in
    let many = c.len.ensures ∙ (counted ∙ c.requires.ready.drivers) in
    let told = told_of_taken c.args.units.now.drivers c.waits_of-waits.result c.len.result (c.len.ensures ∙ counted) c.waits_of-waits.ensures.many (omega (arith, c.requires.few, many))
    (subst (λ drivers. TellWaits (length drivers) drivers c.waits_of-waits.result) (c.deref.ensures.value ∙ ap (λ units. units.drivers) c.units.view_is) c.waits_of-waits.ensures.told) in
    let length_is = length-take-le c.len.result c.waits_of-waits.result (omega (arith, c.waits_of-waits.ensures.many, c.requires.few, many)) ∙ many in
    let found_is = c.next_upload-next.ensures.next
    ∙ (ap (λ (ds : List (DriverState g.row.R.Denot)). next_of_running (set_view c.args.media.now) (places_in ds) (sessions_in ds) (option_map running_view c.units.inside.batches.running)) (c.deref-2.ensures.value ∙ ap (λ units. units.drivers) c.units.view_is)
    ∙ ap (λ running. next_of_running (set_view c.args.media.now) (places_in c.args.units.now.drivers) (sessions_in c.args.units.now.drivers) (option_map running_view running)) (ap (λ units. units.running) c.units.view_is)) in
    let may = c.is_some.ensures ∙ (sym (mapped_is_some (λ next. upload_at next.0 next.1.now) c.next_upload-next.result) ∙ ap (λ next. is_some next) found_is) in
    let next = sym found_is ∙ ap (option_map (λ next. upload_at next.0 next.1.now)) c.in-Some.is in
    let within = subst (λ (ds : List (DriverState g.row.R.Denot)). c.in-Some.index < length ds) (c.deref-2.ensures.value ∙ ap (λ units. units.drivers) c.units.view_is)
    (subst (λ next. IfSome next (λ x. x.0 < length c.deref-2.result.now)) c.in-Some.is c.next_upload-next.ensures.within) in
    asked_goes_on g.K.Disk.state g.R.Rule.may_say (set_view c.args.media.now) c.args.link.now c.next.new.self c.args.units.now c.ask.new.units c.args.disks.now c.ask.new.disks c.requires.ready c.requires.batches (take c.len.result c.waits_of-waits.result) c.is_some.result c.ask.new.link c.in-Some.index c.in-Some.target.now within next gives c.in_ok-ask-in-Some.ensures.asked
    rule began first on length_is told may

pub returns-in-Ok-End-clause-goes_on : goal.returns-in-Ok-End-clause-goes_on
returns-in-Ok-End-clause-goes_on g c = λ rule began first on.
    let gives = subst (λ happening. GivesInFleet c.args.link.now c.next.new.self (take c.len.result c.waits_of-waits.result) c.is_some.result (fleet_happening_view happening)) c.in-Ok-End.field-0-is c.in-Ok-End.ensures.ok in
    let counted = sym c.deref.ensures.len ∙ ap length (c.deref.ensures.value ∙ ap (λ units. units.drivers) c.units.view_is) in
    let many = c.len.ensures ∙ (counted ∙ c.requires.ready.drivers) in
    let told = told_of_taken c.args.units.now.drivers c.waits_of-waits.result c.len.result (c.len.ensures ∙ counted) c.waits_of-waits.ensures.many (omega (arith, c.requires.few, many))
    (subst (λ drivers. TellWaits (length drivers) drivers c.waits_of-waits.result) (c.deref.ensures.value ∙ ap (λ units. units.drivers) c.units.view_is) c.waits_of-waits.ensures.told) in
    let length_is = length-take-le c.len.result c.waits_of-waits.result (omega (arith, c.waits_of-waits.ensures.many, c.requires.few, many)) ∙ many in
    let found_is = c.next_upload-next.ensures.next
    ∙ (ap (λ (ds : List (DriverState g.row.R.Denot)). next_of_running (set_view c.args.media.now) (places_in ds) (sessions_in ds) (option_map running_view c.units.inside.batches.running)) (c.deref-2.ensures.value ∙ ap (λ units. units.drivers) c.units.view_is)
    ∙ ap (λ running. next_of_running (set_view c.args.media.now) (places_in c.args.units.now.drivers) (sessions_in c.args.units.now.drivers) (option_map running_view running)) (ap (λ units. units.running) c.units.view_is)) in
    let may = c.is_some.ensures ∙ (sym (mapped_is_some (λ next. upload_at next.0 next.1.now) c.next_upload-next.result) ∙ ap (λ next. is_some next) found_is) in
    ends_here g.K.Disk.state g.R.Rule.may_say rule (set_view c.args.media.now) began c.args.link.now c.args.units.now first c.args.disks.now on c.requires.ready (take c.len.result c.waits_of-waits.result) length_is told c.is_some.result may c.requires.batches.last c.next.new.self gives

pub returns-in_ok-begin_batch-in-Some-begun-clause-ready : goal.returns-in_ok-begin_batch-in-Some-begun-clause-ready
returns-in_ok-begin_batch-in-Some-begun-clause-ready g c =
    let gives = subst (λ happening. GivesInFleet c.args.link.now c.next.new.self (take c.len.result c.waits_of-waits.result) c.is_some.result happening) (begun_is (fleet_happening_view c.in-Ok.given) c.in-Some-begun.part (sym c.in-Some-begun.ensures)) c.in-Ok.ensures.ok in
    let begins = c.in_ok-begin_batch-in-Some-begun.ensures in
    ready_still g.K.Disk.state c.args.link.now c.next.new.self c.args.units.now c.begin_batch.new.units c.args.disks.now begins.drivers
    (batch_in_order c.args.link.now.units c.in-Some-begun.part c.args.units.now.order c.begin_batch.new.units.order begins.order c.requires.ready.order) gives.units gives.posted c.requires.ready

pub returns-in_ok-begin_batch-in-Some-begun-clause-goes_on : goal.returns-in_ok-begin_batch-in-Some-begun-clause-goes_on
returns-in_ok-begin_batch-in-Some-begun-clause-goes_on g c = λ rule began first on.
    let gives = subst (λ happening. GivesInFleet c.args.link.now c.next.new.self (take c.len.result c.waits_of-waits.result) c.is_some.result happening) (begun_is (fleet_happening_view c.in-Ok.given) c.in-Some-begun.part (sym c.in-Some-begun.ensures)) c.in-Ok.ensures.ok in
    let counted = sym c.deref.ensures.len ∙ ap length (c.deref.ensures.value ∙ ap (λ units. units.drivers) c.units.view_is) in
    let many = c.len.ensures ∙ (counted ∙ c.requires.ready.drivers) in
    let told = told_of_taken c.args.units.now.drivers c.waits_of-waits.result c.len.result (c.len.ensures ∙ counted) c.waits_of-waits.ensures.many (omega (arith, c.requires.few, many))
    (subst (λ drivers. TellWaits (length drivers) drivers c.waits_of-waits.result) (c.deref.ensures.value ∙ ap (λ units. units.drivers) c.units.view_is) c.waits_of-waits.ensures.told) in
    let length_is = length-take-le c.len.result c.waits_of-waits.result (omega (arith, c.waits_of-waits.ensures.many, c.requires.few, many)) ∙ many in
    let found_is = c.next_upload-next.ensures.next
    ∙ (ap (λ (ds : List (DriverState g.row.R.Denot)). next_of_running (set_view c.args.media.now) (places_in ds) (sessions_in ds) (option_map running_view c.units.inside.batches.running)) (c.deref-2.ensures.value ∙ ap (λ units. units.drivers) c.units.view_is)
    ∙ ap (λ running. next_of_running (set_view c.args.media.now) (places_in c.args.units.now.drivers) (sessions_in c.args.units.now.drivers) (option_map running_view running)) (ap (λ units. units.running) c.units.view_is)) in
    let may = c.is_some.ensures ∙ (sym (mapped_is_some (λ next. upload_at next.0 next.1.now) c.next_upload-next.result) ∙ ap (λ next. is_some next) found_is) in
    batch_begins g.K.Disk.state g.R.Rule.may_say rule (set_view c.args.media.now) began c.args.link.now c.args.units.now first c.args.disks.now on c.requires.ready (take c.len.result c.waits_of-waits.result) length_is told c.is_some.result may c.requires.batches.last c.next.new.self c.in-Some-begun.part c.begin_batch.new.units c.in_ok-begin_batch-in-Some-begun.ensures gives

pub returns-in-Err-clause-leaves : goal.returns-in-Err-clause-leaves
returns-in-Err-clause-leaves g c = λ rule began first on.
    subst (λ link. AllLeave g.K.Disk.state g.R.Rule.may_say rule (set_view c.args.media.now) began link first c.args.disks.now) (sym c.in-Err.ensures.err)
    (all_leave_now g.K.Disk.state g.R.Rule.may_say rule (set_view c.args.media.now) g.met.K.Disk.wider g.met.K.Disk.splits g.met.K.Disk.only_now began c.args.link.now c.args.units.now first c.args.disks.now on c.requires.ready)
