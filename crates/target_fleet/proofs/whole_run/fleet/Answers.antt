use Rattle.std.proofs.Common.{arith, true, false, inr, refl, ap, sym, subst, ◌∙◌}
use Rattle.media_check.specs.Sets.{set_view}
use Rattle.target_fleet.specs.AskedTurns.{AreBatchesReady}
use Rattle.target_fleet.specs.Runs.{FleetGoesOn, IsFleetReady}
use Rattle.target_fleet.proofs.FewTargets.{few_targets}
use Rattle.target_fleet.proofs.UnitEnds.{all_leave_same}
use Rattle.target_fleet.proofs.WholeFleet.{all_leave_end, all_leave_read, all_stood, fails_later, fleet_asked, fleet_begins, fleet_ended, fleet_follows, fleet_is_ready, fleet_kept, left_of_fleet, posts_counted, units_can_end, units_ended}
use Rattle.target_fleet.proofs.whole_run.fleet.Goals as goal

pub returns-in-Err-clause-leaves : goal.returns-in-Err-clause-leaves
returns-in-Err-clause-leaves g c =
    left_of_fleet g.K.Disk.state g.R.Rule.may_say c.args.interlock.now (set_view c.args.media.now) c.the_configuration_changes_by_good_verdicts.ensures.active c.args.link.now c.args.link.now c.args.disks.now c.boot_all.new.disks c.boot_all.ensures.same
    (all_leave_read g.K.Disk.state g.R.Rule.may_say c.args.interlock.now (set_view c.args.media.now) c.args.link.now c.requires.nothing_posted c.args.disks.now c.boot_all.new.disks c.boot_all.ensures.reads g.met.K.Disk.only_now (λ k image s loses told holds. c.a_power_loss_takes_only_work.ensures.holds k image s loses told holds))

pub run_to_end-requires-clause-ready : goal.run_to_end-requires-clause-ready
run_to_end-requires-clause-ready g c =
    rw (c.new.ensures, c.new-2.ensures.running, c.new-2.ensures.ended) (fleet_is_ready g.K.Disk.state g.R.Rule.may_say c.args.interlock.now (set_view c.args.media.now) c.args.link.now c.requires.nothing_posted c.in-Ok.drivers.items c.args.disks.now c.boot_all.new.disks c.in-Ok.ensures.many c.boot_all.ensures.same c.in-Ok.ensures.boots c.boot_all.ensures.reads c.requires.many)

pub run_to_end-requires-clause-batches : goal.run_to_end-requires-clause-batches
run_to_end-requires-clause-batches g c =
    record {
      last = rw c.new-2.ensures.running tt;
      within = rw c.new-2.ensures.running tt;
      few = few_targets c.batch_laws.ensures.decided c.batch_laws.ensures.spelled c.batch_laws.ensures.read_again (set_view c.args.media.now) c.files_are_bytes.ensures;
    }

pub returns-in-Err-run_to_end-clause-refused : goal.returns-in-Err-run_to_end-clause-refused
returns-in-Err-run_to_end-clause-refused g c =
    inr (all_stood g.K.Disk.state g.R.Rule.may_say c.args.interlock.now (set_view c.args.media.now) c.args.link.now c.requires.nothing_posted c.in-Ok.drivers.items c.args.disks.now c.boot_all.new.disks c.in-Ok.ensures.many c.boot_all.ensures.same c.in-Ok.ensures.boots c.boot_all.ensures.reads)

pub returns-in-Err-run_to_end-clause-leaves : goal.returns-in-Err-run_to_end-clause-leaves
returns-in-Err-run_to_end-clause-leaves g c =
    let begins : FleetGoesOn g.K.Disk.state g.R.Rule.may_say c.args.interlock.now (set_view c.args.media.now) false c.args.link.now c.args.link.now (record { drivers = c.in-Ok.drivers.items; order = c.new.result; running = c.new-2.result.running; ended = c.new-2.result.ended.items }) c.args.disks.now c.boot_all.new.disks =
    rw (c.new.ensures, c.new-2.ensures.running, c.new-2.ensures.ended) (fleet_begins g.K.Disk.state g.R.Rule.may_say c.args.interlock.now (set_view c.args.media.now) c.args.link.now c.requires.nothing_posted c.in-Ok.drivers.items c.args.disks.now c.boot_all.new.disks c.in-Ok.ensures.many c.boot_all.ensures.same c.in-Ok.ensures.boots c.boot_all.ensures.reads) in
    left_of_fleet g.K.Disk.state g.R.Rule.may_say c.args.interlock.now (set_view c.args.media.now) c.the_configuration_changes_by_good_verdicts.ensures.active c.args.link.now c.run_to_end.new.link c.args.disks.now c.run_to_end.new.disks (c.run_to_end.ensures.same ∙ c.boot_all.ensures.same)
    (c.in-Err-run_to_end.ensures.leaves c.args.interlock.now c.args.link.now c.args.disks.now begins)

pub returns-in-Err-end-clause-refused : goal.returns-in-Err-end-clause-refused
returns-in-Err-end-clause-refused g c =
    inr (all_stood g.K.Disk.state g.R.Rule.may_say c.args.interlock.now (set_view c.args.media.now) c.args.link.now c.requires.nothing_posted c.in-Ok.drivers.items c.args.disks.now c.boot_all.new.disks c.in-Ok.ensures.many c.boot_all.ensures.same c.in-Ok.ensures.boots c.boot_all.ensures.reads)

pub returns-in-Err-end-clause-leaves : goal.returns-in-Err-end-clause-leaves
returns-in-Err-end-clause-leaves g c =
    let begins : FleetGoesOn g.K.Disk.state g.R.Rule.may_say c.args.interlock.now (set_view c.args.media.now) false c.args.link.now c.args.link.now (record { drivers = c.in-Ok.drivers.items; order = c.new.result; running = c.new-2.result.running; ended = c.new-2.result.ended.items }) c.args.disks.now c.boot_all.new.disks =
    rw (c.new.ensures, c.new-2.ensures.running, c.new-2.ensures.ended) (fleet_begins g.K.Disk.state g.R.Rule.may_say c.args.interlock.now (set_view c.args.media.now) c.args.link.now c.requires.nothing_posted c.in-Ok.drivers.items c.args.disks.now c.boot_all.new.disks c.in-Ok.ensures.many c.boot_all.ensures.same c.in-Ok.ensures.boots c.boot_all.ensures.reads) in
    let on = subst (λ units. FleetGoesOn g.K.Disk.state g.R.Rule.may_say c.args.interlock.now (set_view c.args.media.now) true c.args.link.now c.run_to_end.new.link units c.args.disks.now c.run_to_end.new.disks) (sym c.units-2.view_is)
    (c.in-Ok-run_to_end.ensures.goes_on c.args.interlock.now c.args.link.now c.args.disks.now begins) in
    let ready = subst (λ units. IsFleetReady g.K.Disk.state c.run_to_end.new.link units c.run_to_end.new.disks) (sym c.units-2.view_is) c.in-Ok-run_to_end.ensures.ready in
    left_of_fleet g.K.Disk.state g.R.Rule.may_say c.args.interlock.now (set_view c.args.media.now) c.the_configuration_changes_by_good_verdicts.ensures.active c.args.link.now c.run_to_end.new.link c.args.disks.now c.run_to_end.new.disks (c.run_to_end.ensures.same ∙ c.boot_all.ensures.same)
    (all_leave_end g.K.Disk.state g.R.Rule.may_say c.args.interlock.now (set_view c.args.media.now) c.args.link.now c.run_to_end.new.link (record { drivers = c.units-2.inside.drivers.items; order = c.units-2.inside.order; running = c.units-2.inside.batches.running; ended = c.units-2.inside.batches.ended.items }) c.args.disks.now c.run_to_end.new.disks c.run_to_end.new.disks on ready refl g.met.K.Disk.wider g.met.K.Disk.splits g.met.K.Disk.only_now (all_leave_same g.K.Disk.state c.run_to_end.new.disks))

pub end_all-requires-clause-can : goal.end_all-requires-clause-can
end_all-requires-clause-can g c =
    let begins : FleetGoesOn g.K.Disk.state g.R.Rule.may_say c.args.interlock.now (set_view c.args.media.now) false c.args.link.now c.args.link.now (record { drivers = c.in-Ok.drivers.items; order = c.new.result; running = c.new-2.result.running; ended = c.new-2.result.ended.items }) c.args.disks.now c.boot_all.new.disks =
    rw (c.new.ensures, c.new-2.ensures.running, c.new-2.ensures.ended) (fleet_begins g.K.Disk.state g.R.Rule.may_say c.args.interlock.now (set_view c.args.media.now) c.args.link.now c.requires.nothing_posted c.in-Ok.drivers.items c.args.disks.now c.boot_all.new.disks c.in-Ok.ensures.many c.boot_all.ensures.same c.in-Ok.ensures.boots c.boot_all.ensures.reads) in
    let on = subst (λ units. FleetGoesOn g.K.Disk.state g.R.Rule.may_say c.args.interlock.now (set_view c.args.media.now) true c.args.link.now c.run_to_end.new.link units c.args.disks.now c.run_to_end.new.disks) (sym c.units-2.view_is)
    (c.in-Ok-run_to_end.ensures.goes_on c.args.interlock.now c.args.link.now c.args.disks.now begins) in
    let ready = subst (λ units. IsFleetReady g.K.Disk.state c.run_to_end.new.link units c.run_to_end.new.disks) (sym c.units-2.view_is) c.in-Ok-run_to_end.ensures.ready in
    units_can_end g.K.Disk.state g.R.Rule.may_say c.args.interlock.now (set_view c.args.media.now) c.args.link.now c.run_to_end.new.link (record { drivers = c.units-2.inside.drivers.items; order = c.units-2.inside.order; running = c.units-2.inside.batches.running; ended = c.units-2.inside.batches.ended.items }) c.args.disks.now c.run_to_end.new.disks c.run_to_end.new.disks on ready refl

pub of_units-requires-clause-steps : goal.of_units-requires-clause-steps
of_units-requires-clause-steps g c =
    let begins : FleetGoesOn g.K.Disk.state g.R.Rule.may_say c.args.interlock.now (set_view c.args.media.now) false c.args.link.now c.args.link.now (record { drivers = c.in-Ok.drivers.items; order = c.new.result; running = c.new-2.result.running; ended = c.new-2.result.ended.items }) c.args.disks.now c.boot_all.new.disks =
    rw (c.new.ensures, c.new-2.ensures.running, c.new-2.ensures.ended) (fleet_begins g.K.Disk.state g.R.Rule.may_say c.args.interlock.now (set_view c.args.media.now) c.args.link.now c.requires.nothing_posted c.in-Ok.drivers.items c.args.disks.now c.boot_all.new.disks c.in-Ok.ensures.many c.boot_all.ensures.same c.in-Ok.ensures.boots c.boot_all.ensures.reads) in
    let on = subst (λ units. FleetGoesOn g.K.Disk.state g.R.Rule.may_say c.args.interlock.now (set_view c.args.media.now) true c.args.link.now c.run_to_end.new.link units c.args.disks.now c.run_to_end.new.disks) (sym c.units-2.view_is)
    (c.in-Ok-run_to_end.ensures.goes_on c.args.interlock.now c.args.link.now c.args.disks.now begins) in
    let ready = subst (λ units. IsFleetReady g.K.Disk.state c.run_to_end.new.link units c.run_to_end.new.disks) (sym c.units-2.view_is) c.in-Ok-run_to_end.ensures.ready in
    fleet_kept g.K.Disk.state g.R.Rule.may_say c.args.interlock.now (set_view c.args.media.now) c.args.link.now c.run_to_end.new.link (record { drivers = c.units-2.inside.drivers.items; order = c.units-2.inside.order; running = c.units-2.inside.batches.running; ended = c.units-2.inside.batches.ended.items }) c.args.disks.now c.run_to_end.new.disks c.end_all.new.disks on ready c.end_all.ensures.same c.in-Ok-end_all.ends.units.items c.in-Ok-end_all.ends.traces.items c.in-Ok-end_all.ensures.counts.0 c.in-Ok-end_all.ensures.counts.1 c.in-Ok-end_all.ensures.ended

pub of_units-requires-clause-posted : goal.of_units-requires-clause-posted
of_units-requires-clause-posted g c =
    let begins : FleetGoesOn g.K.Disk.state g.R.Rule.may_say c.args.interlock.now (set_view c.args.media.now) false c.args.link.now c.args.link.now (record { drivers = c.in-Ok.drivers.items; order = c.new.result; running = c.new-2.result.running; ended = c.new-2.result.ended.items }) c.args.disks.now c.boot_all.new.disks =
    rw (c.new.ensures, c.new-2.ensures.running, c.new-2.ensures.ended) (fleet_begins g.K.Disk.state g.R.Rule.may_say c.args.interlock.now (set_view c.args.media.now) c.args.link.now c.requires.nothing_posted c.in-Ok.drivers.items c.args.disks.now c.boot_all.new.disks c.in-Ok.ensures.many c.boot_all.ensures.same c.in-Ok.ensures.boots c.boot_all.ensures.reads) in
    let on = subst (λ units. FleetGoesOn g.K.Disk.state g.R.Rule.may_say c.args.interlock.now (set_view c.args.media.now) true c.args.link.now c.run_to_end.new.link units c.args.disks.now c.run_to_end.new.disks) (sym c.units-2.view_is)
    (c.in-Ok-run_to_end.ensures.goes_on c.args.interlock.now c.args.link.now c.args.disks.now begins) in
    let ready = subst (λ units. IsFleetReady g.K.Disk.state c.run_to_end.new.link units c.run_to_end.new.disks) (sym c.units-2.view_is) c.in-Ok-run_to_end.ensures.ready in
    posts_counted g.K.Disk.state g.R.Rule.may_say c.args.interlock.now (set_view c.args.media.now) c.args.link.now c.run_to_end.new.link (record { drivers = c.units-2.inside.drivers.items; order = c.units-2.inside.order; running = c.units-2.inside.batches.running; ended = c.units-2.inside.batches.ended.items }) c.args.disks.now c.run_to_end.new.disks c.end_all.new.disks on ready c.end_all.ensures.same c.in-Ok-end_all.ends.units.items c.in-Ok-end_all.ends.traces.items c.in-Ok-end_all.ensures.counts.0 c.in-Ok-end_all.ensures.counts.1 c.in-Ok-end_all.ensures.ended c.posted_counts-posted.result (omega (arith, on.count, c.units.ensures.count, c.units.ensures.few)) c.posted_counts-posted.ensures

pub returns-in-Ok-end_all-clause-ended : goal.returns-in-Ok-end_all-clause-ended
returns-in-Ok-end_all-clause-ended g c =
    let begins : FleetGoesOn g.K.Disk.state g.R.Rule.may_say c.args.interlock.now (set_view c.args.media.now) false c.args.link.now c.args.link.now (record { drivers = c.in-Ok.drivers.items; order = c.new.result; running = c.new-2.result.running; ended = c.new-2.result.ended.items }) c.args.disks.now c.boot_all.new.disks =
    rw (c.new.ensures, c.new-2.ensures.running, c.new-2.ensures.ended) (fleet_begins g.K.Disk.state g.R.Rule.may_say c.args.interlock.now (set_view c.args.media.now) c.args.link.now c.requires.nothing_posted c.in-Ok.drivers.items c.args.disks.now c.boot_all.new.disks c.in-Ok.ensures.many c.boot_all.ensures.same c.in-Ok.ensures.boots c.boot_all.ensures.reads) in
    let on = subst (λ units. FleetGoesOn g.K.Disk.state g.R.Rule.may_say c.args.interlock.now (set_view c.args.media.now) true c.args.link.now c.run_to_end.new.link units c.args.disks.now c.run_to_end.new.disks) (sym c.units-2.view_is)
    (c.in-Ok-run_to_end.ensures.goes_on c.args.interlock.now c.args.link.now c.args.disks.now begins) in
    let ready = subst (λ units. IsFleetReady g.K.Disk.state c.run_to_end.new.link units c.run_to_end.new.disks) (sym c.units-2.view_is) c.in-Ok-run_to_end.ensures.ready in
    fleet_ended g.K.Disk.state g.R.Rule.may_say c.args.interlock.now (set_view c.args.media.now) c.args.link.now c.run_to_end.new.link (record { drivers = c.units-2.inside.drivers.items; order = c.units-2.inside.order; running = c.units-2.inside.batches.running; ended = c.units-2.inside.batches.ended.items }) c.args.disks.now c.run_to_end.new.disks c.end_all.new.disks on ready c.end_all.ensures.same c.in-Ok-end_all.ends.units.items c.in-Ok-end_all.ends.traces.items c.in-Ok-end_all.ensures.counts.0 c.in-Ok-end_all.ensures.counts.1 c.in-Ok-end_all.ensures.ended (record { trace = c.of_units.result; units = c.from.result; batches = c.into_ended.result }) c.from.ensures c.of_units.ensures

pub returns-in-Ok-end_all-clause-units : goal.returns-in-Ok-end_all-clause-units
returns-in-Ok-end_all-clause-units g c =
    let begins : FleetGoesOn g.K.Disk.state g.R.Rule.may_say c.args.interlock.now (set_view c.args.media.now) false c.args.link.now c.args.link.now (record { drivers = c.in-Ok.drivers.items; order = c.new.result; running = c.new-2.result.running; ended = c.new-2.result.ended.items }) c.args.disks.now c.boot_all.new.disks =
    rw (c.new.ensures, c.new-2.ensures.running, c.new-2.ensures.ended) (fleet_begins g.K.Disk.state g.R.Rule.may_say c.args.interlock.now (set_view c.args.media.now) c.args.link.now c.requires.nothing_posted c.in-Ok.drivers.items c.args.disks.now c.boot_all.new.disks c.in-Ok.ensures.many c.boot_all.ensures.same c.in-Ok.ensures.boots c.boot_all.ensures.reads) in
    let on = subst (λ units. FleetGoesOn g.K.Disk.state g.R.Rule.may_say c.args.interlock.now (set_view c.args.media.now) true c.args.link.now c.run_to_end.new.link units c.args.disks.now c.run_to_end.new.disks) (sym c.units-2.view_is)
    (c.in-Ok-run_to_end.ensures.goes_on c.args.interlock.now c.args.link.now c.args.disks.now begins) in
    let ready = subst (λ units. IsFleetReady g.K.Disk.state c.run_to_end.new.link units c.run_to_end.new.disks) (sym c.units-2.view_is) c.in-Ok-run_to_end.ensures.ready in
    units_ended g.K.Disk.state g.R.Rule.may_say c.args.interlock.now (set_view c.args.media.now) c.args.link.now c.run_to_end.new.link (record { drivers = c.units-2.inside.drivers.items; order = c.units-2.inside.order; running = c.units-2.inside.batches.running; ended = c.units-2.inside.batches.ended.items }) c.args.disks.now c.run_to_end.new.disks c.end_all.new.disks on ready c.end_all.ensures.same c.in-Ok-end_all.ends.units.items c.in-Ok-end_all.ends.traces.items c.in-Ok-end_all.ensures.counts.0 c.in-Ok-end_all.ensures.counts.1 c.in-Ok-end_all.ensures.ended (record { trace = c.of_units.result; units = c.from.result; batches = c.into_ended.result }) c.from.ensures c.of_units.ensures

pub returns-in-Ok-end_all-clause-follows : goal.returns-in-Ok-end_all-clause-follows
returns-in-Ok-end_all-clause-follows g c =
    let begins : FleetGoesOn g.K.Disk.state g.R.Rule.may_say c.args.interlock.now (set_view c.args.media.now) false c.args.link.now c.args.link.now (record { drivers = c.in-Ok.drivers.items; order = c.new.result; running = c.new-2.result.running; ended = c.new-2.result.ended.items }) c.args.disks.now c.boot_all.new.disks =
    rw (c.new.ensures, c.new-2.ensures.running, c.new-2.ensures.ended) (fleet_begins g.K.Disk.state g.R.Rule.may_say c.args.interlock.now (set_view c.args.media.now) c.args.link.now c.requires.nothing_posted c.in-Ok.drivers.items c.args.disks.now c.boot_all.new.disks c.in-Ok.ensures.many c.boot_all.ensures.same c.in-Ok.ensures.boots c.boot_all.ensures.reads) in
    let on = subst (λ units. FleetGoesOn g.K.Disk.state g.R.Rule.may_say c.args.interlock.now (set_view c.args.media.now) true c.args.link.now c.run_to_end.new.link units c.args.disks.now c.run_to_end.new.disks) (sym c.units-2.view_is)
    (c.in-Ok-run_to_end.ensures.goes_on c.args.interlock.now c.args.link.now c.args.disks.now begins) in
    let ready = subst (λ units. IsFleetReady g.K.Disk.state c.run_to_end.new.link units c.run_to_end.new.disks) (sym c.units-2.view_is) c.in-Ok-run_to_end.ensures.ready in
    fleet_follows g.K.Disk.state g.R.Rule.may_say c.args.interlock.now (set_view c.args.media.now) c.args.link.now c.run_to_end.new.link (record { drivers = c.units-2.inside.drivers.items; order = c.units-2.inside.order; running = c.units-2.inside.batches.running; ended = c.units-2.inside.batches.ended.items }) c.args.disks.now c.run_to_end.new.disks c.end_all.new.disks on ready c.end_all.ensures.same c.in-Ok-end_all.ends.units.items c.in-Ok-end_all.ends.traces.items c.in-Ok-end_all.ensures.counts.0 c.in-Ok-end_all.ensures.counts.1 c.in-Ok-end_all.ensures.ended (record { trace = c.of_units.result; units = c.from.result; batches = c.into_ended.result }) c.from.ensures c.of_units.ensures

pub returns-in-Ok-end_all-clause-batches : goal.returns-in-Ok-end_all-clause-batches
returns-in-Ok-end_all-clause-batches g c =
    let begins : FleetGoesOn g.K.Disk.state g.R.Rule.may_say c.args.interlock.now (set_view c.args.media.now) false c.args.link.now c.args.link.now (record { drivers = c.in-Ok.drivers.items; order = c.new.result; running = c.new-2.result.running; ended = c.new-2.result.ended.items }) c.args.disks.now c.boot_all.new.disks =
    rw (c.new.ensures, c.new-2.ensures.running, c.new-2.ensures.ended) (fleet_begins g.K.Disk.state g.R.Rule.may_say c.args.interlock.now (set_view c.args.media.now) c.args.link.now c.requires.nothing_posted c.in-Ok.drivers.items c.args.disks.now c.boot_all.new.disks c.in-Ok.ensures.many c.boot_all.ensures.same c.in-Ok.ensures.boots c.boot_all.ensures.reads) in
    let on = subst (λ units. FleetGoesOn g.K.Disk.state g.R.Rule.may_say c.args.interlock.now (set_view c.args.media.now) true c.args.link.now c.run_to_end.new.link units c.args.disks.now c.run_to_end.new.disks) (sym c.units-2.view_is)
    (c.in-Ok-run_to_end.ensures.goes_on c.args.interlock.now c.args.link.now c.args.disks.now begins) in
    let ready = subst (λ units. IsFleetReady g.K.Disk.state c.run_to_end.new.link units c.run_to_end.new.disks) (sym c.units-2.view_is) c.in-Ok-run_to_end.ensures.ready in
    let batches = subst (λ units. AreBatchesReady (set_view c.args.media.now) units) (sym c.units-2.view_is) c.in-Ok-run_to_end.ensures.batches in
    let ends = rw c.deref.ensures.value at c.in-Ok-end.ensures in
    fleet_asked g.K.Disk.state g.R.Rule.may_say c.args.interlock.now (set_view c.args.media.now) c.args.link.now c.run_to_end.new.link (record { drivers = c.units-2.inside.drivers.items; order = c.units-2.inside.order; running = c.units-2.inside.batches.running; ended = c.units-2.inside.batches.ended.items }) c.args.disks.now c.run_to_end.new.disks c.end_all.new.disks on ready c.end_all.ensures.same c.in-Ok-end_all.ends.units.items c.in-Ok-end_all.ends.traces.items c.in-Ok-end_all.ensures.counts.0 c.in-Ok-end_all.ensures.counts.1 c.in-Ok-end_all.ensures.ended (record { trace = c.of_units.result; units = c.from.result; batches = c.into_ended.result }) c.from.ensures c.of_units.ensures (ap (λ l. l.items) c.into_ended.ensures ∙ ends) batches.last

pub returns-in-Ok-end_all-clause-leaves : goal.returns-in-Ok-end_all-clause-leaves
returns-in-Ok-end_all-clause-leaves g c =
    let begins : FleetGoesOn g.K.Disk.state g.R.Rule.may_say c.args.interlock.now (set_view c.args.media.now) false c.args.link.now c.args.link.now (record { drivers = c.in-Ok.drivers.items; order = c.new.result; running = c.new-2.result.running; ended = c.new-2.result.ended.items }) c.args.disks.now c.boot_all.new.disks =
    rw (c.new.ensures, c.new-2.ensures.running, c.new-2.ensures.ended) (fleet_begins g.K.Disk.state g.R.Rule.may_say c.args.interlock.now (set_view c.args.media.now) c.args.link.now c.requires.nothing_posted c.in-Ok.drivers.items c.args.disks.now c.boot_all.new.disks c.in-Ok.ensures.many c.boot_all.ensures.same c.in-Ok.ensures.boots c.boot_all.ensures.reads) in
    let on = subst (λ units. FleetGoesOn g.K.Disk.state g.R.Rule.may_say c.args.interlock.now (set_view c.args.media.now) true c.args.link.now c.run_to_end.new.link units c.args.disks.now c.run_to_end.new.disks) (sym c.units-2.view_is)
    (c.in-Ok-run_to_end.ensures.goes_on c.args.interlock.now c.args.link.now c.args.disks.now begins) in
    let ready = subst (λ units. IsFleetReady g.K.Disk.state c.run_to_end.new.link units c.run_to_end.new.disks) (sym c.units-2.view_is) c.in-Ok-run_to_end.ensures.ready in
    left_of_fleet g.K.Disk.state g.R.Rule.may_say c.args.interlock.now (set_view c.args.media.now) c.the_configuration_changes_by_good_verdicts.ensures.active c.args.link.now c.run_to_end.new.link c.args.disks.now c.end_all.new.disks (c.end_all.ensures.same ∙ (c.run_to_end.ensures.same ∙ c.boot_all.ensures.same))
    (all_leave_end g.K.Disk.state g.R.Rule.may_say c.args.interlock.now (set_view c.args.media.now) c.args.link.now c.run_to_end.new.link (record { drivers = c.units-2.inside.drivers.items; order = c.units-2.inside.order; running = c.units-2.inside.batches.running; ended = c.units-2.inside.batches.ended.items }) c.args.disks.now c.run_to_end.new.disks c.end_all.new.disks on ready c.end_all.ensures.same g.met.K.Disk.wider g.met.K.Disk.splits g.met.K.Disk.only_now c.end_all.ensures.leaves)

pub returns-in-Err-end_all-clause-leaves : goal.returns-in-Err-end_all-clause-leaves
returns-in-Err-end_all-clause-leaves g c =
    let begins : FleetGoesOn g.K.Disk.state g.R.Rule.may_say c.args.interlock.now (set_view c.args.media.now) false c.args.link.now c.args.link.now (record { drivers = c.in-Ok.drivers.items; order = c.new.result; running = c.new-2.result.running; ended = c.new-2.result.ended.items }) c.args.disks.now c.boot_all.new.disks =
    rw (c.new.ensures, c.new-2.ensures.running, c.new-2.ensures.ended) (fleet_begins g.K.Disk.state g.R.Rule.may_say c.args.interlock.now (set_view c.args.media.now) c.args.link.now c.requires.nothing_posted c.in-Ok.drivers.items c.args.disks.now c.boot_all.new.disks c.in-Ok.ensures.many c.boot_all.ensures.same c.in-Ok.ensures.boots c.boot_all.ensures.reads) in
    let on = subst (λ units. FleetGoesOn g.K.Disk.state g.R.Rule.may_say c.args.interlock.now (set_view c.args.media.now) true c.args.link.now c.run_to_end.new.link units c.args.disks.now c.run_to_end.new.disks) (sym c.units-2.view_is)
    (c.in-Ok-run_to_end.ensures.goes_on c.args.interlock.now c.args.link.now c.args.disks.now begins) in
    let ready = subst (λ units. IsFleetReady g.K.Disk.state c.run_to_end.new.link units c.run_to_end.new.disks) (sym c.units-2.view_is) c.in-Ok-run_to_end.ensures.ready in
    left_of_fleet g.K.Disk.state g.R.Rule.may_say c.args.interlock.now (set_view c.args.media.now) c.the_configuration_changes_by_good_verdicts.ensures.active c.args.link.now c.run_to_end.new.link c.args.disks.now c.end_all.new.disks (c.end_all.ensures.same ∙ (c.run_to_end.ensures.same ∙ c.boot_all.ensures.same))
    (all_leave_end g.K.Disk.state g.R.Rule.may_say c.args.interlock.now (set_view c.args.media.now) c.args.link.now c.run_to_end.new.link (record { drivers = c.units-2.inside.drivers.items; order = c.units-2.inside.order; running = c.units-2.inside.batches.running; ended = c.units-2.inside.batches.ended.items }) c.args.disks.now c.run_to_end.new.disks c.end_all.new.disks on ready c.end_all.ensures.same g.met.K.Disk.wider g.met.K.Disk.splits g.met.K.Disk.only_now c.end_all.ensures.leaves)

pub returns-in-Err-end_all-clause-refused : goal.returns-in-Err-end_all-clause-refused
returns-in-Err-end_all-clause-refused g c =
    let begins : FleetGoesOn g.K.Disk.state g.R.Rule.may_say c.args.interlock.now (set_view c.args.media.now) false c.args.link.now c.args.link.now (record { drivers = c.in-Ok.drivers.items; order = c.new.result; running = c.new-2.result.running; ended = c.new-2.result.ended.items }) c.args.disks.now c.boot_all.new.disks =
    rw (c.new.ensures, c.new-2.ensures.running, c.new-2.ensures.ended) (fleet_begins g.K.Disk.state g.R.Rule.may_say c.args.interlock.now (set_view c.args.media.now) c.args.link.now c.requires.nothing_posted c.in-Ok.drivers.items c.args.disks.now c.boot_all.new.disks c.in-Ok.ensures.many c.boot_all.ensures.same c.in-Ok.ensures.boots c.boot_all.ensures.reads) in
    let on = subst (λ units. FleetGoesOn g.K.Disk.state g.R.Rule.may_say c.args.interlock.now (set_view c.args.media.now) true c.args.link.now c.run_to_end.new.link units c.args.disks.now c.run_to_end.new.disks) (sym c.units-2.view_is)
    (c.in-Ok-run_to_end.ensures.goes_on c.args.interlock.now c.args.link.now c.args.disks.now begins) in
    let ready = subst (λ units. IsFleetReady g.K.Disk.state c.run_to_end.new.link units c.run_to_end.new.disks) (sym c.units-2.view_is) c.in-Ok-run_to_end.ensures.ready in
    inr (fails_later g.K.Disk.state g.R.Rule.may_say c.args.interlock.now (set_view c.args.media.now) c.args.link.now c.run_to_end.new.link (record { drivers = c.units-2.inside.drivers.items; order = c.units-2.inside.order; running = c.units-2.inside.batches.running; ended = c.units-2.inside.batches.ended.items }) c.args.disks.now c.run_to_end.new.disks c.end_all.new.disks on ready c.end_all.ensures.same c.in-Err-end_all.fault (all_stood g.K.Disk.state g.R.Rule.may_say c.args.interlock.now (set_view c.args.media.now) c.args.link.now c.requires.nothing_posted c.in-Ok.drivers.items c.args.disks.now c.boot_all.new.disks c.in-Ok.ensures.many c.boot_all.ensures.same c.in-Ok.ensures.boots c.boot_all.ensures.reads) c.in-Err-end_all.ensures.refused)
