use Rattle.std.proofs.Common.{◌≡◌, ◌-◌, [], OnOk, Some, length, inr, refl, sym, ap, subst, ◌∙◌}
use Rattle.std.specs.Prelude.{slice_get}
use Rattle.std.specs.Vec.{with_items}
use Rattle.std.proofs.lemmas.List.{append-nil, with_items_is}
use Rattle.std.proofs.lemmas.Result.{on_ok_weaker}
use Rattle.exchange_trace.specs.Happenings.{happening_view}
use Rattle.target_fleet.specs.AskedTurns.{LeavesStep, StepsFleet}
use Rattle.target_fleet.specs.Runs.{FleetState}
use Rattle.target_fleet.specs.Steps.{ActsAt, StepsAt}
use Rattle.target_fleet.proofs.Indexed.{set_length}
use Rattle.target_fleet.proofs.TurnsLeave.{anyway}
use Rattle.target_fleet.proofs.running.step_unit.Goals as goal

pub step_and_post-requires-clause-can : goal.step_and_post-requires-clause-can
step_and_post-requires-clause-can g c = λ d k e f.
    c.requires.can d k (subst (λ list. slice_get list (c.args.unit - 1) ≡ Some d) (c.deref_mut.ensures.value ∙ ap (λ units. units.drivers) c.units.view_is) e) f

pub returns-in_err-step_and_post-clause-left : goal.returns-in_err-step_and_post-clause-left
returns-in_err-step_and_post-clause-left g c =
    anyway c.from_residual.result _ (subst (λ list. LeavesStep g.K.Disk.state g.R.Rule.may_say c.args.unit (happening_view c.args.happening) list c.args.link.now c.step_and_post.new.link c.args.disks.now c.step_and_post.new.disks)
    (c.deref_mut.ensures.value ∙ ap (λ units. units.drivers) c.units.view_is) c.in_err-step_and_post.ensures.left)

pub returns-clause-steps : goal.returns-clause-steps
returns-clause-steps g c =
    let after : FleetState g.row.R.Denot = record { drivers = (with_items c.units.inside.drivers c.step_and_post.new.drivers).items; order = c.push_unit.new.self; running = c.units.inside.batches.running; ended = c.units.inside.batches.ended.items } in
    let told = c.in_ok-step_and_post.ensures.steps in
    let whole = with_items_is c.units.inside.drivers c.step_and_post.new.drivers (ap length told.step.unit.kept ∙ (set_length c.deref_mut.result.now (c.args.unit - 1) told.step.after ∙ c.deref_mut.ensures.len)) in
    let step = subst (λ list. StepsAt g.K.Disk.state g.R.Rule.may_say (c.args.unit - 1) (happening_view c.args.happening) told.posts c.units.inside.drivers.items list c.args.disks.now c.step_and_post.new.disks) (sym whole)
    (subst (λ list. StepsAt g.K.Disk.state g.R.Rule.may_say (c.args.unit - 1) (happening_view c.args.happening) told.posts list c.step_and_post.new.drivers c.args.disks.now c.step_and_post.new.disks) c.deref_mut.ensures.value told.step) in
    subst (λ units. OnOk c.push_unit.result (StepsFleet g.K.Disk.state g.R.Rule.may_say c.args.asked c.args.unit (happening_view c.args.happening) units after c.args.link.now c.step_and_post.new.link c.args.disks.now c.step_and_post.new.disks)) c.units.view_is
    (on_ok_weaker c.push_unit.result (λ order. record {
      posts = told.posts;
      step = step;
      acts = subst (λ list. ActsAt g.K.Disk.state g.R.Rule.may_say (c.args.unit - 1) (happening_view c.args.happening) list c.args.disks.now c.step_and_post.new.disks) c.deref_mut.ensures.value told.acts;
      linked = told.linked;
      order = order;
      running = refl;
      ended = refl;
    }) c.push_unit.ensures)

pub returns-clause-left : goal.returns-clause-left
returns-clause-left g c =
    let told = c.in_ok-step_and_post.ensures.steps in
    let drivers = c.deref_mut.ensures.value ∙ ap (λ units. units.drivers) c.units.view_is in
    anyway c.push_unit.result _ (inr (record {
      posts = told.posts;
      drivers_then = c.step_and_post.new.drivers;
      step = subst (λ list. StepsAt g.K.Disk.state g.R.Rule.may_say (c.args.unit - 1) (happening_view c.args.happening) told.posts list c.step_and_post.new.drivers c.args.disks.now c.step_and_post.new.disks) drivers told.step;
      acts = subst (λ list. ActsAt g.K.Disk.state g.R.Rule.may_say (c.args.unit - 1) (happening_view c.args.happening) list c.args.disks.now c.step_and_post.new.disks) drivers told.acts;
      part = record { sent = told.posts; left = []; parts = sym (append-nil told.posts); linked = told.linked };
    }))
