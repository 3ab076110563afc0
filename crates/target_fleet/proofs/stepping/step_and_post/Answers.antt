use Rattle.std.proofs.Common.{◌≡◌, ◌-◌, ◌<◌, inl, inr, Some, arith, length, refl, sym, ap, subst, ◌∙◌}
use Rattle.std.specs.Prelude.{drop, slice_get, slice_index_or}
use Rattle.std.proofs.lemmas.Option.{slice_get_read}
use Rattle.std.proofs.lemmas.Result.{on_err_weaker, on_ok_weaker}
use Rattle.exchange_trace.specs.Happenings.{happening_view}
use Rattle.exchange_trace.specs.Posts.{posted_in}
use Rattle.replay_turns.specs.Recordings.{posts_of_last}
use Rattle.upload_replay.specs.DriverSteps.{CanStep}
use Rattle.upload_replay.proofs.Stepped.{posts_since}
use Rattle.target_fleet.specs.PartPosts.{IsPostedInPartAt}
use Rattle.target_fleet.specs.Runs.{with_posts_at}
use Rattle.target_fleet.proofs.TurnsLeave.{anyway}
use Rattle.target_fleet.proofs.UnitSteps.{acts_at, steps_at}
use Rattle.target_fleet.proofs.stepping.step_and_post.Goals as goal

pub apply-requires : goal.apply-requires
apply-requires g c =
    let index = c.args.unit - 1 in
    let driver = c.index-drivers-index.result in
    let disk = c.index-disks-index.result in
    let within : index < length c.args.drivers.now = omega (arith, c.requires.unit.0, c.requires.drivers) in
    let driver_there = slice_get_read c.args.drivers.now (length c.args.drivers.now) index driver refl within c.index-drivers-index.is in
    let disk_there = slice_get_read c.args.disks.now (length c.args.drivers.now) index disk (sym c.requires.many) within c.index-disks-index.is in
    subst (λ k. CanStep (happening_view c.args.happening) (slice_index_or c.args.drivers.now index driver) (g.K.Disk.state k)) c.index-disks-index.is
    (subst (λ d. CanStep (happening_view c.args.happening) d (g.K.Disk.state disk)) c.index-drivers-index.is (c.requires.can driver disk driver_there disk_there))

pub returns-in_err-apply-clause-left : goal.returns-in_err-apply-clause-left
returns-in_err-apply-clause-left g c =
    let index = c.args.unit - 1 in
    let driver = c.index-drivers-index.result in
    let disk = c.index-disks-index.result in
    let within : index < length c.args.drivers.now = omega (arith, c.requires.unit.0, c.requires.drivers) in
    let driver_there = slice_get_read c.args.drivers.now (length c.args.drivers.now) index driver refl within c.index-drivers-index.is in
    let disk_there = slice_get_read c.args.disks.now (length c.args.drivers.now) index disk (sym c.requires.many) within c.index-disks-index.is in
    anyway c.from_residual.result _ (inl (
      refl,
      acts_at g.K.Disk.state g.R.Rule.may_say index (happening_view c.args.happening) (slice_index_or c.args.drivers.now index driver) (slice_index_or c.args.disks.now index disk) c.apply.new.disk c.args.drivers.now c.args.disks.now
          (subst (λ d. slice_get c.args.drivers.now index ≡ Some d) c.index-drivers-index.is driver_there) (subst (λ k. slice_get c.args.disks.now index ≡ Some k) c.index-disks-index.is disk_there) c.apply.ensures.acts,
    ))

pub returns-clause-steps : goal.returns-clause-steps
returns-clause-steps g c =
    let index = c.args.unit - 1 in
    let driver = c.index-drivers-index.result in
    let disk = c.index-disks-index.result in
    let within : index < length c.args.drivers.now = omega (arith, c.requires.unit.0, c.requires.drivers) in
    let driver_there = slice_get_read c.args.drivers.now (length c.args.drivers.now) index driver refl within c.index-drivers-index.is in
    let disk_there = slice_get_read c.args.disks.now (length c.args.drivers.now) index disk (sym c.requires.many) within c.index-disks-index.is in
    let first = slice_index_or c.args.drivers.now index driver in
    let other = slice_index_or c.args.disks.now index disk in
    let first_there = subst (λ d. slice_get c.args.drivers.now index ≡ Some d) c.index-drivers-index.is driver_there in
    let other_there = subst (λ k. slice_get c.args.disks.now index ≡ Some k) c.index-disks-index.is disk_there in
    let after = c.apply.new.self in
    let posts = posts_of_last after.steps in
    let takes = c.in_ok-apply.ensures.takes in
    let since : drop c.posted_count-count.result (posted_in after.steps) ≡ posts =
    ap (λ n. drop n (posted_in after.steps)) c.posted_count-count.ensures ∙ posts_since first.steps after.steps takes.stepped.step takes.stepped.recorded in
    on_ok_weaker c.post_new.result (λ linked. record {
      posts = posts;
      step = steps_at g.K.Disk.state g.R.Rule.may_say index (happening_view c.args.happening) first other c.apply.new.disk c.args.drivers.now c.args.disks.now first_there other_there posts after takes;
      acts = acts_at g.K.Disk.state g.R.Rule.may_say index (happening_view c.args.happening) first other c.apply.new.disk c.args.drivers.now c.args.disks.now first_there other_there c.apply.ensures.acts;
      linked = linked ∙ ap (λ list. with_posts_at c.args.link.now c.args.unit list) since;
    }) c.post_new.ensures.posts

pub returns-clause-left : goal.returns-clause-left
returns-clause-left g c =
    let index = c.args.unit - 1 in
    let driver = c.index-drivers-index.result in
    let disk = c.index-disks-index.result in
    let within : index < length c.args.drivers.now = omega (arith, c.requires.unit.0, c.requires.drivers) in
    let driver_there = slice_get_read c.args.drivers.now (length c.args.drivers.now) index driver refl within c.index-drivers-index.is in
    let disk_there = slice_get_read c.args.disks.now (length c.args.drivers.now) index disk (sym c.requires.many) within c.index-disks-index.is in
    let first = slice_index_or c.args.drivers.now index driver in
    let other = slice_index_or c.args.disks.now index disk in
    let first_there = subst (λ d. slice_get c.args.drivers.now index ≡ Some d) c.index-drivers-index.is driver_there in
    let other_there = subst (λ k. slice_get c.args.disks.now index ≡ Some k) c.index-disks-index.is disk_there in
    let after = c.apply.new.self in
    let posts = posts_of_last after.steps in
    let takes = c.in_ok-apply.ensures.takes in
    let since : drop c.posted_count-count.result (posted_in after.steps) ≡ posts =
    ap (λ n. drop n (posted_in after.steps)) c.posted_count-count.ensures ∙ posts_since first.steps after.steps takes.stepped.step takes.stepped.recorded in
    on_err_weaker c.post_new.result (λ part. inr (record {
      posts = posts;
      drivers_then = _;
      step = steps_at g.K.Disk.state g.R.Rule.may_say index (happening_view c.args.happening) first other c.apply.new.disk c.args.drivers.now c.args.disks.now first_there other_there posts after takes;
      acts = acts_at g.K.Disk.state g.R.Rule.may_say index (happening_view c.args.happening) first other c.apply.new.disk c.args.drivers.now c.args.disks.now first_there other_there c.apply.ensures.acts;
      part = subst (λ list. IsPostedInPartAt c.args.unit list c.args.link.now c.post_new.new.link) since part;
    })) c.post_new.ensures.in_part
