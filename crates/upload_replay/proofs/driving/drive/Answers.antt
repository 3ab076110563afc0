use Rattle.std.proofs.Common.{true, inl, inr, refl, ap, subst}
use Rattle.std.specs.Prelude.{is_some}
use Rattle.std.proofs.lemmas.Result.{IfOk-weaker}
use Rattle.bank_store.specs.Fits.{LosesOnlyWork}
use Rattle.exchange_trace.specs.Steps.{steps_of}
use Rattle.loader_machine.specs.Machine.{LoaderState, media_of}
use Rattle.media_check.specs.Sets.{SetView, set_view}
use Rattle.upload_replay.specs.Drivers.{RunsOnDisk}
use Rattle.upload_replay.specs.Lives.{LivesThrough}
use Rattle.upload_replay.proofs.Begins.{starts_on}
use Rattle.upload_replay.proofs.Counted.{arms_none, arms_on}
use Rattle.upload_replay.proofs.Driven.{ends_on_setting, run_ended, runs_started, under_way_first}
use Rattle.upload_replay.proofs.Ended.{never_link, refused_after, refused_first, refused_run}
use Rattle.upload_replay.proofs.History.{all_held, as_err, history_ended, history_first, left_of_run}
use Rattle.upload_replay.proofs.Turning.{both_ok}
use Rattle.upload_replay.proofs.driving.drive.Goals as goal

pub returns-in-Err-clause-refused : goal.returns-in-Err-clause-refused
returns-in-Err-clause-refused g c =
    refused_first (g.L.Link.faults c.args.link.now) (g.K.Disk.state c.args.disk.now) (g.K.Disk.state c.boot.new.disk) (g.L.Link.state c.args.link.now) c.in-Err.fault c.in-Err.ensures.refused c.boot.ensures.reads

pub returns-in-Err-clause-arms : goal.returns-in-Err-clause-arms
returns-in-Err-clause-arms g c = arms_none _ _ (g.K.Disk.state c.args.disk.now) (g.K.Disk.state c.boot.new.disk) refl c.boot.ensures.reads.power

pub returns-in-Err-clause-leaves : goal.returns-in-Err-clause-leaves
returns-in-Err-clause-leaves g c = λ set image is told loses.
    let old = g.K.Disk.state c.args.disk.now in
    left_of_run c.the_configuration_changes_by_good_verdicts.ensures.active set _ _ _ _ _
    (history_first set (g.L.Link.state c.args.link.now) old (g.K.Disk.state c.boot.new.disk) _ c.requires.nothing_posted (ap is_some told) (g.met.K.Disk.only_now c.args.disk.now)
    (c.a_power_loss_takes_only_work.ensures.holds c.args.disk.now image set.start loses told is.start) c.boot.ensures.reads)

pub returns-in-Err-run_to_end-clause-refused : goal.returns-in-Err-run_to_end-clause-refused
returns-in-Err-run_to_end-clause-refused g c =
    refused_run _ _ (g.K.Disk.state c.args.disk.now) (g.K.Disk.state c.run_to_end.new.disk) (g.L.Link.state c.args.link.now) (g.L.Link.state c.run_to_end.new.link) c.in-Err-run_to_end.fault c.in-Err-run_to_end.ensures.refused.told
    c.in-Err-run_to_end.ensures.refused.cause c.in-Ok.ensures.stood

pub returns-in-Err-run_to_end-clause-arms : goal.returns-in-Err-run_to_end-clause-arms
returns-in-Err-run_to_end-clause-arms g c =
    arms_on _ _ _ _ _ _ (arms_none _ _ (g.K.Disk.state c.args.disk.now) (g.K.Disk.state c.boot.new.disk) refl c.boot.ensures.reads.power) c.run_to_end.ensures.arms

pub returns-in-Err-run_to_end-clause-leaves : goal.returns-in-Err-run_to_end-clause-leaves
returns-in-Err-run_to_end-clause-leaves g c = λ set image is told loses.
    let link = g.L.Link.state c.args.link.now in
    let old = g.K.Disk.state c.args.disk.now in
    let begins = c.in-Ok.ensures.on_setting set image is told in
    left_of_run c.the_configuration_changes_by_good_verdicts.ensures.active set _ _ _ _ _
    (as_err set link (g.L.Link.state c.run_to_end.new.link) old.clock (g.K.Disk.state c.run_to_end.new.disk) c.in-Err-run_to_end.fault
    (c.in-Err-run_to_end.ensures.leaves set link old.clock begins.stands
    (runs_started set link old.clock c.in-Ok.driver (g.K.Disk.state c.boot.new.disk) c.in-Ok.ensures.begins.nothing c.requires.nothing_posted (begins.held loses))))

pub returns-in-Ok-run_to_end-clause-arms : goal.returns-in-Ok-run_to_end-clause-arms
returns-in-Ok-run_to_end-clause-arms g c =
    arms_on _ _ _ _ _ _ (arms_on _ _ _ _ _ _ (arms_none _ _ (g.K.Disk.state c.args.disk.now) (g.K.Disk.state c.boot.new.disk) refl c.boot.ensures.reads.power) c.run_to_end.ensures.arms)
    (arms_none _ _ (g.K.Disk.state c.run_to_end.new.disk) (g.K.Disk.state c.end.new.disk) refl c.end.ensures.leaves.power)

pub returns-in-Ok-run_to_end-clause-refused : goal.returns-in-Ok-run_to_end-clause-refused
returns-in-Ok-run_to_end-clause-refused g c =
    refused_after _ _ (g.K.Disk.state c.args.disk.now) (g.K.Disk.state c.run_to_end.new.disk) (g.K.Disk.state c.end.new.disk) (g.L.Link.state c.args.link.now) (g.L.Link.state c.run_to_end.new.link) c.end.result c.in-Ok-run_to_end.ensures.refused.cause.ok
    c.in-Ok.ensures.stood c.end.ensures.refused

pub returns-in-Ok-run_to_end-clause-ended : goal.returns-in-Ok-run_to_end-clause-ended
returns-in-Ok-run_to_end-clause-ended g c =
    let link = g.L.Link.state c.args.link.now in
    let old = g.K.Disk.state c.args.disk.now in
    let driver = c.run_to_end.new.driver in
    let last = g.K.Disk.state c.run_to_end.new.disk in
    let under_way = c.in-Ok-run_to_end.ensures.under_way link old.faults (set_view c.args.media.now)
    (under_way_first link (set_view c.args.media.now) c.in-Ok.driver old (g.K.Disk.state c.boot.new.disk) c.in-Ok.ensures.begins.nothing (ap (λ (l : LoaderState). l.set) c.in-Ok.ensures.begins.loader_is) c.boot.ensures.reads.faults) in
    IfOk-weaker c.end.result _ _
    (λ drive both. run_ended driver drive both.0.ended (set_view c.args.media.now) link (g.L.Link.state c.run_to_end.new.link) old last (g.K.Disk.state c.end.new.disk) c.in-Ok.ensures.stood c.in-Ok-run_to_end.ensures.ready.goes_on under_way
    c.in-Ok-run_to_end.ensures.ready.posted both.0 both.1 c.end.ensures.leaves.faults)
    (both_ok c.end.result _ _ c.end.ensures.ended (c.end.ensures.unknown old.faults under_way.stops))

pub returns-in-Ok-run_to_end-clause-lives : goal.returns-in-Ok-run_to_end-clause-lives
returns-in-Ok-run_to_end-clause-lives g c = λ accepts follows.
    let link = g.L.Link.state c.args.link.now in
    let old = g.K.Disk.state c.args.disk.now in
    let under_way = c.in-Ok-run_to_end.ensures.under_way link old.faults (set_view c.args.media.now)
    (under_way_first link (set_view c.args.media.now) c.in-Ok.driver old (g.K.Disk.state c.boot.new.disk) c.in-Ok.ensures.begins.nothing (ap (λ (l : LoaderState). l.set) c.in-Ok.ensures.begins.loader_is) c.boot.ensures.reads.faults) in
    IfOk-weaker c.end.result _ _ (λ drive lives. subst (λ (set : SetView). LivesThrough (media_of set) accepts (steps_of drive.trace.items)) under_way.media_is lives)
    (c.end.ensures.lives accepts (c.in-Ok-run_to_end.ensures.lives accepts (c.in-Ok.ensures.lives accepts follows)))

pub returns-in-Ok-run_to_end-clause-on_setting : goal.returns-in-Ok-run_to_end-clause-on_setting
returns-in-Ok-run_to_end-clause-on_setting g c = λ set image is told.
    let link = g.L.Link.state c.args.link.now in
    let last = g.L.Link.state c.run_to_end.new.link in
    let old = g.K.Disk.state c.args.disk.now in
    let ran = g.K.Disk.state c.run_to_end.new.disk in
    let driver = c.run_to_end.new.driver in
    let begins = c.in-Ok.ensures.on_setting set image is told in
    let on = c.in-Ok-run_to_end.ensures.on_setting set begins.stands in
    let runs : LosesOnlyWork old → RunsOnDisk set true link last old.clock driver ran
    = λ loses. on.held link old.clock (runs_started set link old.clock c.in-Ok.driver (g.K.Disk.state c.boot.new.disk) c.in-Ok.ensures.begins.nothing c.requires.nothing_posted (begins.held loses)) in
    ends_on_setting c.end.result driver set link last old ran (g.K.Disk.state c.end.new.disk) c.end.ensures.ended (λ tied. c.end.ensures.run set on.stands tied) (λ since clocks unit. c.end.ensures.held set since clocks unit)
    (λ either. elim either [
      | inl never ↦ on.goes_on link (λ none. starts_on set c.in-Ok.driver link c.in-Ok.ensures.begins.nothing c.requires.nothing_posted begins.tied) never
      | inr loses ↦ (runs loses).goes_on
    ]) runs

pub returns-in-Ok-run_to_end-clause-leaves : goal.returns-in-Ok-run_to_end-clause-leaves
returns-in-Ok-run_to_end-clause-leaves g c = λ set image is told loses.
    let link = g.L.Link.state c.args.link.now in
    let old = g.K.Disk.state c.args.disk.now in
    let driver = c.run_to_end.new.driver in
    let last = g.K.Disk.state c.run_to_end.new.disk in
    let begins = c.in-Ok.ensures.on_setting set image is told in
    let runs = (c.in-Ok-run_to_end.ensures.on_setting set begins.stands).held link old.clock
    (runs_started set link old.clock c.in-Ok.driver (g.K.Disk.state c.boot.new.disk) c.in-Ok.ensures.begins.nothing c.requires.nothing_posted (begins.held loses)) in
    left_of_run c.the_configuration_changes_by_good_verdicts.ensures.active set _ _ _ _ _
    (history_ended set link (g.L.Link.state c.run_to_end.new.link) old.clock driver last (g.K.Disk.state c.end.new.disk) c.in-Ok-run_to_end.ensures.ready.goes_on runs
    (all_held set last (g.met.K.Disk.wider c.run_to_end.new.disk) (g.met.K.Disk.splits c.run_to_end.new.disk) (g.met.K.Disk.only_now c.run_to_end.new.disk) old.clock runs.clocks driver.steps driver.target runs.held)
    c.end.ensures.leaves.no_more c.end.result (never_link last (g.K.Disk.state c.end.new.disk) c.end.result c.end.ensures.refused))
