use Rattle.std.proofs.Common.{refl}
use Rattle.std.proofs.lemmas.Result.{IfErr-weaker, IfOk-weaker}
use Rattle.media_check.specs.Sets.{set_view}
use Rattle.loader_cli.specs.Trials.Trials.{tried, no_target}
use Rattle.loader_cli.specs.declared.replay.Telling.TheVariants.{Report}
use Rattle.loader_cli.proofs.Left.{leaves_since, reads_leave}
use Rattle.loader_cli.proofs.Outputs.{leaves_running, names_the_condition, not_of_disk}
use Rattle.loader_cli.proofs.Tried.{held_or_read, names_target, out_since, run_since}
use Rattle.loader_cli.proofs.trial.trial.Goals as goal

pub returns-in-Ok-script_for-clause-tries : goal.returns-in-Ok-script_for-clause-tries
returns-in-Ok-script_for-clause-tries g c =
    let old = g.K.Disk.state c.args.disk.now in
    let mid = g.K.Disk.state c.survey.new.disk in
    let new = g.K.Disk.state c.run_script-said.new.disk in
    let id = c.in-Ok.surveyed.identity in
    let set = set_view c.in_ok-set-in-Ok.set in
    let read = c.in-Ok.ensures.reads_disk in
    IfOk-weaker c.run_script-said.result _ _
    (λ said runs. tried id set (names_target old.reads c.in-Ok.surveyed c.in-Ok.ensures.found) c.in_ok-set-in-Ok.ensures
    (run_since Report set _ old mid new _ _ _ read.only_reads read.ok.reads (c.a_power_loss_takes_only_work.ensures.still c.args.disk.now c.survey.new.disk read.ok.reads read.only_reads.now) (rw c.in-Ok-script_for.ensures at runs))) c.run_script-said.ensures.runs

pub returns-in_default-clause-tries : goal.returns-in_default-clause-tries
returns-in_default-clause-tries g c =
    let fault = c.in-Err.fault in
    let other = not_of_disk fault c.in_default.not-DiskFailed c.in_default.not-Memory in
    rw (c.of-in_default.ensures.answer, c.of-in_default.ensures.drive)
    (no_target fault other (record {
      none = λ image told. names_the_condition image fault other (c.in-Err.ensures.refused image told);
      only_reads = c.in-Err.ensures.reads_disk.only_reads;
      running = leaves_running _ _ fault other c.in-Err.ensures.reads_disk.err;
    }) refl refl refl)

pub returns-in-Ok-script_for-clause-leaves : goal.returns-in-Ok-script_for-clause-leaves
returns-in-Ok-script_for-clause-leaves g c =
    let read = c.in-Ok.ensures.reads_disk in
    leaves_since (g.K.Disk.state c.args.disk.now) (g.K.Disk.state c.survey.new.disk) (g.K.Disk.state c.run_script-said.new.disk) read.only_reads read.ok.reads
    (c.a_power_loss_takes_only_work.ensures.still c.args.disk.now c.survey.new.disk read.ok.reads read.only_reads.now) c.run_script-said.ensures.leaves

pub returns-in_err-set-in-Ok-clause-leaves : goal.returns-in_err-set-in-Ok-clause-leaves
returns-in_err-set-in-Ok-clause-leaves g c = reads_leave (g.K.Disk.state c.args.disk.now) (g.met.K.Disk.only_now c.args.disk.now) (c.a_power_loss_takes_only_work.ensures.holds c.args.disk.now) (g.K.Disk.state c.survey.new.disk) c.survey.ensures.reads_disk.only_reads

pub returns-in-Err-script_for-clause-leaves : goal.returns-in-Err-script_for-clause-leaves
returns-in-Err-script_for-clause-leaves g c = reads_leave (g.K.Disk.state c.args.disk.now) (g.met.K.Disk.only_now c.args.disk.now) (c.a_power_loss_takes_only_work.ensures.holds c.args.disk.now) (g.K.Disk.state c.survey.new.disk) c.survey.ensures.reads_disk.only_reads

pub returns-in_default-clause-leaves : goal.returns-in_default-clause-leaves
returns-in_default-clause-leaves g c = reads_leave (g.K.Disk.state c.args.disk.now) (g.met.K.Disk.only_now c.args.disk.now) (c.a_power_loss_takes_only_work.ensures.holds c.args.disk.now) (g.K.Disk.state c.survey.new.disk) c.survey.ensures.reads_disk.only_reads

pub returns-in-Memory-clause-leaves : goal.returns-in-Memory-clause-leaves
returns-in-Memory-clause-leaves g c =
    reads_leave (g.K.Disk.state c.args.disk.now) (g.met.K.Disk.only_now c.args.disk.now) (c.a_power_loss_takes_only_work.ensures.holds c.args.disk.now) (g.K.Disk.state c.survey.new.disk) c.survey.ensures.reads_disk.only_reads

pub returns-in-DiskFailed-clause-leaves : goal.returns-in-DiskFailed-clause-leaves
returns-in-DiskFailed-clause-leaves g c =
    reads_leave (g.K.Disk.state c.args.disk.now) (g.met.K.Disk.only_now c.args.disk.now) (c.a_power_loss_takes_only_work.ensures.holds c.args.disk.now) (g.K.Disk.state c.survey.new.disk) c.survey.ensures.reads_disk.only_reads

pub returns-in-Ok-script_for-clause-held : goal.returns-in-Ok-script_for-clause-held
returns-in-Ok-script_for-clause-held g c =
    let read = c.in-Ok.ensures.reads_disk in
    held_or_read (g.K.Disk.state c.args.disk.now) (g.K.Disk.state c.survey.new.disk) (g.K.Disk.state c.run_script-said.new.disk) read.only_reads read.ok.reads c.run_script-said.ensures.held

pub returns-in-Ok-script_for-clause-memory : goal.returns-in-Ok-script_for-clause-memory
returns-in-Ok-script_for-clause-memory g c =
    let read = c.in-Ok.ensures.reads_disk in
    IfErr-weaker c.run_script-said.result _ _ (λ fault out. out_since (g.K.Disk.state c.args.disk.now) (g.K.Disk.state c.survey.new.disk) (g.K.Disk.state c.run_script-said.new.disk) read.only_reads read.ok.reads out)
    c.run_script-said.ensures.memory
