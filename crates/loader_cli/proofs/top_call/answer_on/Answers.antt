use Rattle.std.proofs.Common.{refl}
use Rattle.std.proofs.lemmas.Result.{IfOk-weaker}
use Rattle.loader_cli.specs.Answers.{status_of}
use Rattle.loader_cli.specs.Builds.{IsNameBuilt, IsNameMade}
use Rattle.loader_cli.specs.Commands.CommandView.{build, check, list, make, replay, show, trial, wire}
use Rattle.loader_cli.specs.Runs.{IsWrittenName}
use Rattle.loader_cli.specs.Runs.IsWrittenName.{built, made}
use Rattle.loader_cli.specs.Runs.Says.{builds, checks, formats, lists, makes, replays, rolls_back, shows, traces, tries}
use Rattle.loader_cli.proofs.Left.{reads_leave, untouched_leaves}
use Rattle.loader_cli.proofs.OtherFiles.{sets_more}
use Rattle.loader_cli.proofs.Replayed.{none_failed}
use Rattle.loader_cli.proofs.RolledBack.{rollback_runs}
use Rattle.loader_cli.proofs.ToldAll.{alone_out, alone_tells, format_runs, list_runs, never_fails, run_out, run_tells, runs_anyway}
use Rattle.loader_cli.proofs.Touched.{disk_formatted, disk_listed, disk_rolled_back, disk_run, disk_unused, host_read, host_unused, host_written, leaves_formatting, leaves_rolled_back, leaves_running}
use Rattle.loader_cli.proofs.top_call.answer_on.Goals as goal

pub returns-in-List-clause-answers : goal.returns-in-List-clause-answers
returns-in-List-clause-answers g c =
    λ words asked.
    let command = rw c.in-List.is at asked in
    record {
      tells = alone_tells words (g.K.Disk.state c.args.disk.now) (g.K.Disk.state c.list.new.disk) (g.H.Host.files c.args.host.now) (g.H.Host.files c.args.host.now) (g.H.Host.faults c.args.host.now) (g.H.Host.faults c.args.host.now) c.list.result c.alone.result c.alone.ensures.same
          (IfOk-weaker c.list.result _ _ (λ answer says. lists command says) c.list.ensures.says) (none_failed status_of (g.H.Host.faults c.args.host.now) (g.H.Host.faults c.args.host.now) c.list.result refl)
          (IfOk-weaker c.list.result _ _ (λ answer says. list_runs (g.K.Disk.state c.args.disk.now) (g.K.Disk.state c.list.new.disk) _ _ says) c.list.ensures.says);
      no_memory = alone_out words (g.K.Disk.state c.args.disk.now) (g.K.Disk.state c.list.new.disk) (g.H.Host.files c.args.host.now) (g.H.Host.files c.args.host.now) (g.H.Host.faults c.args.host.now) (g.H.Host.faults c.args.host.now) c.list.result c.alone.result c.alone.ensures.same (none_failed status_of (g.H.Host.faults c.args.host.now) (g.H.Host.faults c.args.host.now) c.list.result refl) c.list.ensures.memory;
      disk = disk_listed words c.args.disk.now c.list.new.disk (g.K.Disk.state c.args.disk.now) (g.K.Disk.state c.list.new.disk) command c.list.ensures.looks;
      host = host_unused words c.args.host.now (g.H.Host.files c.args.host.now);
      leaves = leaves_running words (g.K.Disk.state c.args.disk.now) (g.K.Disk.state c.list.new.disk) list command (λ no. no)
          (reads_leave (g.K.Disk.state c.args.disk.now) (g.met.K.Disk.only_now c.args.disk.now) (c.a_power_loss_takes_only_work.ensures.holds c.args.disk.now) (g.K.Disk.state c.list.new.disk) c.list.ensures.looks.only_reads);
    }

pub returns-in-Format-clause-answers : goal.returns-in-Format-clause-answers
returns-in-Format-clause-answers g c =
    λ words asked.
    let command = rw c.in-Format.is at asked in
    record {
      tells = alone_tells words (g.K.Disk.state c.args.disk.now) (g.K.Disk.state c.format_disk.new.disk) (g.H.Host.files c.args.host.now) (g.H.Host.files c.args.host.now) (g.H.Host.faults c.args.host.now) (g.H.Host.faults c.args.host.now) c.format_disk.result c.alone-in-Format.result c.alone-in-Format.ensures.same
          (IfOk-weaker c.format_disk.result _ _ (λ answer says. formats c.in-Format.identity command says) c.format_disk.ensures.says) (none_failed status_of (g.H.Host.faults c.args.host.now) (g.H.Host.faults c.args.host.now) c.format_disk.result refl)
          (IfOk-weaker c.format_disk.result _ _ (λ answer says. format_runs (g.K.Disk.state c.args.disk.now) (g.K.Disk.state c.format_disk.new.disk) c.in-Format.identity _ _ says) c.format_disk.ensures.says);
      no_memory = alone_out words (g.K.Disk.state c.args.disk.now) (g.K.Disk.state c.format_disk.new.disk) (g.H.Host.files c.args.host.now) (g.H.Host.files c.args.host.now) (g.H.Host.faults c.args.host.now) (g.H.Host.faults c.args.host.now) c.format_disk.result c.alone-in-Format.result c.alone-in-Format.ensures.same (none_failed status_of (g.H.Host.faults c.args.host.now) (g.H.Host.faults c.args.host.now) c.format_disk.result refl) c.format_disk.ensures.memory;
      disk = disk_formatted words c.args.disk.now c.format_disk.new.disk (g.K.Disk.state c.args.disk.now) (g.K.Disk.state c.format_disk.new.disk) c.in-Format.identity command c.format_disk.ensures.power;
      host = host_unused words c.args.host.now (g.H.Host.files c.args.host.now);
      leaves = leaves_formatting words (g.K.Disk.state c.args.disk.now) (g.K.Disk.state c.format_disk.new.disk) c.in-Format.identity command c.format_disk.ensures.while_formatting;
    }

pub returns-in-Show-clause-answers : goal.returns-in-Show-clause-answers
returns-in-Show-clause-answers g c =
    λ words asked.
    let command = rw c.in-Show.is at asked in
    record {
      tells = alone_tells words (g.K.Disk.state c.args.disk.now) (g.K.Disk.state c.args.disk.now) (g.H.Host.files c.args.host.now) (g.H.Host.files c.show.new.host) (g.H.Host.faults c.args.host.now) (g.H.Host.faults c.show.new.host) c.show.result c.alone-in-Show.result c.alone-in-Show.ensures.same
          (IfOk-weaker c.show.result _ _ (λ answer says. shows c.in-Show.kind c.in-Show.file.now command says) c.show.ensures.shows) c.show.ensures.faults
          (never_fails c.show.result _ (g.K.Disk.state c.args.disk.now) c.requires.running);
      no_memory = alone_out words (g.K.Disk.state c.args.disk.now) (g.K.Disk.state c.args.disk.now) (g.H.Host.files c.args.host.now) (g.H.Host.files c.show.new.host) (g.H.Host.faults c.args.host.now) (g.H.Host.faults c.show.new.host) c.show.result c.alone-in-Show.result c.alone-in-Show.ensures.same c.show.ensures.faults (runs_anyway c.show.result (g.K.Disk.state c.args.disk.now) (g.K.Disk.state c.args.disk.now) c.requires.running);
      disk = disk_unused words c.args.disk.now (g.K.Disk.state c.args.disk.now);
      host = host_read words c.args.host.now c.show.new.host (g.H.Host.files c.args.host.now) (g.H.Host.files c.show.new.host) (show c.in-Show.kind c.in-Show.file.now) command tt c.show.ensures.kept;
      leaves = leaves_running words (g.K.Disk.state c.args.disk.now) (g.K.Disk.state c.args.disk.now) (show c.in-Show.kind c.in-Show.file.now) command (λ no. no)
          (untouched_leaves (g.K.Disk.state c.args.disk.now) (g.met.K.Disk.only_now c.args.disk.now) (c.a_power_loss_takes_only_work.ensures.holds c.args.disk.now));
    }

pub returns-in-Check-clause-answers : goal.returns-in-Check-clause-answers
returns-in-Check-clause-answers g c =
    λ words asked.
    let command = rw c.in-Check.is at asked in
    record {
      tells = alone_tells words (g.K.Disk.state c.args.disk.now) (g.K.Disk.state c.args.disk.now) (g.H.Host.files c.args.host.now) (g.H.Host.files c.check.new.host) (g.H.Host.faults c.args.host.now) (g.H.Host.faults c.check.new.host) c.check.result c.alone-in-Check.result c.alone-in-Check.ensures.same
          (IfOk-weaker c.check.result _ _ (λ answer says. checks c.in-Check.folder.now command says) c.check.ensures.checks) c.check.ensures.faults
          (never_fails c.check.result _ (g.K.Disk.state c.args.disk.now) c.requires.running);
      no_memory = alone_out words (g.K.Disk.state c.args.disk.now) (g.K.Disk.state c.args.disk.now) (g.H.Host.files c.args.host.now) (g.H.Host.files c.check.new.host) (g.H.Host.faults c.args.host.now) (g.H.Host.faults c.check.new.host) c.check.result c.alone-in-Check.result c.alone-in-Check.ensures.same c.check.ensures.faults (runs_anyway c.check.result (g.K.Disk.state c.args.disk.now) (g.K.Disk.state c.args.disk.now) c.requires.running);
      disk = disk_unused words c.args.disk.now (g.K.Disk.state c.args.disk.now);
      host = host_read words c.args.host.now c.check.new.host (g.H.Host.files c.args.host.now) (g.H.Host.files c.check.new.host) (check c.in-Check.folder.now) command tt c.check.ensures.kept;
      leaves = leaves_running words (g.K.Disk.state c.args.disk.now) (g.K.Disk.state c.args.disk.now) (check c.in-Check.folder.now) command (λ no. no)
          (untouched_leaves (g.K.Disk.state c.args.disk.now) (g.met.K.Disk.only_now c.args.disk.now) (c.a_power_loss_takes_only_work.ensures.holds c.args.disk.now));
    }

pub returns-in-Build-clause-answers : goal.returns-in-Build-clause-answers
returns-in-Build-clause-answers g c =
    λ words asked.
    let command = rw c.in-Build.is at asked in
    record {
      tells = alone_tells words (g.K.Disk.state c.args.disk.now) (g.K.Disk.state c.args.disk.now) (g.H.Host.files c.args.host.now) (g.H.Host.files c.build.new.host) (g.H.Host.faults c.args.host.now) (g.H.Host.faults c.build.new.host) c.build.result c.alone-in-Build.result c.alone-in-Build.ensures.same
          (IfOk-weaker c.build.result _ _ (λ answer says. builds c.in-Build.recipe.now c.in-Build.folder.now command says) c.build.ensures.says) c.build.ensures.faults
          (never_fails c.build.result _ (g.K.Disk.state c.args.disk.now) c.requires.running);
      no_memory = alone_out words (g.K.Disk.state c.args.disk.now) (g.K.Disk.state c.args.disk.now) (g.H.Host.files c.args.host.now) (g.H.Host.files c.build.new.host) (g.H.Host.faults c.args.host.now) (g.H.Host.faults c.build.new.host) c.build.result c.alone-in-Build.result c.alone-in-Build.ensures.same c.build.ensures.faults (runs_anyway c.build.result (g.K.Disk.state c.args.disk.now) (g.K.Disk.state c.args.disk.now) c.requires.running);
      disk = disk_unused words c.args.disk.now (g.K.Disk.state c.args.disk.now);
      host = let recipe = c.in-Build.recipe.now in
          let folder = c.in-Build.folder.now in
          host_written words c.args.host.now c.build.new.host (g.H.Host.files c.args.host.now) (g.H.Host.files c.build.new.host) (build c.in-Build.recipe.now c.in-Build.folder.now) command tt tt
          (sets_more (λ told. IsNameBuilt recipe folder told) (λ told. IsWrittenName words told) (g.H.Host.files c.args.host.now) (g.H.Host.files c.args.host.now) (g.H.Host.files c.build.new.host) refl (λ told is name one. built recipe folder command one) c.build.ensures.others);
      leaves = leaves_running words (g.K.Disk.state c.args.disk.now) (g.K.Disk.state c.args.disk.now) (build c.in-Build.recipe.now c.in-Build.folder.now) command (λ no. no)
          (untouched_leaves (g.K.Disk.state c.args.disk.now) (g.met.K.Disk.only_now c.args.disk.now) (c.a_power_loss_takes_only_work.ensures.holds c.args.disk.now));
    }

pub returns-in-Make-clause-answers : goal.returns-in-Make-clause-answers
returns-in-Make-clause-answers g c =
    λ words asked.
    let command = rw c.in-Make.is at asked in
    record {
      tells = alone_tells words (g.K.Disk.state c.args.disk.now) (g.K.Disk.state c.args.disk.now) (g.H.Host.files c.args.host.now) (g.H.Host.files c.make.new.host) (g.H.Host.faults c.args.host.now) (g.H.Host.faults c.make.new.host) c.make.result c.alone-in-Make.result c.alone-in-Make.ensures.same
          (IfOk-weaker c.make.result _ _ (λ answer says. makes c.in-Make.number c.in-Make.folder.now command says) c.make.ensures.says) c.make.ensures.faults
          (never_fails c.make.result _ (g.K.Disk.state c.args.disk.now) c.requires.running);
      no_memory = alone_out words (g.K.Disk.state c.args.disk.now) (g.K.Disk.state c.args.disk.now) (g.H.Host.files c.args.host.now) (g.H.Host.files c.make.new.host) (g.H.Host.faults c.args.host.now) (g.H.Host.faults c.make.new.host) c.make.result c.alone-in-Make.result c.alone-in-Make.ensures.same c.make.ensures.faults (runs_anyway c.make.result (g.K.Disk.state c.args.disk.now) (g.K.Disk.state c.args.disk.now) c.requires.running);
      disk = disk_unused words c.args.disk.now (g.K.Disk.state c.args.disk.now);
      host = let number = c.in-Make.number in
          let folder = c.in-Make.folder.now in
          host_written words c.args.host.now c.make.new.host (g.H.Host.files c.args.host.now) (g.H.Host.files c.make.new.host) (make c.in-Make.number c.in-Make.folder.now) command tt tt
          (sets_more (λ told. IsNameMade number folder) (λ told. IsWrittenName words told) (g.H.Host.files c.args.host.now) (g.H.Host.files c.args.host.now) (g.H.Host.files c.make.new.host) refl (λ told is name one. made number folder command one) c.make.ensures.others);
      leaves = leaves_running words (g.K.Disk.state c.args.disk.now) (g.K.Disk.state c.args.disk.now) (make c.in-Make.number c.in-Make.folder.now) command (λ no. no)
          (untouched_leaves (g.K.Disk.state c.args.disk.now) (g.met.K.Disk.only_now c.args.disk.now) (c.a_power_loss_takes_only_work.ensures.holds c.args.disk.now));
    }

pub returns-in-Replay-clause-answers : goal.returns-in-Replay-clause-answers
returns-in-Replay-clause-answers g c =
    λ words asked.
    let command = rw c.in-Replay.is at asked in
    record {
      tells = run_tells words (g.K.Disk.state c.args.disk.now) (g.K.Disk.state c.replay.new.disk) (g.H.Host.files c.args.host.now) (g.H.Host.files c.replay.new.host) (g.H.Host.faults c.args.host.now) (g.H.Host.faults c.replay.new.host) c.replay.result (replay c.in-Replay.folder.now c.in-Replay.script.now) command tt
          (IfOk-weaker c.replay.result _ _ (λ answer says. replays c.in-Replay.folder.now c.in-Replay.script.now command says) c.replay.ensures.replays) c.replay.ensures.faults;
      no_memory = run_out words (g.K.Disk.state c.args.disk.now) (g.K.Disk.state c.replay.new.disk) (g.H.Host.files c.args.host.now) (g.H.Host.files c.replay.new.host) (g.H.Host.faults c.args.host.now) (g.H.Host.faults c.replay.new.host) c.replay.result (replay c.in-Replay.folder.now c.in-Replay.script.now) command tt c.replay.ensures.faults c.replay.ensures.memory;
      disk = disk_run words c.args.disk.now c.replay.new.disk (g.K.Disk.state c.args.disk.now) (g.K.Disk.state c.replay.new.disk) (replay c.in-Replay.folder.now c.in-Replay.script.now) command tt tt tt c.an_image_holds_one_configuration.ensures.not_both c.replay.ensures.held;
      host = host_read words c.args.host.now c.replay.new.host (g.H.Host.files c.args.host.now) (g.H.Host.files c.replay.new.host) (replay c.in-Replay.folder.now c.in-Replay.script.now) command tt c.replay.ensures.kept;
      leaves = leaves_running words (g.K.Disk.state c.args.disk.now) (g.K.Disk.state c.replay.new.disk) (replay c.in-Replay.folder.now c.in-Replay.script.now) command (λ no. no) c.replay.ensures.leaves;
    }

pub returns-in-Wire-clause-answers : goal.returns-in-Wire-clause-answers
returns-in-Wire-clause-answers g c =
    λ words asked.
    let command = rw c.in-Wire.is at asked in
    record {
      tells = run_tells words (g.K.Disk.state c.args.disk.now) (g.K.Disk.state c.replay-in-Wire.new.disk) (g.H.Host.files c.args.host.now) (g.H.Host.files c.replay-in-Wire.new.host) (g.H.Host.faults c.args.host.now) (g.H.Host.faults c.replay-in-Wire.new.host) c.replay-in-Wire.result (wire c.in-Wire.folder.now c.in-Wire.script.now) command tt
          (IfOk-weaker c.replay-in-Wire.result _ _ (λ answer says. traces c.in-Wire.folder.now c.in-Wire.script.now command says) c.replay-in-Wire.ensures.replays) c.replay-in-Wire.ensures.faults;
      no_memory = run_out words (g.K.Disk.state c.args.disk.now) (g.K.Disk.state c.replay-in-Wire.new.disk) (g.H.Host.files c.args.host.now) (g.H.Host.files c.replay-in-Wire.new.host) (g.H.Host.faults c.args.host.now) (g.H.Host.faults c.replay-in-Wire.new.host) c.replay-in-Wire.result (wire c.in-Wire.folder.now c.in-Wire.script.now) command tt c.replay-in-Wire.ensures.faults c.replay-in-Wire.ensures.memory;
      disk = disk_run words c.args.disk.now c.replay-in-Wire.new.disk (g.K.Disk.state c.args.disk.now) (g.K.Disk.state c.replay-in-Wire.new.disk) (wire c.in-Wire.folder.now c.in-Wire.script.now) command tt tt tt c.an_image_holds_one_configuration.ensures.not_both c.replay-in-Wire.ensures.held;
      host = host_read words c.args.host.now c.replay-in-Wire.new.host (g.H.Host.files c.args.host.now) (g.H.Host.files c.replay-in-Wire.new.host) (wire c.in-Wire.folder.now c.in-Wire.script.now) command tt c.replay-in-Wire.ensures.kept;
      leaves = leaves_running words (g.K.Disk.state c.args.disk.now) (g.K.Disk.state c.replay-in-Wire.new.disk) (wire c.in-Wire.folder.now c.in-Wire.script.now) command (λ no. no) c.replay-in-Wire.ensures.leaves;
    }

pub returns-in-Trial-clause-answers : goal.returns-in-Trial-clause-answers
returns-in-Trial-clause-answers g c =
    λ words asked.
    let command = rw c.in-Trial.is at asked in
    record {
      tells = run_tells words (g.K.Disk.state c.args.disk.now) (g.K.Disk.state c.trial.new.disk) (g.H.Host.files c.args.host.now) (g.H.Host.files c.args.host.now) (g.H.Host.faults c.args.host.now) (g.H.Host.faults c.args.host.now) c.trial.result (trial c.in-Trial.number) command tt
          (IfOk-weaker c.trial.result _ _ (λ answer says. tries c.in-Trial.number command says) c.trial.ensures.tries) (none_failed _ (g.H.Host.faults c.args.host.now) (g.H.Host.faults c.args.host.now) c.trial.result refl);
      no_memory = run_out words (g.K.Disk.state c.args.disk.now) (g.K.Disk.state c.trial.new.disk) (g.H.Host.files c.args.host.now) (g.H.Host.files c.args.host.now) (g.H.Host.faults c.args.host.now) (g.H.Host.faults c.args.host.now) c.trial.result (trial c.in-Trial.number) command tt (none_failed _ (g.H.Host.faults c.args.host.now) (g.H.Host.faults c.args.host.now) c.trial.result refl) c.trial.ensures.memory;
      disk = disk_run words c.args.disk.now c.trial.new.disk (g.K.Disk.state c.args.disk.now) (g.K.Disk.state c.trial.new.disk) (trial c.in-Trial.number) command tt tt tt c.an_image_holds_one_configuration.ensures.not_both c.trial.ensures.held;
      host = host_unused words c.args.host.now (g.H.Host.files c.args.host.now);
      leaves = leaves_running words (g.K.Disk.state c.args.disk.now) (g.K.Disk.state c.trial.new.disk) (trial c.in-Trial.number) command (λ no. no) c.trial.ensures.leaves;
    }

pub returns-in-Rollback-clause-answers : goal.returns-in-Rollback-clause-answers
returns-in-Rollback-clause-answers g c =
    λ words asked.
    let command = rw c.in-Rollback.is at asked in
    record {
      tells = alone_tells words (g.K.Disk.state c.args.disk.now) (g.K.Disk.state c.rollback.new.disk) (g.H.Host.files c.args.host.now) (g.H.Host.files c.args.host.now) (g.H.Host.faults c.args.host.now) (g.H.Host.faults c.args.host.now) c.rollback.result c.alone-in-Rollback.result c.alone-in-Rollback.ensures.same
          (IfOk-weaker c.rollback.result _ _ (λ answer says. rolls_back command says) c.rollback.ensures.says) (none_failed status_of (g.H.Host.faults c.args.host.now) (g.H.Host.faults c.args.host.now) c.rollback.result refl)
          (IfOk-weaker c.rollback.result _ _ (λ answer says. rollback_runs (g.K.Disk.state c.args.disk.now) (g.K.Disk.state c.rollback.new.disk) _ _ says) c.rollback.ensures.says);
      no_memory = alone_out words (g.K.Disk.state c.args.disk.now) (g.K.Disk.state c.rollback.new.disk) (g.H.Host.files c.args.host.now) (g.H.Host.files c.args.host.now) (g.H.Host.faults c.args.host.now) (g.H.Host.faults c.args.host.now) c.rollback.result c.alone-in-Rollback.result c.alone-in-Rollback.ensures.same (none_failed status_of (g.H.Host.faults c.args.host.now) (g.H.Host.faults c.args.host.now) c.rollback.result refl) c.rollback.ensures.memory;
      disk = disk_rolled_back words c.args.disk.now c.rollback.new.disk (g.K.Disk.state c.args.disk.now) (g.K.Disk.state c.rollback.new.disk) command c.an_image_holds_one_configuration.ensures.not_both c.rollback.ensures.power c.rollback.ensures.leaves;
      host = host_unused words c.args.host.now (g.H.Host.files c.args.host.now);
      leaves = leaves_rolled_back words (g.K.Disk.state c.args.disk.now) (g.K.Disk.state c.rollback.new.disk) command c.rollback.ensures.leaves;
    }
