use Rattle.std.proofs.Common.{inl, refl}
use Rattle.std.proofs.lemmas.Result.{IfOk-weaker}
use Rattle.media_check.specs.Sets.{set_view}
use Rattle.loader_cli.specs.FleetReplays.FleetRunsText.{says}
use Rattle.loader_cli.proofs.FleetTexts.{says_no_fleet_script, untouched_fleet}
use Rattle.target_fleet.proofs.FirstBoots.{all_read_same}
use Rattle.target_fleet.proofs.TurnsLeave.{anyway}
use Rattle.loader_cli.proofs.fleet_replay.run_fleet_text.Goals as goal

pub returns-in-Ok-clause-runs : goal.returns-in-Ok-clause-runs
returns-in-Ok-clause-runs g c =
    IfOk-weaker c.run_fleet.result _ _ (λ answer runs. says c.in-Ok.script.lines c.in-Ok.ensures.found runs) c.run_fleet.ensures.runs

pub returns-in_ok-refused_script-in-Err-clause-runs : goal.returns-in_ok-refused_script-in-Err-clause-runs
returns-in_ok-refused_script-in-Err-clause-runs g c =
    rw (c.of.ensures.answer, c.of.ensures.fleet)
    (says_no_fleet_script g.K.Disk.state c.args.name.now c.args.text.now (set_view c.args.set.now) c.args.disks.now c.in-Err.fault _ c.in-Err.ensures.refused c.in_ok-refused_script-in-Err.ensures)

pub returns-in_ok-refused_script-in-Err-clause-left : goal.returns-in_ok-refused_script-in-Err-clause-left
returns-in_ok-refused_script-in-Err-clause-left g c =
    record {
      as_many = refl;
      held = inl (all_read_same g.K.Disk.state c.args.disks.now);
      leaves = untouched_fleet g.K.Disk.state g.met.K.Disk.only_now c.a_power_loss_takes_only_work.ensures.holds c.args.disks.now;
    }

pub returns-in_err-refused_script-in-Err-clause-left : goal.returns-in_err-refused_script-in-Err-clause-left
returns-in_err-refused_script-in-Err-clause-left g c =
    record {
      as_many = refl;
      held = inl (all_read_same g.K.Disk.state c.args.disks.now);
      leaves = untouched_fleet g.K.Disk.state g.met.K.Disk.only_now c.a_power_loss_takes_only_work.ensures.holds c.args.disks.now;
    }

pub returns-in_err-refused_script-in-Err-clause-memory : goal.returns-in_err-refused_script-in-Err-clause-memory
returns-in_err-refused_script-in-Err-clause-memory g c = anyway c.from_residual.result _ (inl refl)
