use Rattle.std.proofs.lemmas.Result.{IfOk-weaker}
use Rattle.media_check.specs.Sets.{set_view}
use Rattle.loader_cli.specs.Replays.RunsText.{says}
use Rattle.loader_cli.proofs.Left.{untouched_leaves}
use Rattle.loader_cli.proofs.ScriptTexts.{says_no_script}
use Rattle.loader_cli.proofs.replay.run_text.Goals as goal

pub returns-in-Ok-clause-runs : goal.returns-in-Ok-clause-runs
returns-in-Ok-clause-runs g c = IfOk-weaker c.run_script.result _ _ (λ answer runs. says c.in-Ok.script c.in-Ok.ensures.found runs) c.run_script.ensures.runs

pub returns-in_ok-refused_script-in-Err-clause-runs : goal.returns-in_ok-refused_script-in-Err-clause-runs
returns-in_ok-refused_script-in-Err-clause-runs g c =
    rw (c.of.ensures.answer, c.of.ensures.drive)
    (says_no_script c.args.telling c.args.name.now c.args.text.now (set_view c.args.set.now) (g.K.Disk.state c.args.disk.now) c.in-Err.fault _ c.in-Err.ensures.refused c.in_ok-refused_script-in-Err.ensures)

pub returns-in_ok-refused_script-in-Err-clause-leaves : goal.returns-in_ok-refused_script-in-Err-clause-leaves
returns-in_ok-refused_script-in-Err-clause-leaves g c = untouched_leaves (g.K.Disk.state c.args.disk.now) (g.met.K.Disk.only_now c.args.disk.now) (c.a_power_loss_takes_only_work.ensures.holds c.args.disk.now)

pub returns-in_err-refused_script-in-Err-clause-leaves : goal.returns-in_err-refused_script-in-Err-clause-leaves
returns-in_err-refused_script-in-Err-clause-leaves g c = untouched_leaves (g.K.Disk.state c.args.disk.now) (g.met.K.Disk.only_now c.args.disk.now) (c.a_power_loss_takes_only_work.ensures.holds c.args.disk.now)
