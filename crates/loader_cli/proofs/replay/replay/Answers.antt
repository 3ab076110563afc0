use Rattle.std.proofs.Common.{refl, arith}
use Rattle.std.proofs.lemmas.Result.{IfOk-weaker}
use Rattle.media_check.specs.Sets.{set_view}
use Rattle.loader_cli.specs.Replays.RefusesInputs.{no_text}
use Rattle.loader_cli.specs.Replays.Replays.{unread}
use Rattle.loader_cli.proofs.Left.{untouched_leaves}
use Rattle.loader_cli.proofs.ScriptTexts.{ran_text}
use Rattle.loader_cli.proofs.Touched.{stays}
use Rattle.loader_cli.proofs.replay.replay.Goals as goal

pub returns-in-Ready-clause-replays : goal.returns-in-Ready-clause-replays
returns-in-Ready-clause-replays g c =
    let reads = rw c.in-Ready.is at (c.in_ok-set.ensures.reads (g.H.Host.faults c.args.host.now) (omega arith)) in
    let inputs = rw (c.as_bytes.ensures.value, c.as_bytes-2.ensures.value) at reads in
    let runs = rw (c.as_bytes-in-Ready.ensures.value, c.as_slice.ensures) at c.run_text-said.ensures.runs in
    IfOk-weaker c.run_text-said.result _ _
    (λ answer ran. ran_text c.args.telling c.args.folder.now c.args.script.now c.in-Ready.text.items _ _ _ (set_view c.in-Ready.set) _ _ _ _ _ inputs ran) runs

pub returns-in-Refused-clause-replays : goal.returns-in-Refused-clause-replays
returns-in-Refused-clause-replays g c =
    let reads = rw c.in-Refused.is at (c.in_ok-set.ensures.reads (g.H.Host.faults c.args.host.now) (omega arith)) in
    let refuses = rw (c.as_bytes.ensures.value, c.as_bytes-2.ensures.value) at reads in
    rw (c.of.ensures.answer, c.of.ensures.drive) (unread (no_text refuses) (stays (g.K.Disk.state c.args.disk.now)) refl)

pub returns-in-Refused-clause-leaves : goal.returns-in-Refused-clause-leaves
returns-in-Refused-clause-leaves g c = untouched_leaves (g.K.Disk.state c.args.disk.now) (g.met.K.Disk.only_now c.args.disk.now) (c.a_power_loss_takes_only_work.ensures.holds c.args.disk.now)

pub returns-in_err-set-clause-leaves : goal.returns-in_err-set-clause-leaves
returns-in_err-set-clause-leaves g c = untouched_leaves (g.K.Disk.state c.args.disk.now) (g.met.K.Disk.only_now c.args.disk.now) (c.a_power_loss_takes_only_work.ensures.holds c.args.disk.now)
