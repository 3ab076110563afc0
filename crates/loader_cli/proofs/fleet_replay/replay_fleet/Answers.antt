use Rattle.std.proofs.Common.{inl, refl, arith}
use Rattle.std.proofs.lemmas.Result.{IfOk-weaker}
use Rattle.media_check.specs.Sets.{set_view}
use Rattle.target_fleet.proofs.TurnsLeave.{anyway}
use Rattle.loader_cli.specs.FleetReplays.ReplaysFleet.{unread}
use Rattle.loader_cli.specs.Replays.RefusesInputs.{no_text}
use Rattle.loader_cli.proofs.FleetTexts.{ran_fleet_text, untouched_fleet}
use Rattle.target_fleet.proofs.FirstBoots.{all_read_same}
use Rattle.loader_cli.proofs.fleet_replay.replay_fleet.Goals as goal

pub returns-in-Ready-clause-replays : goal.returns-in-Ready-clause-replays
returns-in-Ready-clause-replays g c =
    let reads = rw c.in-Ready.is at (c.in_ok-set.ensures.reads (g.H.Host.faults c.args.host.now) (omega arith)) in
    let inputs = rw (c.as_bytes.ensures.value, c.as_bytes-2.ensures.value) at reads in
    let runs = rw (c.as_bytes-in-Ready.ensures.value, c.as_slice.ensures) at c.run_fleet_text-said.ensures.runs in
    IfOk-weaker c.run_fleet_text-said.result _ _
    (λ answer ran. ran_fleet_text g.K.Disk.state c.args.folder.now c.args.script.now c.in-Ready.text.items _ _ _ (set_view c.in-Ready.set) c.args.disks.now _ _ _ _ inputs ran) runs

pub returns-in-Refused-clause-replays : goal.returns-in-Refused-clause-replays
returns-in-Refused-clause-replays g c =
    let reads = rw c.in-Refused.is at (c.in_ok-set.ensures.reads (g.H.Host.faults c.args.host.now) (omega arith)) in
    let refuses = rw (c.as_bytes.ensures.value, c.as_bytes-2.ensures.value) at reads in
    rw (c.of.ensures.answer, c.of.ensures.fleet) (unread (no_text refuses) refl refl)

pub returns-in-Refused-clause-left : goal.returns-in-Refused-clause-left
returns-in-Refused-clause-left g c =
    record {
      as_many = refl;
      held = inl (all_read_same g.K.Disk.state c.args.disks.now);
      leaves = untouched_fleet g.K.Disk.state g.met.K.Disk.only_now c.a_power_loss_takes_only_work.ensures.holds c.args.disks.now;
    }

pub returns-in_err-set-clause-left : goal.returns-in_err-set-clause-left
returns-in_err-set-clause-left g c =
    record {
      as_many = refl;
      held = inl (all_read_same g.K.Disk.state c.args.disks.now);
      leaves = untouched_fleet g.K.Disk.state g.met.K.Disk.only_now c.a_power_loss_takes_only_work.ensures.holds c.args.disks.now;
    }

pub returns-in_err-set-clause-memory : goal.returns-in_err-set-clause-memory
returns-in_err-set-clause-memory g c = anyway c.from_residual.result _ (inl refl)
