use Rattle.std.proofs.Common.{◌≤◌, ◌∙◌, inr, [], ℕ, None, length, sym, ap, subst}
use Rattle.accept_rules.specs.Permissions.{permits}
use Rattle.disk_layout.specs.declared.fault.RecoverFault.{RecoverFault}
use Rattle.fleet_link.specs.FleetLinks.{FleetLinkState}
use Rattle.fleet_link.specs.declared.fleet_turn.FleetRest.TheVariants.{Nothing}
use Rattle.media_check.specs.Sets.{set_view}
use Rattle.target_fleet.proofs.TurnsLeave.{anyway}
use Rattle.loader_cli.specs.FleetReplays.{RunsFleet, fleet_seen}
use Rattle.loader_cli.specs.Texts.{no_configuration}
use Rattle.loader_cli.proofs.FleetRan.{all_stood, fleet_disk_failed, fleet_holds_none, fleet_leaves, fleet_ran, refused_held, refused_memory, told_of_run}
use Rattle.loader_cli.proofs.fleet_replay.run_fleet.Goals as goal

pub new-link-requires : goal.new-link-requires
new-link-requires g c = subst (λ (n : ℕ). n ≤ 8) (sym c.requires.units) c.requires.few

pub returns-in-Ok-clause-runs : goal.returns-in-Ok-clause-runs
returns-in-Ok-clause-runs g c =
    let set = set_view c.args.set.now in
    let run = c.in-Ok.run' in
    let old = c.args.disks.now in
    let new = c.fleet.new.disks in
    let begins = c.new-link.ensures ∙ ap (λ (units : ℕ). record { units = units; posted = []; given = []; rest = Nothing; lines = c.args.script.lines }) c.requires.units in
    told_of_run g.K.Disk.state set c.args.script.lines old new (fleet_seen run) _ _
    (fleet_ran g.K.Disk.state _ _ set (λ fields kept answer said. said.says ∙ ap (λ h. permits h kept) said.same) c.args.script.lines c.fleet.new.link run old new
    c.can_be_told.ensures c.what_a_disk_holds_can_be_listed.ensures.fits c.a_last_finish_is_left.ensures.power
    (λ sets asks unit sessions standing. c.a_fleets_last_finish_completes.ensures (length old) sets asks c.args.script.lines _ unit sessions standing)
    _ begins c.in-Ok.ensures.ended c.in-Ok.ensures.units c.fleet.ensures.leaves.history c.in-Ok.ensures.follows c.in-Ok.ensures.batches)
    c.in_ok-answer-in-Ok.ensures

pub returns-in-Err-Disk-clause-runs : goal.returns-in-Err-Disk-clause-runs
returns-in-Err-Disk-clause-runs g c =
    rw (c.of.ensures.answer, c.of.ensures.fleet)
    (fleet_disk_failed g.K.Disk.state c.args.disks.now c.fleet.new.disks (set_view c.args.set.now) c.args.script.lines c.in-Err-Disk.field-0-is c.in-Err-Disk.ensures.refused)

pub returns-in-Err-NoConfig-clause-runs : goal.returns-in-Err-NoConfig-clause-runs
returns-in-Err-NoConfig-clause-runs g c =
    rw (c.of-in-Err-NoConfig.ensures.answer, c.of-in-Err-NoConfig.ensures.fleet)
    (subst (λ (reason : RecoverFault). RunsFleet g.K.Disk.state (set_view c.args.set.now) c.args.script.lines c.args.disks.now c.fleet.new.disks None 8 (no_configuration reason)) (sym c.in-Err-NoConfig.fault-is)
    (fleet_holds_none g.K.Disk.state c.args.disks.now c.fleet.new.disks (set_view c.args.set.now) c.args.script.lines c.in-Err-NoConfig.field-0-is c.in-Err-NoConfig.ensures.refused))

pub returns-in-Ok-clause-left : goal.returns-in-Ok-clause-left
returns-in-Ok-clause-left g c =
    record {
      as_many = c.fleet.ensures.leaves.same;
      held = inr (all_stood g.K.Disk.state _ _ (set_view c.args.set.now) (λ fields kept answer said. said.says ∙ ap (λ h. permits h kept) said.same) c.in-Ok.run' c.args.disks.now c.fleet.new.disks (c.in-Ok.ensures.ended.units ∙ (ap (λ (link : FleetLinkState). link.units) c.new-link.ensures ∙ c.requires.units)) c.fleet.ensures.leaves.same c.in-Ok.ensures.units);
      leaves = fleet_leaves g.K.Disk.state _ _ (set_view c.args.set.now) (λ fields kept answer said. said.says ∙ ap (λ h. permits h kept) said.same) c.args.disks.now c.fleet.new.disks c.fleet.ensures.leaves.good;
    }

pub returns-in_err-answer-in-Ok-clause-left : goal.returns-in_err-answer-in-Ok-clause-left
returns-in_err-answer-in-Ok-clause-left g c =
    record {
      as_many = c.fleet.ensures.leaves.same;
      held = inr (all_stood g.K.Disk.state _ _ (set_view c.args.set.now) (λ fields kept answer said. said.says ∙ ap (λ h. permits h kept) said.same) c.in-Ok.run' c.args.disks.now c.fleet.new.disks (c.in-Ok.ensures.ended.units ∙ (ap (λ (link : FleetLinkState). link.units) c.new-link.ensures ∙ c.requires.units)) c.fleet.ensures.leaves.same c.in-Ok.ensures.units);
      leaves = fleet_leaves g.K.Disk.state _ _ (set_view c.args.set.now) (λ fields kept answer said. said.says ∙ ap (λ h. permits h kept) said.same) c.args.disks.now c.fleet.new.disks c.fleet.ensures.leaves.good;
    }

pub returns-in-Err-Disk-clause-left : goal.returns-in-Err-Disk-clause-left
returns-in-Err-Disk-clause-left g c =
    record {
      as_many = c.fleet.ensures.leaves.same;
      held = refused_held g.K.Disk.state c.args.disks.now c.fleet.new.disks c.in-Err-Disk.field-0 c.in-Err-Disk.ensures.refused;
      leaves = fleet_leaves g.K.Disk.state _ _ (set_view c.args.set.now) (λ fields kept answer said. said.says ∙ ap (λ h. permits h kept) said.same) c.args.disks.now c.fleet.new.disks c.fleet.ensures.leaves.good;
    }

pub returns-in-Err-NoConfig-clause-left : goal.returns-in-Err-NoConfig-clause-left
returns-in-Err-NoConfig-clause-left g c =
    record {
      as_many = c.fleet.ensures.leaves.same;
      held = refused_held g.K.Disk.state c.args.disks.now c.fleet.new.disks c.in-Err-NoConfig.field-0 c.in-Err-NoConfig.ensures.refused;
      leaves = fleet_leaves g.K.Disk.state _ _ (set_view c.args.set.now) (λ fields kept answer said. said.says ∙ ap (λ h. permits h kept) said.same) c.args.disks.now c.fleet.new.disks c.fleet.ensures.leaves.good;
    }

pub returns-clause-left : goal.returns-clause-left
returns-clause-left g c =
    record {
      as_many = c.fleet.ensures.leaves.same;
      held = refused_held g.K.Disk.state c.args.disks.now c.fleet.new.disks c.in-Err-Memory.field-0 c.in-Err-Memory.ensures.refused;
      leaves = fleet_leaves g.K.Disk.state _ _ (set_view c.args.set.now) (λ fields kept answer said. said.says ∙ ap (λ h. permits h kept) said.same) c.args.disks.now c.fleet.new.disks c.fleet.ensures.leaves.good;
    }

pub returns-in_err-answer-in-Ok-clause-memory : goal.returns-in_err-answer-in-Ok-clause-memory
returns-in_err-answer-in-Ok-clause-memory g c =
    anyway c.from_residual.result _
    (inr (inr (all_stood g.K.Disk.state _ _ (set_view c.args.set.now) (λ fields kept answer said. said.says ∙ ap (λ h. permits h kept) said.same) c.in-Ok.run' c.args.disks.now c.fleet.new.disks
    (c.in-Ok.ensures.ended.units ∙ (ap (λ (link : FleetLinkState). link.units) c.new-link.ensures ∙ c.requires.units)) c.fleet.ensures.leaves.same c.in-Ok.ensures.units)))

pub returns-clause-memory : goal.returns-clause-memory
returns-clause-memory g c = refused_memory g.K.Disk.state c.args.disks.now c.fleet.new.disks c.in-Err-Memory.field-0-is c.in-Err-Memory.ensures.refused
