use Rattle.std.proofs.Common.{◌≡◌, ◌≤◌, ◌⊎◌, arith, inr, [], None, Some, refl, sym, ap, subst, ◌∙◌}
use Rattle.disk_layout.specs.declared.fault.RecoverFault.{RecoverFault}
use Rattle.exchange_trace.specs.Steps.{steps_of}
use Rattle.link_net.specs.Links.{LinkState}
use Rattle.media_check.specs.Sets.{set_view}
use Rattle.accept_rules.specs.Permissions.{permits}
use Rattle.disk_model.specs.Image.{Image}
use Rattle.bank_store.specs.Fits.{LosesOnlyWork}
use Rattle.disk_layout.specs.Holds.{HoldsConfig, StandingView}
use Rattle.upload_replay.specs.Drives.{IsDrivenRun, NeverBoots}
use Rattle.upload_replay.specs.declared.outcome.DriveFault.TheVariants.{Disk, Link}
use Rattle.loader_cli.specs.Replays.{CountsPower, IsAnyRun, IsScriptRun, RunsScript, RunsTo, run_seen, setting_of}
use Rattle.loader_cli.specs.Replays.RunsTo.{disk_failed}
use Rattle.loader_cli.specs.Texts.{no_configuration}
use Rattle.loader_cli.proofs.Left.{accepts_permitted, run_leaves}
use Rattle.loader_cli.proofs.Replayed.{counts_power, held_run, ran_to, refused_to, script_run, some_standing}
use Rattle.loader_cli.proofs.replay.run_script.Goals as goal

pub returns-in-Ok-clause-runs : goal.returns-in-Ok-clause-runs
returns-in-Ok-clause-runs g c =
    let set = set_view c.args.set.now in
    let run = c.in-Ok.run' in
    let old = g.K.Disk.state c.args.disk.now in
    let new = g.K.Disk.state c.drive.new.disk in
    let is : (start : StandingView) (image : Image) → old.reads ≡ Some image → HoldsConfig image start → NeverBoots (steps_of run.trace.items) ⊎ LosesOnlyWork old → IsScriptRun set c.args.script start (run_seen run)
    = λ start image told holds all. script_run set c.args.script start (run_seen run) c.drive.new.link c.can_be_told.ensures (c.what_a_disk_holds_can_be_listed.ensures.fits image start holds) c.in-Ok.ensures.ended.ordered
    (subst (λ (began : LinkState). IsDrivenRun (setting_of set start) began c.drive.new.link (steps_of run.trace.items) (run_seen run).sessions (run_seen run).standing) c.new-link.ensures
    ((c.in-Ok.ensures.on_setting (setting_of set start) image (record { media = refl; accepts = λ fields kept answer said. said.says ∙ ap (λ h. permits h kept) said.same; start = holds }) told).run all)) in
    let began : c.new-link.result.given ≡ [] = ap (λ (l : LinkState). l.given) c.new-link.ensures in
    let counts : CountsPower (steps_of run.trace.items) old new
    = counts_power (steps_of run.trace.items) run.standing old new _ _ began c.in-Ok.ensures.ended.stops c.in-Ok.ensures.ended.told.given c.drive.ensures.arms in
    let runs : RunsScript set c.args.script old new (run_seen run) = λ start image told holds. (
      is start image told holds,
      λ loses. held_run set c.args.script start old new (run_seen run) c.a_last_finish_is_left.ensures.power c.can_be_told.ensures (c.what_a_disk_holds_can_be_listed.ensures.fits image start holds) (is start image told holds (inr loses)) counts.stops
          ((c.in-Ok.ensures.on_setting (setting_of set start) image (record { media = refl; accepts = λ fields kept answer said. said.says ∙ ap (λ h. permits h kept) said.same; start = holds }) told).moments loses)
          (some_standing run.standing _ ((c.in-Ok.ensures.on_setting (setting_of set start) image (record { media = refl; accepts = λ fields kept answer said. said.says ∙ ap (λ h. permits h kept) said.same; start = holds }) told).rests loses)),
    ) in
    let any : IsAnyRun set old new (run_seen run) = record {
      counts = counts;
      loader = c.in-Ok.ensures.ended.loader;
      lives = c.in-Ok.ensures.lives permits (λ fields kept answer said. said.says ∙ ap (λ h. permits h kept) said.same);
      ordered = c.in-Ok.ensures.ended.ordered;
    } in
    ran_to c.args.telling set c.args.script old new run _ _ c.in-Ok.ensures.ended.stood runs c.in-Ok.ensures.ended.standing c.in-Ok.ensures.ended.stops any c.in_ok-answer-in-Ok.ensures

pub returns-in-Err-Disk-clause-runs : goal.returns-in-Err-Disk-clause-runs
returns-in-Err-Disk-clause-runs g c =
    let is : c.in-Err-Disk.field-0 ≡ Disk = c.in-Err-Disk.field-0-is in
    let failed = c.in-Err-Disk.ensures.refused.disk_failed.failed (cc) in
    rw (c.of.ensures.answer, c.of.ensures.drive)
    (disk_failed refl failed.0 failed.1 (c.in-Err-Disk.ensures.refused.disk_failed.only_reads (cc)) refl refl)

pub returns-in-Err-NoConfig-clause-runs : goal.returns-in-Err-NoConfig-clause-runs
returns-in-Err-NoConfig-clause-runs g c =
    let fault = c.in-Err-NoConfig.fault in
    rw (c.of-in-Err-NoConfig.ensures.answer, c.of-in-Err-NoConfig.ensures.drive)
    (subst (λ (f : RecoverFault). RunsTo c.args.telling (set_view c.args.set.now) c.args.script (g.K.Disk.state c.args.disk.now) (g.K.Disk.state c.drive.new.disk) None 8 (no_configuration f))
    (sym c.in-Err-NoConfig.fault-is)
    (refused_to c.args.telling (set_view c.args.set.now) c.args.script (g.K.Disk.state c.args.disk.now) (g.K.Disk.state c.drive.new.disk) _ _ fault
    (rw c.in-Err-NoConfig.field-0-is at c.in-Err-NoConfig.ensures.refused.no_config)))

pub returns-in-Ok-clause-leaves : goal.returns-in-Ok-clause-leaves
returns-in-Ok-clause-leaves g c =
    run_leaves (set_view c.args.set.now) (g.K.Disk.state c.args.disk.now) (g.K.Disk.state c.drive.new.disk) (λ start image told holds loses.
    (c.drive.ensures.leaves (setting_of (set_view c.args.set.now) start) image (record { media = refl; accepts = λ fields kept answer said. said.says ∙ ap (λ h. permits h kept) said.same; start = holds }) told loses).good accepts_permitted)

pub returns-in_err-answer-in-Ok-clause-leaves : goal.returns-in_err-answer-in-Ok-clause-leaves
returns-in_err-answer-in-Ok-clause-leaves g c =
    run_leaves (set_view c.args.set.now) (g.K.Disk.state c.args.disk.now) (g.K.Disk.state c.drive.new.disk) (λ start image told holds loses.
    (c.drive.ensures.leaves (setting_of (set_view c.args.set.now) start) image (record { media = refl; accepts = λ fields kept answer said. said.says ∙ ap (λ h. permits h kept) said.same; start = holds }) told loses).good accepts_permitted)

pub returns-in-Err-Disk-clause-leaves : goal.returns-in-Err-Disk-clause-leaves
returns-in-Err-Disk-clause-leaves g c =
    run_leaves (set_view c.args.set.now) (g.K.Disk.state c.args.disk.now) (g.K.Disk.state c.drive.new.disk) (λ start image told holds loses.
    (c.drive.ensures.leaves (setting_of (set_view c.args.set.now) start) image (record { media = refl; accepts = λ fields kept answer said. said.says ∙ ap (λ h. permits h kept) said.same; start = holds }) told loses).good accepts_permitted)

pub returns-in-Err-NoConfig-clause-leaves : goal.returns-in-Err-NoConfig-clause-leaves
returns-in-Err-NoConfig-clause-leaves g c =
    run_leaves (set_view c.args.set.now) (g.K.Disk.state c.args.disk.now) (g.K.Disk.state c.drive.new.disk) (λ start image told holds loses.
    (c.drive.ensures.leaves (setting_of (set_view c.args.set.now) start) image (record { media = refl; accepts = λ fields kept answer said. said.says ∙ ap (λ h. permits h kept) said.same; start = holds }) told loses).good accepts_permitted)

pub returns-in-Err-Memory-clause-leaves : goal.returns-in-Err-Memory-clause-leaves
returns-in-Err-Memory-clause-leaves g c =
    run_leaves (set_view c.args.set.now) (g.K.Disk.state c.args.disk.now) (g.K.Disk.state c.drive.new.disk) (λ start image told holds loses.
    (c.drive.ensures.leaves (setting_of (set_view c.args.set.now) start) image (record { media = refl; accepts = λ fields kept answer said. said.says ∙ ap (λ h. permits h kept) said.same; start = holds }) told loses).good accepts_permitted)

pub unreachable-requires : goal.unreachable-requires
unreachable-requires g c =
    let is : c.in-Err-Link.field-0 ≡ Link = c.in-Err-Link.field-0-is in
    let rose : 1 ≤ 0 = c.in-Err-Link.ensures.refused.link_failed.cause.failed (cc) in
    absurd (omega (arith, rose))
