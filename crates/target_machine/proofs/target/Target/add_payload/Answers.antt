use Rattle.std.proofs.Common.{◌≡◌, rules, Err, Ok, Some, ap, option_map, refl, subst, sym, ◌∙◌}
use Rattle.load_intake.specs.Contents.{InstallsRow}
use Rattle.target_machine.specs.Decisions.{TargetState}
use Rattle.target_machine.specs.Machine.{session_seen}
use Rattle.target_machine.proofs.Bringing.{take_live}
use Rattle.target_machine.proofs.Holding.{fails_so}
use Rattle.target_machine.proofs.Turning.{still_installed}
use Rattle.target_machine.proofs.target.Target.add_payload.Goals as goal

pub invariant_of-self-inside-in-Err : goal.invariant_of-self-inside-in-Err
invariant_of-self-inside-in-Err g c =
    still_installed _ _ _ c.add_payload.new.store c.add_payload.ensures.keeps.size (rw c.in-Err.is at c.add_payload.ensures.keeps.known) c.self-inside.invariant

pub returns-in-Ok-clause-brings : goal.returns-in-Ok-clause-brings
returns-in-Ok-clause-brings g c = λ x kept holds.
    let loads = c.self.inside.installed.active.loads in
    let there : c.self.inside.live ≡ Some c.in-Some.session = search rules in
    let live = sym (ap (λ (y : TargetState g.row.R.Denot). y.view.live) c.self.view_is) ∙ ap (option_map (session_seen loads)) there in
    take_live c.args.self.now.store (g.K.Disk.state c.args.disk.now) c.add_payload.new.store (g.K.Disk.state c.add_payload.new.disk) x c.args.self.now.view (session_seen loads c.in-Some.session) c.args.payload.now (Ok tt) kept live holds
    (λ y seen installs. c.in-Ok.ensures.brings loads x.active y seen
    (subst (λ i. InstallsRow i.installed.store (g.K.Disk.state c.args.disk.now) x.active y.row y.arrived) (sym c.self-inside.view_is)
    (subst (λ (t : TargetState g.row.R.Denot). InstallsRow t.store (g.K.Disk.state c.args.disk.now) x.active y.row y.arrived) (sym c.self.view_is) installs)))

pub returns-in-Err-clause-brings : goal.returns-in-Err-clause-brings
returns-in-Err-clause-brings g c = λ x kept holds.
    let loads = c.self.inside.installed.active.loads in
    let there : c.self.inside.live ≡ Some c.in-Some.session = search rules in
    let live = sym (ap (λ (y : TargetState g.row.R.Denot). y.view.live) c.self.view_is) ∙ ap (option_map (session_seen loads)) there in
    fails_so (g.K.Disk.state c.args.disk.now) c.add_payload.new.store c.abandon.new.self.store (g.K.Disk.state c.add_payload.new.disk) x.active _ _ _ c.add_payload.result (Err c.in-Err.down) refl
    (take_live c.args.self.now.store (g.K.Disk.state c.args.disk.now) c.add_payload.new.store (g.K.Disk.state c.add_payload.new.disk) x c.args.self.now.view (session_seen loads c.in-Some.session) c.args.payload.now c.add_payload.result kept live holds
    (λ y seen installs. c.add_payload.ensures.brings loads x.active y seen
    (subst (λ i. InstallsRow i.installed.store (g.K.Disk.state c.args.disk.now) x.active y.row y.arrived) (sym c.self-inside.view_is)
    (subst (λ (t : TargetState g.row.R.Denot). InstallsRow t.store (g.K.Disk.state c.args.disk.now) x.active y.row y.arrived) (sym c.self.view_is) installs))))
