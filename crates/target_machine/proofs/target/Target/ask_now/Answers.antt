use Rattle.std.proofs.Common.{◌≡◌, map, option_map, IfOk, refl, sym, ap, subst, ◌∙◌}
use Rattle.exchange_trace.specs.declared.trace.Side.TheVariants as sides
use Rattle.disk_layout.specs.Manifest.{entry_view}
use Rattle.transfer_end.specs.Calls.{Makes, posted}
use Rattle.session_rules.specs.Target.{TargetSession, row_request}
use Rattle.target_machine.specs.Decisions.{TargetState, asked_by}
use Rattle.target_machine.specs.Machine.{session_seen}
use Rattle.target_machine.specs.Stages.{InstalledState}
use Rattle.target_machine.proofs.Calm.{session_is}
use Rattle.target_machine.proofs.target.Target.ask_now.Goals as goal

pub returns-in-Some-clause-makes : goal.returns-in-Some-clause-makes
returns-in-Some-clause-makes g c = λ x live.
    let loads = c.self.inside.installed.active.loads in
    let is : x ≡ session_seen loads c.in-Some.session = session_is loads c.self.inside.live c.in-Some.session x c.in-Some.is (ap (λ (y : TargetState g.row.R.Denot). y.view.live) c.self.view_is ∙ live) in
    subst (λ (y : TargetSession). IfOk c.request.result (λ post. Makes sides.Target (asked_by (row_request c.args.self.now.view y.row)) c.args.self.now.view.end c.request.new.end (posted post))) (sym is)
    (subst (λ (y : TargetState g.row.R.Denot). IfOk c.request.result (λ post. Makes sides.Target (asked_by (row_request y.view (session_seen loads c.in-Some.session).row)) y.view.end c.request.new.end (posted post))) c.self.view_is
    (c.request.ensures (record { end = c.self.inside.end; live = option_map (session_seen loads) c.self.inside.live; active = c.self.inside.installed.active; reason = c.self.inside.reason }) refl (ap (λ (i : InstalledState). i.active.identity) (sym c.installed.view_is)) (ap (λ (i : InstalledState). i.active.loads) (sym c.installed.view_is) ∙ ap (map entry_view) (sym c.as_slice.ensures))))
