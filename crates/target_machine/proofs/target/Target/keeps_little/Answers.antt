use Rattle.std.proofs.Common.{◌≤◌, Option, option_map, subst, sym}
use Rattle.session_rules.specs.Buffers.{buffer_size}
use Rattle.target_machine.specs.Decisions.{TargetState}
use Rattle.target_machine.specs.Machine.{contents_arriving, live_held, session_seen}
use Rattle.target_machine.specs.Stages.{IsInStage}
use Rattle.target_machine.specs.declared.session.LiveSession.{LiveSession}
use Rattle.target_machine.proofs.target.Target.keeps_little.Goals as goal

pub returns-in-Some-clause-held : goal.returns-in-Some-clause-held
returns-in-Some-clause-held g c =
    let store = c.self.inside.installed.store in
    let stage = subst (λ (live : Option LiveSession). IsInStage live store) c.in-Some.is c.self.invariant in
    subst (λ (y : TargetState g.row.R.Denot). y.held ≤ buffer_size) c.self.view_is
    (subst (λ (live : Option LiveSession). live_held live ≤ buffer_size) (sym c.in-Some.is) (c.keeps_little.ensures.held store stage))

pub returns-in-Some-clause-arriving : goal.returns-in-Some-clause-arriving
returns-in-Some-clause-arriving g c =
    let loads = c.self.inside.installed.active.loads in
    subst (λ (y : TargetState g.row.R.Denot). contents_arriving y.view.live ≤ y.held) c.self.view_is
    (subst (λ (live : Option LiveSession). contents_arriving (option_map (session_seen loads) live) ≤ live_held live) (sym c.in-Some.is) (c.keeps_little.ensures.arriving loads))
