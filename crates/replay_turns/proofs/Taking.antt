-- A target that takes what reaches it.
use Rattle.std.proofs.Common.{◌≡◌, Bool, List, [], Option, Some, None, sym, ap, subst}
use Rattle.exchange_trace.specs.Happenings.{DatagramView}
use Rattle.exchange_trace.specs.Logs.{Event}
use Rattle.accept_rules.specs.Interlocks.{FollowsAccepts}
use Rattle.load_header.specs.declared.header.LoadHeader.{LoadHeader}
use Rattle.accept_rules.specs.declared.kept.KeptLoad.{KeptLoad}
use Rattle.accept_rules.specs.Permissions.{Accepts}
use Rattle.session_rules.specs.Target.{TargetView}
use Rattle.replay_rules.specs.BothEnds.{Setting, TargetStanding}
use Rattle.target_machine.specs.Decisions as machine
use Rattle.replay_turns.specs.Targets.{TargetLives, TargetTurns}
use Rattle.replay_turns.specs.Turns.{TargetTakes, target_kept}

-- a target that takes what reaches it
pub took_alive : {R : Type 0} (accepts : Accepts) (e : Option Event) (slot : Option (machine.TargetState R)) (before after : machine.TargetState R) (posts : List DatagramView)
    → slot ≡ Some before → TargetTakes accepts e before after posts → TargetLives accepts e (target_kept slot) (Some after.view) posts []
took_alive {R} accepts e slot before after posts is takes = subst (λ (o : Option (machine.TargetState R)). TargetLives accepts e (target_kept o) (Some after.view) posts []) (sym is) (by e takes)
  where
    by : (e : Option Event) → TargetTakes accepts e before after posts → TargetLives accepts e (Some before.view) (Some after.view) posts []
    by None takes = (ap (λ (t : machine.TargetState R). Some t.view) takes.0, takes.1)
    by (Some event) takes = (ap (λ (v : TargetView). Some v) takes.keeps, takes.posts)

pub took : {R : Type 0} (set : Setting) (e : Option Event) (state : TargetStanding) (slot : Option (machine.TargetState R)) (before after : machine.TargetState R) (posts : List DatagramView)
    → slot ≡ Some before → TargetTakes set.accepts e before after posts → TargetTurns set e state (target_kept slot) (Some after.view) posts []
took {R} set e state slot before after posts is takes = took_alive set.accepts e slot before after posts is takes

pub took_rule : {R : Type 0} (may_say : R → LoadHeader → List KeptLoad → Bool → Type 0) (accepts : Accepts) (e : Option Event) (before after : machine.TargetState R) (posts : List DatagramView)
    → TargetTakes accepts e before after posts → FollowsAccepts may_say before.rule accepts → FollowsAccepts may_say after.rule accepts
took_rule {R} may_say accepts None before after posts takes follows = subst (λ (t : machine.TargetState R). FollowsAccepts may_say t.rule accepts) (sym takes.0) follows
took_rule {R} may_say accepts (Some e) before after posts takes follows = subst (λ (rule : R). FollowsAccepts may_say rule accepts) (sym takes.rule) follows
