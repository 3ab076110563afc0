-- What the target has with all contents, after the steps of a trace (docs/EXCHANGE.md, "Runs").
use Rattle.std.specs.Prelude.{◌≡◌, List, ⊤}
use Rattle.exchange_trace.specs.Logs.{Event}
use Rattle.exchange_trace.specs.Steps.{Step}
use Rattle.session_rules.specs.Contents.{AreKept, contents_after, contents_of}
use Rattle.session_rules.specs.Target.{target_after}
use Rattle.session_rules.specs.TargetLog.{TargetReading, target_extended, target_view}
use Rattle.replay_rules.specs.BothEnds.{Is_down, Is_up, Setting, TargetStanding, target_at}

-- What a target keeps is of what there is by its log; both change with each event as the target decides.
pub record FollowsItsLog (set : Setting) (r : TargetReading) : Type 0 where
  pub kept : AreKept (contents_of r) (target_view r)
  pub view : (e : Event) → target_view (target_extended set.accepts r e) ≡ target_after set.accepts (target_view r) e
  pub contents : (e : Event) → contents_of (target_extended set.accepts r e) ≡ contents_after set.accepts (target_view r) e (contents_of r)

abbrev pub ContentsFollowAt : Setting → TargetStanding → Type 0
ContentsFollowAt set (Is_up r) = FollowsItsLog set r
ContentsFollowAt set (Is_down active interrupted) = ⊤

-- So it is of a target that is up after the steps of every trace.
abbrev pub ContentsFollowTraces : Type 0
ContentsFollowTraces = (set : Setting) (steps : List Step) → ContentsFollowAt set (target_at set steps)
