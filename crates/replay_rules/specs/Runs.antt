-- Scripts that are followed, quiet runs, and the margin of retries (docs/EXCHANGE.md, "Runs").
use Rattle.std.specs.Prelude.{◌≡◌, ℕ, ◌≤◌, List, [], false}
use Rattle.exchange_trace.specs.Following.{FollowsScript, Plan, Scene, plan_after, scene_after}
use Rattle.exchange_trace.specs.Lines.{Line}
use Rattle.exchange_trace.specs.Posts.{undelivered_after}
use Rattle.exchange_trace.specs.Steps.{Step}
use Rattle.replay_rules.specs.BothEnds.{Setting, TargetStanding, Is_up, Is_down, loader_at, target_at, loader_waits, target_waits, waiting}

-- a trace follows a script
abbrev pub TraceFollows : Setting → List Line → List Step → Type 0
TraceFollows set script steps = FollowsScript (waiting set) script steps

-- what is left of the script, and what decides how it goes on
abbrev pub plan_at : Setting → List Line → List Step → Plan
plan_at set script steps = plan_after (waiting set) script steps

abbrev pub scene_at : Setting → List Step → Scene
scene_at set steps = scene_after (waiting set) steps

-- nothing is undelivered, and no session is live
pub record IsQuiet (set : Setting) (steps : List Step) : Type 0 where
  pub delivered : undelivered_after steps ≡ []
  pub loader : loader_waits set steps ≡ false
  pub target : target_waits set steps ≡ false

-- the ticks since the start of the session, or since the last datagram that was awaited; 0 without a live session
abbrev pub loader_retries : Setting → List Step → ℕ
loader_retries set steps = (loader_at set steps).end.ticks

abbrev pub retries_in : TargetStanding → ℕ
retries_in (Is_up r) = r.end.ticks
retries_in (Is_down active interrupted) = 0

abbrev pub target_retries : Setting → List Step → ℕ
target_retries set steps = retries_in (target_at set steps)

-- both ends have made two retries at most
pub record IsWithinMargin (set : Setting) (steps : List Step) : Type 0 where
  pub loader : loader_retries set steps ≤ 2
  pub target : target_retries set steps ≤ 2
