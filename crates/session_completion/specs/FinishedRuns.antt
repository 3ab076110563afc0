-- A fault-free run that is left to a script's `finish` completes (docs/EXCHANGE.md, "A fault-free run completes").
use Rattle.std.specs.Prelude.{◌≡◌, List, [], ◌∷◌, ◌++◌, true, Option, Some, None, ⊤}
use Rattle.std.specs.List.{AllByRecursion}
use Rattle.accept_rules.specs.Permissions.{AcceptsPermitted}
use Rattle.disk_layout.specs.Holds.{StandingView}
use Rattle.exchange_trace.specs.Following.{Scene, Turn, begins, goes_on}
use Rattle.exchange_trace.specs.Lines.{Finish, Line}
use Rattle.exchange_trace.specs.Steps.{Step}
use Rattle.session_rules.specs.declared.outcome.SessionKind.TheVariants.{Upload}
use Rattle.session_rules.specs.KeptLoads.{with_kept}
use Rattle.replay_rules.specs.BothEnds.{Setting, loader_at, target_at}
use Rattle.replay_rules.specs.Changes.{AllCarryBytes}
use Rattle.replay_rules.specs.Due.{LeavesPower, is_up}
use Rattle.replay_rules.specs.FaultFree.{IsFaultFree}
use Rattle.replay_rules.specs.Histories.{active_at, active_by}
use Rattle.replay_rules.specs.MediaTraces.{LengthsAreTold}
use Rattle.replay_rules.specs.Promises.{EndsOnce, HasCompleted, IsTrace, NoneGoesDown, OnlyFinishIsLeft}
use Rattle.replay_rules.specs.Runs.{TraceFollows, IsQuiet, IsWithinMargin, plan_at, scene_at}
use Rattle.session_completion.specs.FaultFreeRuns.{IsNamed}

-- ---- a last `finish` is left

-- each of these lines gives nothing in this scene, where it would begin before the later ones
abbrev pub AllGiveNothing : Scene → List Line → (later : List Line) → Type 0
AllGiveNothing s [] later = ⊤
AllGiveNothing s (line ∷ idle) later = (◌≡◌ {A = Option Turn} (begins s line (idle ++ later)) None) × AllGiveNothing s idle later

-- After these steps the next turn is that of the script's last line, a `finish`: what is left of the line that is followed gives
-- nothing more, and neither do the lines before the last.
pub record FinishIsLeft (set : Setting) (script : List Line) (steps : List Step) : Type 0 where
  pub idle : List Line
  pub lines : (plan_at set script steps).lines ≡ idle ++ Finish ∷ []
  pub over : ◌≡◌ {A = Option Turn} (goes_on (scene_at set steps) (plan_at set script steps).rest (plan_at set script steps).lines) None
  pub give_nothing : AllGiveNothing (scene_at set steps) idle (Finish ∷ [])

-- so it is where no line stands before it
abbrev pub FinishAloneIsLeft : Type 0
FinishAloneIsLeft = (set : Setting) (script : List Line) (steps : List Step) → OnlyFinishIsLeft set script steps → FinishIsLeft set script steps

-- the last `finish` was left in a run after these of its steps
pub record ReachesFinish (set : Setting) (script : List Line) (steps : List Step) : Type 0 where
  pub before : List Step
  pub more : List Step
  pub split : steps ≡ more ++ before
  pub left : FinishIsLeft set script before

-- Each run that ended of a script whose last line is `finish` comes to where that is left.
abbrev pub LastFinishIsReached : Type 0
LastFinishIsReached = (set : Setting) (lines : List Line) (steps : List Step) → EndsOnce steps → TraceFollows set (lines ++ Finish ∷ []) steps → ReachesFinish set (lines ++ Finish ∷ []) steps

-- From there on power is neither lost nor switched.
abbrev pub FinishLeavesPower : Type 0
FinishLeavesPower = (set : Setting) (script : List Line) (steps more : List Step) → FinishIsLeft set script steps → TraceFollows set script (more ++ steps)
    → AllByRecursion (λ (s : Step). LeavesPower s.given) more

-- ---- and is followed

-- A whole run follows the script, of which a last `finish` was left after these steps; in the steps after them the target
-- doesn't go down.
pub record IsLeftToFinish (set : Setting) (script : List Line) (steps more : List Step) : Type 0 where
  pub trace : IsTrace set (more ++ steps)
  pub carries : AllCarryBytes (more ++ steps)
  pub follows : TraceFollows set script (more ++ steps)
  pub left : FinishIsLeft set script steps
  pub stays_up : NoneGoesDown more

-- the upload is completed, all is quiet, the target is up, and the standing has the loads that were asked for, with the media
-- set's files, and then those that are kept of what was active at the start of the upload
pub record IsComplete (set : Setting) (steps : List Step) (free : IsFaultFree set steps) (last : List Step) (standing : StandingView) : Type 0 where
  pub outcome : HasCompleted Upload (loader_at set last).ended
  pub quiet : IsQuiet set last
  pub up : is_up (target_at set last) ≡ true
  pub loads : standing.loads ≡ with_kept free.loads (active_at set free.before).loads

-- A fault-free run within the margin that is left to `finish` completes.
abbrev pub FinishCompletes : Type 0
FinishCompletes = (set : Setting) (script : List Line) (steps more : List Step) (free : IsFaultFree set steps) (standing : StandingView) → AcceptsPermitted set.accepts → LengthsAreTold set.media → IsNamed set steps free
    → IsWithinMargin set steps → IsLeftToFinish set script steps more → standing ≡ active_by (target_at set (more ++ steps)) (Some standing) → IsComplete set steps free (more ++ steps) standing
