-- What both ends keep is what the trace says (docs/EXCHANGE.md, "Runs").
use Rattle.std.specs.Prelude.{◌≡◌, List, [], ◌∷◌, ◌++◌, Option, Some, None, if◌then◌else◌}
use Rattle.accept_rules.specs.Permissions.{Accepts}
use Rattle.exchange_trace.specs.declared.trace.Side.TheVariants as sides
use Rattle.exchange_trace.specs.Happenings.{DatagramView}
use Rattle.exchange_trace.specs.Logs.{Event, event_for}
use Rattle.exchange_trace.specs.Posts.{posted_in}
use Rattle.exchange_trace.specs.Steps.{Note, Step}
use Rattle.session_rules.specs.Loader.{LoaderView, loader_posts, loader_after}
use Rattle.session_rules.specs.LoaderLog.{loader_view}
use Rattle.session_rules.specs.MediaFiles.{Media}
use Rattle.session_rules.specs.Target.{TargetView, target_posts, target_after}
use Rattle.session_rules.specs.TargetLog.{target_view}
use Rattle.replay_rules.specs.BothEnds.{Setting, TargetStanding, Is_up, Is_down, loader_at, noted, reached, target_at}
use Rattle.replay_rules.specs.Due.{AllDue, goes_down}

-- a target that is up, by what it keeps
abbrev pub kept_by : TargetStanding → Option TargetView
kept_by (Is_up r) = Some (target_view r)
kept_by (Is_down active interrupted) = None

-- what the ends keep, and the datagrams that the link was posted, are those of the trace, and all that was posted was due
pub record IsTied (set : Setting) (steps : List Step) (loader : LoaderView) (target : Option TargetView) (posted : List DatagramView) : Type 0 where
  pub loader_is : loader ≡ loader_view (loader_at set steps)
  pub target_is : target ≡ kept_by (target_at set steps)
  pub posted_is : posted ≡ posted_in steps
  pub due : AllDue set steps

-- ---- one step, by what the ends keep

abbrev pub loader_next : Media → LoaderView → Option Event → LoaderView
loader_next media v None = v
loader_next media v (Some e) = loader_after media v e

abbrev pub loader_says : Media → LoaderView → Option Event → List DatagramView
loader_says media v None = []
loader_says media v (Some e) = loader_posts media v e

abbrev pub target_next : (accepts : Accepts) → Option TargetView → Option Event → Option TargetView
target_next accepts (Some v) (Some e) = Some (target_after accepts v e)
target_next accepts v e = v

abbrev pub target_says : (accepts : Accepts) → Option TargetView → Option Event → List DatagramView
target_says accepts (Some v) (Some e) = target_posts accepts v e
target_says accepts v e = []

-- what is kept of the target where this is noted in a step that leads it from one state to another
abbrev pub kept_after : Setting → List Note → (before after : TargetStanding) → Option TargetView → Option TargetView
kept_after set [] before after v = v
kept_after set (note ∷ notes) before after v = kept_by (noted (note ∷ notes) before after)

-- Both ends do in a step what their rules say of what they keep. A target that goes down posts nothing.
pub record Reacts (set : Setting) (steps : List Step) (loader loader_then : LoaderView) (target target_then : Option TargetView) (s : Step) : Type 0 where
  pub loader_does : loader_then ≡ loader_next set.media loader (event_for sides.Loader (posted_in steps) s.given)
  pub target_does : target_then
      ≡ kept_after set s.notes (target_at set steps) (reached set (event_for sides.Target (posted_in steps) s.given) (target_at set steps))
      (target_next set.accepts target (event_for sides.Target (posted_in steps) s.given))
  pub both_post : s.posts
      ≡ loader_says set.media loader (event_for sides.Loader (posted_in steps) s.given)
      ++ (if goes_down s.notes then [] else target_says set.accepts target (event_for sides.Target (posted_in steps) s.given))

-- A step keeps the tie, whatever happens in it and whatever is noted of the target.
abbrev pub StepKeepsTie : Type 0
StepKeepsTie = (set : Setting) (steps : List Step) (loader loader_then : LoaderView) (target target_then : Option TargetView) (posted : List DatagramView) (s : Step)
    → IsTied set steps loader target posted → Reacts set steps loader loader_then target target_then s
    → IsTied set (s ∷ steps) loader_then target_then (posted ++ s.posts)
