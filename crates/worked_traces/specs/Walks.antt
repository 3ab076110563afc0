-- A trace gone through once, from its start (docs/EXCHANGE.md, "Runs").
use Rattle.std.specs.Prelude.{◌≡◌, ℕ, List, [], ◌∷◌, ◌++◌, map, take, is_some, Option, Some, None, if◌then◌else◌, ⊤}
use Rattle.load_base.specs.Config.{LoadView}
use Rattle.exchange_trace.specs.declared.trace.Side.TheVariants as sides
use Rattle.exchange_trace.specs.Happenings.{DatagramView, HappeningView}
use Rattle.exchange_trace.specs.Following.{Plan, Scene, next_turn, plan_after}
use Rattle.exchange_trace.specs.Lines.{Line}
use Rattle.exchange_trace.specs.Logs.{Event, event_for}
use Rattle.exchange_trace.specs.Posts.{happenings_of, port_above, posted_in, undelivered_after}
use Rattle.exchange_trace.specs.Steps.{Step}
use Rattle.session_rules.specs.declared.outcome.Outcome.{Outcome}
use Rattle.session_rules.specs.Loader.{EndedSession}
use Rattle.session_rules.specs.LoaderLog.{LoaderReading, loader_extended}
use Rattle.replay_rules.specs.BothEnds.{Setting, TargetStanding, loader_at, noted, reached, target_at, waiting, waits_in}
use Rattle.replay_rules.specs.Due.{AllDue, AllNoted, MayBeNoted, due_of_loader, due_of_target, goes_down, is_up}
use Rattle.replay_rules.specs.Histories.{active_at}
use Rattle.replay_rules.specs.Runs.{TraceFollows}

-- where the walk stands: both ends, all that was posted, all that happened, and what is left of the script
pub record Walk : Type 0 where
  pub loader : LoaderReading
  pub target : TargetStanding
  pub posted : List DatagramView
  pub happenings : List HappeningView
  pub plan : Plan

abbrev pub walk_at : Setting → List Line → List Step → Walk
walk_at set script steps =
    record { loader = loader_at set steps; target = target_at set steps; posted = posted_in steps; happenings = happenings_of steps; plan = plan_after (waiting set) script steps }

abbrev pub scene_in : Walk → Scene
scene_in w = record { posted = w.posted; happenings = w.happenings; loader_waits = is_some w.loader.live; target_waits = waits_in w.target }

abbrev pub due_in : Setting → Walk → Step → List DatagramView
due_in set w s =
    due_of_loader set w.loader (event_for sides.Loader w.posted s.given)
    ++ (if goes_down s.notes then [] else due_of_target set w.target (event_for sides.Target w.posted s.given))

abbrev pub loader_then : Setting → LoaderReading → Option Event → LoaderReading
loader_then set r None = r
loader_then set r (Some e) = loader_extended set.media r e

abbrev pub walked : Setting → Walk → Step → Walk
walked set w s = record {
  loader = loader_then set w.loader (event_for sides.Loader w.posted s.given);
  target = noted s.notes w.target (reached set (event_for sides.Target w.posted s.given) w.target);
  posted = w.posted ++ s.posts;
  happenings = s.given ∷ w.happenings;
  plan = (next_turn (scene_in w) w.plan).plan;
}

-- in a step exactly what was due was posted, what the script gives happened, and what may be was noted
pub record StepAgrees (set : Setting) (w : Walk) (s : Step) : Type 0 where
  pub posts : s.posts ≡ due_in set w s
  pub given : s.given ≡ (next_turn (scene_in w) w.plan).given
  pub notes : MayBeNoted (is_up w.target) (port_above 1024 w.posted) s.given s.notes

-- so it is in each of these steps, the oldest first
abbrev pub Agrees : Setting → Walk → List Step → Type 0
Agrees set w [] = ⊤
Agrees set w (s ∷ later) = StepAgrees set w s × Agrees set (walked set w s) later

-- these steps, the oldest first, after others
abbrev pub onto : List Step → List Step → List Step
onto [] steps = steps
onto (s ∷ later) steps = onto later (s ∷ steps)

-- a run: what it stands on, its script, and its steps, the oldest first
pub record WorkedRun : Type 0 where
  pub setting : Setting
  pub script : List Line
  pub trace : List Step

abbrev pub steps_in : WorkedRun → List Step
steps_in run = onto run.trace []

-- only its first steps, this many
abbrev pub first_steps : ℕ → WorkedRun → List Step
first_steps count run = onto (take count run.trace) []

-- the part numbers of what is active at its end
abbrev pub parts_after : WorkedRun → List (List ℕ)
parts_after run = map (λ (load : LoadView). load.part) (active_at run.setting (steps_in run)).loads

-- The definitions agree with a run, which ends with these numbers undelivered, these outcomes, the newest first, and this
-- sequence number active.
pub record IsWorked (run : WorkedRun) (left : List ℕ) (outcomes : List Outcome) (sequence : ℕ) : Type 0 where
  pub due : AllDue run.setting (steps_in run)
  pub followed : TraceFollows run.setting run.script (steps_in run)
  pub noted : AllNoted run.setting (steps_in run)
  pub left_is : undelivered_after (steps_in run) ≡ left
  pub outcomes_are : map (λ (s : EndedSession). s.outcome) (loader_at run.setting (steps_in run)).ended ≡ outcomes
  pub sequence_is : (active_at run.setting (steps_in run)).sequence ≡ sequence
