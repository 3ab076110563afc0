-- The steps of a run in which nothing fails, as a function of its script and of what it stands on (docs/EXCHANGE.md, "A run is
-- a function of its script").
use Rattle.std.specs.Prelude.{◌≡◌, ℕ, zero, suc, ◌+◌, List, [], ◌∷◌, Bool, true, false, Some, if◌then◌else◌, ⊤}
use Rattle.std.specs.List.{AllByRecursion}
use Rattle.disk_layout.specs.Holds.{StandingView}
use Rattle.exchange_trace.specs.Following.{next_turn}
use Rattle.exchange_trace.specs.Happenings.{Booted, Ended, HappeningView}
use Rattle.exchange_trace.specs.Lines.{Line}
use Rattle.exchange_trace.specs.Posts.{first_port_after}
use Rattle.exchange_trace.specs.Steps.{Came_up, Note, Step}
use Rattle.replay_rules.specs.BothEnds.{Setting, TargetStanding, target_at}
use Rattle.replay_rules.specs.Changes.{AllCarryBytes}
use Rattle.replay_rules.specs.Due.{AllDue, AllNoted, due, is_up}
use Rattle.replay_rules.specs.Histories.{active_at, active_by, active_in}
use Rattle.replay_rules.specs.Promises.{EndsOnce}
use Rattle.replay_rules.specs.Runs.{TraceFollows, plan_at, scene_at}
use Rattle.finish_ends.specs.Scripts.{most_of_lines}

-- ---- premises

-- the target neither went down nor stayed down at a boot
abbrev pub IsNoFailure : Note → Type 0
IsNoFailure (Came_up first_port sequence) = ⊤
IsNoFailure note = ⊥

-- The target never goes down, and each boot brings it up.
abbrev pub NeverFails : List Step → Type 0
NeverFails steps = AllByRecursion (λ (s : Step). AllByRecursion IsNoFailure s.notes) steps

-- a target that comes up tells the sequence number of what is active then
abbrev pub TellsActive : TargetStanding → List Note → Type 0
TellsActive state (Came_up first_port sequence ∷ []) = sequence ≡ (active_in state).sequence
TellsActive state notes = ⊤

abbrev pub BootsTellActive : Setting → List Step → Type 0
BootsTellActive set [] = ⊤
BootsTellActive set (s ∷ earlier) = TellsActive (target_at set (s ∷ earlier)) s.notes × BootsTellActive set earlier

-- A run of a script in which nothing fails. The script says what happens, by what was posted and which sides wait; what is due
-- says what is posted. At which call a disk fails or loses power nothing here says: so the target may not go down. Of a boot
-- the first port is the one that may be noted, and the sequence number that of what is active.
pub record IsSteadyRun (set : Setting) (script : List Line) (steps : List Step) : Type 0 where
  pub follows : TraceFollows set script steps
  pub due : AllDue set steps
  pub noted : AllNoted set steps
  pub up : NeverFails steps
  pub boots : BootsTellActive set steps

-- It came to its end, which says how many steps it has. Datagrams carry bytes, so that the script allows no more of them than
-- its lines say.
pub record IsSteadyWholeRun (set : Setting) (script : List Line) (steps : List Step) : Type 0 where
  pub steady : IsSteadyRun set script steps
  pub ends : EndsOnce steps
  pub carries : AllCarryBytes steps

-- ---- the step that comes next

-- what happens next
abbrev pub happens_next : Setting → List Line → List Step → HappeningView
happens_next set script steps = (next_turn (scene_at set steps) (plan_at set script steps)).given

-- a boot brings the target up, with these numbers, and nothing else is noted
abbrev pub noted_then : (first_port sequence : ℕ) → HappeningView → List Note
noted_then first_port sequence Booted = Came_up first_port sequence ∷ []
noted_then first_port sequence h = []

abbrev pub noted_next : Setting → List Step → HappeningView → List Note
noted_next set steps h = noted_then (first_port_after steps) (active_at set steps).sequence h

-- the step in which this happens after these steps
abbrev pub step_with : Setting → List Step → HappeningView → Step
step_with set steps h = record { given = h; posts = due set steps h (noted_next set steps h); notes = noted_next set steps h }

abbrev pub next_step : Setting → List Line → List Step → Step
next_step set script steps = step_with set steps (happens_next set script steps)

-- ---- a whole run

abbrev pub is_end : HappeningView → Bool
is_end Ended = true
is_end h = false

abbrev pub has_ended : List Step → Bool
has_ended [] = false
has_ended (s ∷ earlier) = is_end s.given

-- the steps, with the next one, if the end hasn't come
abbrev pub gone_on : Setting → List Line → List Step → List Step
gone_on set script steps = if has_ended steps then steps else next_step set script steps ∷ steps

-- the first steps of a run, this many if it has them
abbrev pub first_steps : Setting → List Line → ℕ → List Step
first_steps set script zero = []
first_steps set script (suc n) = gone_on set script (first_steps set script n)

-- The steps of the whole run of a script in which nothing fails, the newest first. It has no more than its lines say.
unfoldable pub whole_run : Setting → List Line → List Step
whole_run set script = first_steps set script (most_of_lines 0 script + 1)

-- ---- the laws

abbrev pub AllAreNext : Setting → List Line → List Step → Type 0
AllAreNext set script [] = ⊤
AllAreNext set script (s ∷ earlier) = (s ≡ next_step set script earlier) × AllAreNext set script earlier

abbrev pub EachStepIsNext : Type 0
EachStepIsNext = (set : Setting) (script : List Line) (steps : List Step) → IsSteadyRun set script steps → AllAreNext set script steps

abbrev pub TargetStaysUp : Type 0
TargetStaysUp = (set : Setting) (steps : List Step) → NeverFails steps → is_up (target_at set steps) ≡ true

abbrev pub WholeRunsAreFixed : Type 0
WholeRunsAreFixed = (set : Setting) (script : List Line) (steps : List Step) → IsSteadyWholeRun set script steps → steps ≡ whole_run set script

abbrev pub TwoRunsAreOne : Type 0
TwoRunsAreOne = (set : Setting) (script : List Line) (one two : List Step) → IsSteadyWholeRun set script one → IsSteadyWholeRun set script two → one ≡ two

-- What is recovered at the end, where it was active then, is what the steps say.
abbrev pub ActiveIsFixed : Type 0
ActiveIsFixed = (set : Setting) (steps : List Step) (last : StandingView) → NeverFails steps → active_by (target_at set steps) (Some last) ≡ last → last ≡ active_at set steps
