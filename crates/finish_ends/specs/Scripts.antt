-- How long a script may go on (docs/EXCHANGE.md, "Every `finish` ends").
use Rattle.std.specs.Prelude.{◌≡◌, ℕ, ◌+◌, ◌*◌, ◌<◌, ◌≤◌, List, [], ◌∷◌, ◌++◌, length}
use Rattle.exchange_trace.specs.declared.trace.Side.{Side}
use Rattle.exchange_trace.specs.Following.{Finishing, from_lines, next_turn}
use Rattle.exchange_trace.specs.Happenings.{Ended}
use Rattle.exchange_trace.specs.Lines.{Finish, Line, Next}
use Rattle.exchange_trace.specs.Posts.{undelivered_after}
use Rattle.exchange_trace.specs.Steps.{Step}
use Rattle.replay_rules.specs.BothEnds.{Setting}
use Rattle.replay_rules.specs.Changes.{AllCarryBytes}
use Rattle.replay_rules.specs.Promises.{IsTrace}
use Rattle.replay_rules.specs.Runs.{TraceFollows, IsQuiet, plan_at, scene_at}
use Rattle.finish_ends.specs.Finishes.{AllOfFinish, IsRun, most_of_finish}

-- ---- a line `finish`

-- Of these steps, which follow others, some are those of the `finish` that goes on after the others. Then the run is quiet,
-- and the lines after it say what happens next.
pub record PassesOn (set : Setting) (script : List Line) (more steps : List Step) : Type 0 where
  pub later : List Step
  pub finish : List Step
  pub split : more ≡ later ++ finish
  pub gives : AllOfFinish set finish steps
  pub quiet : IsQuiet set (finish ++ steps)
  pub passes : next_turn (scene_at set (finish ++ steps)) (plan_at set script (finish ++ steps)) ≡ from_lines (scene_at set (finish ++ steps)) (plan_at set script steps).lines

-- Each `finish` of a script passes on to the lines after it, in each run that follows the script, after no more happenings
-- than a `finish` has.
abbrev pub FinishPassesOn : Type 0
FinishPassesOn = (set : Setting) (script : List Line) (steps more : List Step) (first : Side) → TraceFollows set script (more ++ steps) → IsRun set (more ++ steps)
    → (plan_at set script steps).rest ≡ Finishing first → most_of_finish + 2 * length (undelivered_after steps) < length more → PassesOn set script more steps

-- ---- a whole script

-- The most happenings up to the end of a line, where this many came before it. Each of those has posted two datagrams at most.
abbrev pub most_with : ℕ → Line → ℕ
most_with before (Next k) = before + k
most_with before Finish = before + (most_of_finish + 2 * (2 * before))
most_with before line = before + 1

-- and up to the end of these lines
abbrev pub most_of_lines : ℕ → List Line → ℕ
most_of_lines before [] = before
most_of_lines before (line ∷ lines) = most_of_lines (most_with before line) lines

-- nothing happens any more
abbrev pub RunHasEnded : List Step → Type 0
RunHasEnded [] = ⊥
RunHasEnded (s ∷ earlier) = s.given ≡ Ended

-- Each script comes to its end, in each run that follows it, after no more happenings than its lines alone say.
abbrev pub ScriptsEnd : Type 0
ScriptsEnd = (set : Setting) (script : List Line) (steps : List Step) → TraceFollows set script steps → IsRun set steps
    → most_of_lines 0 script < length steps → RunHasEnded steps

-- So the trace of a whole run has no more steps than that, and one for the end.
abbrev pub TracesAreBounded : Type 0
TracesAreBounded = (set : Setting) (script : List Line) (steps : List Step) → TraceFollows set script steps → IsTrace set steps → AllCarryBytes steps
    → length steps ≤ most_of_lines 0 script + 1
