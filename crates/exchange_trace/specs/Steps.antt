-- A trace as its steps (docs/EXCHANGE.md, "Trace").
use Rattle.std.specs.Prelude.{ℕ, List, [], ◌∷◌, ◌++◌, fold}
use Rattle.disk_layout.specs.declared.fault.RecoverFault.{RecoverFault}
use Rattle.exchange_trace.specs.declared.trace.TraceStep.{TraceStep}
use Rattle.exchange_trace.specs.declared.trace.TraceStep.TheVariants as lines
use Rattle.exchange_trace.specs.Happenings.{DatagramView, HappeningView, datagram_view, happening_view}

-- what a step says of the target's power
pub data Note : Type 0 where
  Went_down : Note
  Came_up : (first_port sequence : ℕ) → Note
  Boot_refused : RecoverFault → Note

-- something that happened, with all that follows it before the next: what both sides posted, in order, and what
-- became of the target
pub record Step : Type 0 where
  pub given : HappeningView
  pub posts : List DatagramView
  pub notes : List Note

abbrev pub with_given : List Step → HappeningView → List Step
with_given steps h = record { given = h; posts = []; notes = [] } ∷ steps

-- what is posted or noted before anything happened belongs to no step
abbrev pub with_post : List Step → DatagramView → List Step
with_post [] d = []
with_post (s ∷ earlier) d = record { given = s.given; posts = s.posts ++ d ∷ []; notes = s.notes } ∷ earlier

abbrev pub with_note : List Step → Note → List Step
with_note [] n = []
with_note (s ∷ earlier) n = record { given = s.given; posts = s.posts; notes = s.notes ++ n ∷ [] } ∷ earlier

-- the steps, with one line of the trace more
abbrev pub with_line : List Step → TraceStep → List Step
with_line steps (lines.Posted d) = with_post steps (datagram_view d)
with_line steps (lines.Given h) = with_given steps (happening_view h)
with_line steps lines.Down = with_note steps Went_down
with_line steps (lines.Up first_port sequence) = with_note steps (Came_up first_port sequence)
with_line steps (lines.BootRefused fault) = with_note steps (Boot_refused fault)

-- The steps of a trace, the newest first.
unfoldable pub steps_of : List TraceStep → List Step
steps_of trace = fold with_line [] trace
