-- In which order the lines of a trace stand (docs/EXCHANGE.md, "Trace").
use Rattle.std.specs.Prelude.{◌≡◌, List, [], ◌∷◌, ◌++◌, map}
use Rattle.exchange_trace.specs.declared.trace.TraceStep.{TraceStep}
use Rattle.exchange_trace.specs.declared.trace.TraceStep.TheVariants as lines
use Rattle.exchange_trace.specs.Happenings.{DatagramView, HappeningView, datagram_view, happening_view}
use Rattle.exchange_trace.specs.Steps.{Boot_refused, Came_up, Note, Step, Went_down, steps_of}

-- a line of a trace, with lists as they are seen
pub data SeenLine : Type 0 where
  Happens : HappeningView → SeenLine
  Posts : DatagramView → SeenLine
  Notes : Note → SeenLine

abbrev pub seen_line : TraceStep → SeenLine
seen_line (lines.Given h) = Happens (happening_view h)
seen_line (lines.Posted d) = Posts (datagram_view d)
seen_line lines.Down = Notes Went_down
seen_line (lines.Up first_port sequence) = Notes (Came_up first_port sequence)
seen_line (lines.BootRefused fault) = Notes (Boot_refused fault)

-- the lines of a step: what happened, then what both sides posted, then what was noted of the target
abbrev pub lines_of_step : Step → List SeenLine
lines_of_step s = Happens s.given ∷ (map (λ (d : DatagramView). Posts d) s.posts ++ map (λ (n : Note). Notes n) s.notes)

-- the lines of all steps, those of the oldest first
abbrev pub lines_of : List Step → List SeenLine
lines_of [] = []
lines_of (s ∷ earlier) = lines_of earlier ++ lines_of_step s

-- A trace is exactly the lines of its steps in this order. So it begins with what happened first, and nothing that was posted
-- or noted stands before that, or in another step than it belongs to.
abbrev pub IsInOrder : List TraceStep → Type 0
IsInOrder trace = map seen_line trace ≡ lines_of (steps_of trace)
