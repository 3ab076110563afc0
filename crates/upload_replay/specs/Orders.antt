-- A trace as text, by its steps alone (docs/EXCHANGE.md, "Trace").
use Rattle.std.specs.Prelude.{ℕ, ◌+◌, List, [], ◌∷◌, ◌++◌, codes}
use Rattle.printed_text.specs.Lines.{line}
use Rattle.exchange_trace.specs.Steps.{Boot_refused, Came_up, Step, Went_down}
use Rattle.replay_turns.specs.Orders.{Happens, Notes, Posts, SeenLine, lines_of}
use Rattle.upload_replay.specs.Texts.{given_line, numbered_line, post_line}

-- a line as text, after which this many datagrams are posted
abbrev pub seen_text : (posted : ℕ) → SeenLine → List ℕ
seen_text posted (Happens h) = given_line h
seen_text posted (Posts d) = post_line posted d
seen_text posted (Notes Went_down) = line (codes "down" ∷ [])
seen_text posted (Notes (Came_up first_port sequence)) = numbered_line (codes "up") first_port
seen_text posted (Notes (Boot_refused fault)) = line (codes "bootrefused" ∷ [])

-- how many datagrams are posted, with this line
abbrev pub seen_with : (posted : ℕ) → SeenLine → ℕ
seen_with posted (Posts d) = posted + 1
seen_with posted step = posted

-- lines before which this many datagrams were posted
abbrev pub seen_from : (posted : ℕ) → List SeenLine → List ℕ
seen_from posted [] = []
seen_from posted (step ∷ later) = seen_text (seen_with posted step) step ++ seen_from (seen_with posted step) later

-- the trace of a run with these steps, as it is printed
unfoldable pub wire_of_steps : List Step → List ℕ
wire_of_steps steps = seen_from 0 (lines_of steps)
