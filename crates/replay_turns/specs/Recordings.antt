-- How the trace of a run is kept, so that a datagram is found by its number (docs/EXCHANGE.md, "Trace").
use Rattle.std.specs.Prelude.{◌≡◌, ℕ, ◌<◌, ◌≤◌, List, [], ◌∷◌, length, map, Option, Some, None, slice_get, ⊤}
use Rattle.std.specs.List.{All}
use Rattle.exchange_trace.specs.declared.trace.TraceStep.{TraceStep}
use Rattle.exchange_trace.specs.declared.trace.TraceStep.TheVariants as lines
use Rattle.exchange_trace.specs.Happenings.{DatagramView, datagram_view}
use Rattle.exchange_trace.specs.Posts.{first_port_after, posted_in}
use Rattle.exchange_trace.specs.Steps.{Step, steps_of, with_post}
use Rattle.replay_turns.specs.Orders.{IsInOrder}

-- the datagram that a line of the trace posts
abbrev pub post_of : Option TraceStep → Option DatagramView
post_of (Some (lines.Posted d)) = Some (datagram_view d)
post_of line = None

-- The datagrams that were posted stand in the trace at these indices, in their order; a target that boots now draws ports from
-- this one on; and the trace is exactly the lines of its steps.
pub record IsRecorded (trace : List TraceStep) (posts : List ℕ) (first_port : ℕ) : Type 0 where
  pub found : map (λ i. post_of (slice_get trace i)) posts ≡ map (λ d. Some d) (posted_in (steps_of trace))
  pub within : All (λ i. i < length trace) posts
  pub port : first_port ≡ first_port_after (steps_of trace)
  pub small : first_port ≤ 65536
  pub ordered : IsInOrder trace

-- something has happened, and nothing was noted of it yet, so that what is posted or noted next belongs to its step
abbrev pub StepHasBegun : List Step → Type 0
StepHasBegun [] = ⊥
StepHasBegun (s ∷ earlier) = s.notes ≡ []

-- the line may come after these steps: it begins a step, or belongs to the newest
abbrev pub HasPlace : List Step → TraceStep → Type 0
HasPlace steps (lines.Given h) = ⊤
HasPlace steps line = StepHasBegun steps

-- what was posted in the newest step
abbrev pub posts_of_last : List Step → List DatagramView
posts_of_last [] = []
posts_of_last (s ∷ earlier) = s.posts

-- the steps, with these posts more
abbrev pub with_posts : List Step → List DatagramView → List Step
with_posts steps [] = steps
with_posts steps (d ∷ posts) = with_posts (with_post steps d) posts
