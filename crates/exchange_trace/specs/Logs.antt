-- What reaches each side, the newest first (docs/EXCHANGE.md, "Trace"). What a side posts isn't in its log, since the log
-- decides it.
use Rattle.std.specs.Prelude.{ℕ, List, [], ◌∷◌, Option, Some, None, if◌then◌else◌}
use Rattle.exchange_trace.specs.declared.trace.Side.{Side}
use Rattle.exchange_trace.specs.declared.trace.Side.TheVariants as sides
use Rattle.exchange_trace.specs.Happenings.{DatagramView, HappeningView, Delivered, Injected, Ticked, Size_told, Info_started, Upload_started, is_same_side}
use Rattle.exchange_trace.specs.Steps.{Step, Note, Went_down, Came_up, Boot_refused}
use Rattle.exchange_trace.specs.Posts.{posted_in, numbered}

-- what reaches a side
pub data Event : Type 0 where
  Starts_info : (hw pos : List ℕ) → Event
  Starts_upload : (hw pos : List ℕ) → (parts : List (List ℕ)) → Event
  Gets : (from to : ℕ) → (bytes : List ℕ) → Event  -- a datagram between these ports
  Ticks : Event
  Learns : Option ℕ → Event  -- the block size that its requests ask for

-- the datagram comes, if there is one
abbrev pub gets : Option DatagramView → Option Event
gets None = None
gets (Some d) = Some (Gets d.from d.to d.bytes)

-- what a happening brings to a side, where these datagrams were posted before
abbrev pub event_for : Side → List DatagramView → HappeningView → Option Event
event_for side posted (Delivered to n) = if is_same_side side to then gets (numbered posted n) else None
event_for side posted (Injected d) = if is_same_side side d.side then None else gets (Some d)
event_for side posted (Ticked whose) = if is_same_side side whose then Some Ticks else None
event_for side posted (Size_told size) = Some (Learns size)
event_for sides.Loader posted (Info_started hw pos) = Some (Starts_info hw pos)
event_for sides.Loader posted (Upload_started hw pos parts) = Some (Starts_upload hw pos parts)
event_for side posted h = None

-- a log with what comes now, if anything does
abbrev pub logged : Option Event → List Event → List Event
logged None log = log
logged (Some e) log = e ∷ log

-- what reached the loader
abbrev pub loader_log : List Step → List Event
loader_log [] = []
loader_log (s ∷ earlier) = logged (event_for sides.Loader (posted_in earlier) s.given) (loader_log earlier)

-- The target is up or down. Its log begins anew when it comes up, and has nothing while it is down.
pub data Life : Type 0 where
  Up : (first_port : ℕ) → (log : List Event) → Life
  Down : Life

abbrev pub reached : Option Event → Life → Life
reached e (Up first_port log) = Up first_port (logged e log)
reached e Down = Down

abbrev pub noted : List Note → Life → Life
noted [] life = life
noted (Went_down ∷ notes) life = noted notes Down
noted (Came_up first_port sequence ∷ notes) life = noted notes (Up first_port [])
noted (Boot_refused fault ∷ notes) life = noted notes Down

-- the target after these steps; at the start it is up and draws ports from 1024 on
abbrev pub target_life : List Step → Life
target_life [] = Up 1024 []
target_life (s ∷ earlier) = noted s.notes (reached (event_for sides.Target (posted_in earlier) s.given) (target_life earlier))
