-- The order in which both sides first post the blocks of their files (docs/EXCHANGE.md, "Transfers").
use Rattle.std.specs.Prelude.{◌≡◌, ℕ, ◌<◌, List, [], ◌∷◌, ◌++◌, Some}
use Rattle.std.specs.List.{AllByRecursion}
use Rattle.disk_layout.specs.Holds.{StandingView}
use Rattle.exchange_trace.specs.Happenings.{DatagramView}
use Rattle.exchange_trace.specs.Logs.{Event, Ticks}
use Rattle.transfer_end.specs.FirstPosts.{PostsInOrder}
use Rattle.transfer_end.specs.Moves.{past_with}
use Rattle.transfer_end.specs.OtherEnds.{Among}
use Rattle.transfer_end.specs.Readings.{Reading}
use Rattle.transfer_end.specs.Transfers.{Transfer}
use Rattle.accept_rules.specs.Permissions.{Accepts}
use Rattle.session_rules.specs.Loader.{LoaderView, loader_posts}
use Rattle.session_rules.specs.LoaderLog.{loader_due, loader_reading}
use Rattle.session_rules.specs.MediaFiles.{Media}
use Rattle.session_rules.specs.Target.{TargetView, target_posts}
use Rattle.session_rules.specs.TargetLog.{target_due, target_reading}

-- what is posted at an event, unless that is a tick
abbrev pub unless_tick : Event → List DatagramView → List DatagramView
unless_tick Ticks posts = []
unless_tick event posts = posts

-- What is due at the events of a log, ticks aside, the oldest first: a tick brings again what was posted last.
abbrev pub loader_first_posts : Media → List Event → List DatagramView
loader_first_posts media [] = []
loader_first_posts media (e ∷ log) = loader_first_posts media log ++ unless_tick e (loader_due media (loader_reading media log) e)

abbrev pub target_first_posts : Accepts → (first_port : ℕ) → StandingView → List Event → List DatagramView
target_first_posts accepts first_port active [] = []
target_first_posts accepts first_port active (e ∷ log) = target_first_posts accepts first_port active log ++ unless_tick e (target_due accepts (target_reading accepts first_port active log) e)

-- of all transfers of a log
abbrev pub BlocksInOrder : List DatagramView → Reading → Type 0
BlocksInOrder posts r = (t : Transfer) → Among t (past_with r.live r.past) → PostsInOrder posts t

-- In each transfer of each log in which the loader sends a file, its request or OACK goes out from the own port, and then
-- blocks 1, 2, 3 .. of the file, each first once, and none again but at a tick.
abbrev pub LoaderBlocksInOrder : Type 0
LoaderBlocksInOrder = (media : Media) (log : List Event) → BlocksInOrder (loader_first_posts media log) (loader_reading media log).end

-- So it is with the target, since it came up.
abbrev pub TargetBlocksInOrder : Type 0
TargetBlocksInOrder = (accepts : Accepts) (first_port : ℕ) (active : StandingView) (log : List Event) → 59 < first_port
    → BlocksInOrder (target_first_posts accepts first_port active log) (target_reading accepts first_port active log).end

-- At a tick a side posts nothing but what it posted last.
abbrev pub TicksRepeat : Type 0
TicksRepeat = ((media : Media) (v : LoaderView) → AllByRecursion (λ (d : DatagramView). v.end.last ≡ Some d) (loader_posts media v Ticks))
    × ((accepts : Accepts) (v : TargetView) → AllByRecursion (λ (d : DatagramView). v.end.last ≡ Some d) (target_posts accepts v Ticks))
