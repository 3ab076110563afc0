-- What both ends keep is enough (docs/EXCHANGE.md, "What an end keeps").
use Rattle.std.specs.Prelude.{◌≡◌, ◌≤◌, ℕ, List, ◌∷◌, length}
use Rattle.std.specs.List.{AllByRecursion}
use Rattle.disk_layout.specs.Holds.{StandingView}
use Rattle.exchange_trace.specs.declared.trace.Side.TheVariants as sides
use Rattle.exchange_trace.specs.Logs.{Event}
use Rattle.transfer_end.specs.Came.{AcksWhatCame, BlocksCame, PacketsCame}
use Rattle.transfer_end.specs.Laws.{PortsCountUp}
use Rattle.transfer_end.specs.Placed.{ArePlaced}
use Rattle.accept_rules.specs.Permissions.{Accepts}
use Rattle.session_rules.specs.Loader.{LoaderView, loader_after, loader_posts}
use Rattle.session_rules.specs.LoaderLog.{loader_reading, loader_view}
use Rattle.session_rules.specs.MediaFiles.{Media}
use Rattle.session_rules.specs.Target.{TargetView, target_after, target_posts}
use Rattle.session_rules.specs.TargetLog.{target_reading, target_view}

-- After one event more, what the loader keeps is what is kept of its log then.
abbrev pub LoaderFollows : Type 0
LoaderFollows = (media : Media) (log : List Event) (e : Event)
    → loader_after media (loader_view (loader_reading media log)) e ≡ loader_view (loader_reading media (e ∷ log))

-- So it is with the target, whatever its interlock accepts. It keeps lengths and running check sums where the log has all
-- contents.
abbrev pub TargetFollows : Type 0
TargetFollows = (accepts : Accepts) (first_port : ℕ) (active : StandingView) (log : List Event) (e : Event)
    → target_after accepts (target_view (target_reading accepts first_port active log)) e
    ≡ target_view (target_reading accepts first_port active (e ∷ log))

-- Whatever a side keeps and whatever reaches it, each datagram that it posts is a request to port 59, an answer to where
-- the datagram of this moment came from, which is what the end of its transfer sends at that packet, or at a tick what it
-- posted last.
abbrev pub AllArePlaced : Type 0
AllArePlaced = ((media : Media) (v : LoaderView) (e : Event) → ArePlaced sides.Loader v.end e (loader_posts media v e))
    × ((accepts : Accepts) (v : TargetView) (e : Event) → ArePlaced sides.Target v.end e (target_posts accepts v e))

-- And at whatever reaches a side it posts at most two datagrams.
abbrev pub TwoAtMost : Type 0
TwoAtMost = ((media : Media) (v : LoaderView) (e : Event) → length (loader_posts media v e) ≤ 2)
    × ((accepts : Accepts) (v : TargetView) (e : Event) → length (target_posts accepts v e) ≤ 2)

-- In each log a side's own ports strictly rise, and none serves two transfers.
abbrev pub LogsCountUp : Type 0
LogsCountUp = ((media : Media) (log : List Event) → PortsCountUp (loader_reading media log).end)
    × ((accepts : Accepts) (first_port : ℕ) (active : StandingView) (log : List Event) → PortsCountUp (target_reading accepts first_port active log).end)

-- In each log of the loader, the packets of each transfer came from its other end to its own port, and where the transfer
-- receives a file, the block that was taken last came as DATA.
abbrev pub LoaderTakesWhatCame : Type 0
LoaderTakesWhatCame = (media : Media) (log : List Event) → PacketsCame log (loader_reading media log).end × BlocksCame log (loader_reading media log).end

-- So it is with the target, since it came up.
abbrev pub TargetTakesWhatCame : Type 0
TargetTakesWhatCame = (accepts : Accepts) (first_port : ℕ) (active : StandingView) (log : List Event)
    → PacketsCame log (target_reading accepts first_port active log).end × BlocksCame log (target_reading accepts first_port active log).end

-- Each acknowledgement of a block that the loader posts, first or again, goes to a port from which the DATA of that number
-- came before, or comes now.
abbrev pub LoaderAcksWhatCame : Type 0
LoaderAcksWhatCame = (media : Media) (log : List Event) (e : Event) → AllByRecursion (AcksWhatCame sides.Loader (e ∷ log)) (loader_posts media (loader_view (loader_reading media log)) e)

-- So it is with the target, since it came up.
abbrev pub TargetAcksWhatCame : Type 0
TargetAcksWhatCame = (accepts : Accepts) (first_port : ℕ) (active : StandingView) (log : List Event) (e : Event)
    → AllByRecursion (AcksWhatCame sides.Target (e ∷ log)) (target_posts accepts (target_view (target_reading accepts first_port active log)) e)
