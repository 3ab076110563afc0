-- What came in the transfers of a trace (docs/EXCHANGE.md, "Runs").
use Rattle.std.specs.Prelude.{◌⊎◌, List, [], ◌∷◌, ⊤}
use Rattle.std.specs.List.{AllByRecursion}
use Rattle.exchange_trace.specs.declared.trace.Side.{Side}
use Rattle.exchange_trace.specs.declared.trace.Side.TheVariants as sides
use Rattle.exchange_trace.specs.Happenings.{DatagramView}
use Rattle.exchange_trace.specs.Logs.{Event, Life, Up, Down, event_for, loader_log, reached, target_life}
use Rattle.exchange_trace.specs.Posts.{posted_in}
use Rattle.exchange_trace.specs.Steps.{Step}
use Rattle.transfer_end.specs.Came.{AcksWhatCame, BlocksCame, LastAcks, PacketsCame}
use Rattle.transfer_end.specs.Readings.{Reading}
use Rattle.replay_rules.specs.BothEnds.{Setting, TargetStanding, Is_up, Is_down, loader_at, target_at}
use Rattle.replay_rules.specs.Due.{AllDue}

-- The packets of each transfer came, in a datagram that reached the side; a block that was taken came as DATA, and so did
-- the one that the last datagram acknowledges.
abbrev pub TakesWhatCame : Side → List Event → Reading → Type 0
TakesWhatCame side log r = PacketsCame log r × BlocksCame log r × LastAcks side log r.last

-- the target is up with its log since then, or down
abbrev pub LifeTakesWhatCame : Life → TargetStanding → Type 0
LifeTakesWhatCame (Up first_port log) (Is_up r) = TakesWhatCame sides.Target log r.end
LifeTakesWhatCame Down (Is_down active interrupted) = ⊤
LifeTakesWhatCame life state = ⊥

-- At every moment of a trace, whatever was delivered, lost, repeated or injected, and wherever the target went down.
abbrev pub BothTakeWhatCame : Type 0
BothTakeWhatCame = (set : Setting) (steps : List Step) → TakesWhatCame sides.Loader (loader_log steps) (loader_at set steps).end × LifeTakesWhatCame (target_life steps) (target_at set steps)

-- ---- acknowledgements

-- what the target acknowledges came since it came up
abbrev pub TargetAcks : Life → DatagramView → Type 0
TargetAcks (Up first_port log) d = AcksWhatCame sides.Target log d
TargetAcks Down d = ⊥

-- of a datagram that is posted in a step, after others: what comes in the step is among what came
abbrev pub IsAckedAt : List Step → Step → DatagramView → Type 0
IsAckedAt earlier s d =
    AcksWhatCame sides.Loader (loader_log (s ∷ earlier)) d
    ⊎ TargetAcks (reached (event_for sides.Target (posted_in earlier) s.given) (target_life earlier)) d

abbrev pub AllAcked : List Step → Type 0
AllAcked [] = ⊤
AllAcked (s ∷ earlier) = AllByRecursion (IsAckedAt earlier s) s.posts × AllAcked earlier

-- Where all that was posted was due, each acknowledgement of a block was posted, first or again, only after the DATA of that
-- number came to the side that posts it, from where the acknowledgement goes.
abbrev pub DueIsAcked : Type 0
DueIsAcked = (set : Setting) (steps : List Step) → AllDue set steps → AllAcked steps
