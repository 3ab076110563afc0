-- Where the datagrams of a trace go, and from which ports (docs/EXCHANGE.md, "Runs").
use Rattle.std.specs.Prelude.{◌⊎◌, ◌≤◌, List, [], ◌∷◌, length, Option, Some, None, ⊤}
use Rattle.std.specs.List.{AllByRecursion}
use Rattle.exchange_trace.specs.declared.trace.Side.{Side}
use Rattle.exchange_trace.specs.declared.trace.Side.TheVariants as sides
use Rattle.exchange_trace.specs.Happenings.{DatagramView}
use Rattle.exchange_trace.specs.Logs.{Event, event_for}
use Rattle.exchange_trace.specs.Posts.{posted_in}
use Rattle.exchange_trace.specs.Steps.{Step}
use Rattle.transfer_end.specs.Laws.{PortsCountUp}
use Rattle.transfer_end.specs.Placed.{IsPlaced}
use Rattle.transfer_end.specs.Views.{EndView, end_view}
use Rattle.replay_rules.specs.BothEnds.{Setting, TargetStanding, Is_up, Is_down, loader_at, target_at}
use Rattle.replay_rules.specs.Due.{AllDue}

-- the datagram goes where it may, of a side that something reaches
abbrev pub IsPlacedOf : Side → EndView → Option Event → DatagramView → Type 0
IsPlacedOf side v None d = ⊥
IsPlacedOf side v (Some e) d = IsPlaced side v e d

abbrev pub IsPlacedOfTarget : TargetStanding → Option Event → DatagramView → Type 0
IsPlacedOfTarget (Is_up r) e d = IsPlacedOf sides.Target (end_view r.end) e d
IsPlacedOfTarget (Is_down active interrupted) e d = ⊥

-- a datagram that is posted in a step, after others
abbrev pub IsPlacedAt : Setting → List Step → Step → DatagramView → Type 0
IsPlacedAt set earlier s d =
    IsPlacedOf sides.Loader (end_view (loader_at set earlier).end) (event_for sides.Loader (posted_in earlier) s.given) d
    ⊎ IsPlacedOfTarget (target_at set earlier) (event_for sides.Target (posted_in earlier) s.given) d

abbrev pub AllStepsPlaced : Setting → List Step → Type 0
AllStepsPlaced set [] = ⊤
AllStepsPlaced set (s ∷ earlier) = AllByRecursion (IsPlacedAt set earlier s) s.posts × AllStepsPlaced set earlier

-- Where all that was posted was due, each datagram went to port 59 or back to where the datagram of its step came from, or
-- repeated at a tick what its side posted last; and a side that nothing reaches posts nothing. So a transfer's end sends
-- again what it sent before at a tick alone, or where a packet comes again.
abbrev pub DueIsPlaced : Type 0
DueIsPlaced = (set : Setting) (steps : List Step) → AllDue set steps → AllStepsPlaced set steps

-- And in each step at most two datagrams were posted, by both sides together.
abbrev pub DueIsTwoAtMost : Type 0
DueIsTwoAtMost = (set : Setting) (steps : List Step) → AllDue set steps → AllByRecursion (λ (s : Step). length s.posts ≤ 2) steps

abbrev pub TargetCountsUp : TargetStanding → Type 0
TargetCountsUp (Is_up r) = PortsCountUp r.end
TargetCountsUp (Is_down active interrupted) = ⊤

-- At every moment the own ports of the loader, and those of the target since it came up, strictly rise, and none serves two
-- transfers.
abbrev pub PortsRise : Type 0
PortsRise = (set : Setting) (steps : List Step) → PortsCountUp (loader_at set steps).end × TargetCountsUp (target_at set steps)
