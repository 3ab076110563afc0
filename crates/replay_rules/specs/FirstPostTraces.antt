-- The order in which blocks are first posted in a trace (docs/EXCHANGE.md, "Runs").
use Rattle.std.specs.Prelude.{List, [], ◌∷◌, ◌++◌, Bool, true, false, filter, if◌then◌else◌, ⊤}
use Rattle.exchange_trace.specs.declared.trace.Side.{Side}
use Rattle.exchange_trace.specs.declared.trace.Side.TheVariants as sides
use Rattle.exchange_trace.specs.Happenings.{DatagramView, HappeningView, Ticked, is_same_side}
use Rattle.exchange_trace.specs.Steps.{Step}
use Rattle.session_rules.specs.FirstPosts.{BlocksInOrder}
use Rattle.replay_rules.specs.BothEnds.{Is_down, Is_up, Setting, TargetStanding, loader_at, target_at}
use Rattle.replay_rules.specs.Due.{AllDue, AllNoted}

abbrev pub is_tick : HappeningView → Bool
is_tick (Ticked side) = true
is_tick h = false

abbrev pub posts_of_side : Side → List DatagramView → List DatagramView
posts_of_side side posts = filter (λ (d : DatagramView). is_same_side side d.side) posts

-- what a side posted in a trace, ticks aside, the oldest first: at a tick it posts again what it posted last
abbrev pub first_posts : Side → List Step → List DatagramView
first_posts side [] = []
first_posts side (s ∷ earlier) = first_posts side earlier ++ (if is_tick s.given then [] else posts_of_side side s.posts)

abbrev pub TargetInOrder : List DatagramView → TargetStanding → Type 0
TargetInOrder posts (Is_up r) = BlocksInOrder posts r.end
TargetInOrder posts (Is_down active interrupted) = ⊤

-- Where all that was posted was due, in each transfer of the loader in which it sends a file, the datagrams that it posted
-- from its own port, ticks aside, are its request or OACK, if it has one, and then blocks 1, 2, 3 .. of the file in their
-- order, each once.
abbrev pub LoaderPostsInOrder : Type 0
LoaderPostsInOrder = (set : Setting) (steps : List Step) → AllDue set steps → BlocksInOrder (first_posts sides.Loader steps) (loader_at set steps).end

-- So it is of the transfers of the target since it came up, where only that was noted which may be.
abbrev pub TargetPostsInOrder : Type 0
TargetPostsInOrder = (set : Setting) (steps : List Step) → AllDue set steps → AllNoted set steps → TargetInOrder (first_posts sides.Target steps) (target_at set steps)
