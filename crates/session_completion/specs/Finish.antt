-- How a run is finished, over worlds: what is undelivered goes in the order of its posts, and where nothing is, the ends that
-- wait are ticked in turn (docs/EXCHANGE.md, "A fault-free run completes").
use Rattle.std.specs.Prelude.{◌≡◌, ℕ, ◌+◌, ◌≤◌, List, [], ◌∷◌, ◌++◌, Option, Some, None, if◌then◌else◌}
use Rattle.load_base.specs.Config.{LoadView}
use Rattle.exchange_trace.specs.declared.trace.Side.{Side}
use Rattle.exchange_trace.specs.Happenings.{DatagramView, other}
use Rattle.exchange_trace.specs.Posts.{numbered}
use Rattle.replay_rules.specs.BothEnds.{Setting}
use Rattle.session_completion.specs.Worlds.{World, delivered, ticked, waits}
use Rattle.session_completion.specs.Clean.{WorldStandsAt, AreAmong, IsDone}

-- the side that is ticked: the one whose turn it is, or else the other, if it waits
abbrev pub tick_in : World → Side → Option Side
tick_in w first =
    if waits w first then Some first
    else if waits w (other first) then Some (other first)
    else None

-- A world with this queue comes to an end. The new posts of a step are those behind the posts before it.
pub data WorldFinishes (set : Setting) : World → List DatagramView → (first : Side) → World → Type 0 where
  done : (w : World) (first : Side) → tick_in w first ≡ None → WorldFinishes set w [] first w
  delivers : (w last : World) (d : DatagramView) (queue new : List DatagramView) (first : Side) → (delivered set w d).posts ≡ w.posts ++ new
      → WorldFinishes set (delivered set w d) (queue ++ new) first last → WorldFinishes set w (d ∷ queue) first last
  ticks : (w last : World) (side : Side) (new : List DatagramView) (first : Side) → tick_in w first ≡ Some side → (ticked set w side).posts ≡ w.posts ++ new
      → WorldFinishes set (ticked set w side) new (other side) last → WorldFinishes set w [] first last

-- It comes to an end, where a clean upload is done.
pub record ComesToEnd (set : Setting) (loads : List LoadView) (w : World) (queue : List DatagramView) (first : Side) : Type 0 where
  pub last : World
  pub finishes : WorldFinishes set w queue first last
  pub n : ℕ
  pub c : World
  pub loader : ℕ
  pub target : ℕ
  pub stands : WorldStandsAt set loads n c last loader target
  pub none : numbered c.posts (n + 1) ≡ None
  pub is_done : IsDone set loads c

-- Within the margin every world that stands where a clean one stands comes to an end, done, whatever is undelivered of what
-- was posted in it.
abbrev pub UploadFinishEnds : Type 0
UploadFinishEnds = (set : Setting) (loads : List LoadView) (n : ℕ) (c w : World) (loader target : ℕ) (queue : List DatagramView) (first : Side)
    → WorldStandsAt set loads n c w loader target → AreAmong w.posts queue → loader ≤ 2 → target ≤ 2 → ComesToEnd set loads w queue first
