-- What holds of clean uploads, and what follows of all fault-free runs (docs/EXCHANGE.md, "A fault-free run completes").
use Rattle.std.specs.Prelude.{◌≡◌, ◌⊎◌, ℕ, ◌+◌, List, ◌++◌, true, Some, None, Contains, zero, suc}
use Rattle.load_base.specs.Config.{LoadView}
use Rattle.exchange_trace.specs.declared.trace.Side.{Side}
use Rattle.exchange_trace.specs.declared.trace.Side.TheVariants as sides
use Rattle.exchange_trace.specs.Happenings.{DatagramView, other}
use Rattle.exchange_trace.specs.Posts.{numbered}
use Rattle.replay_rules.specs.BothEnds.{Setting}
use Rattle.transfer_completion.specs.Replies.{IsOld, IsLighter}
use Rattle.session_completion.specs.Worlds.{World, delivered, retried, waits, last_of}
use Rattle.session_completion.specs.Clean.{Clean, IsNext, IsRepeated, IsAnsweredAgain, IsDone}

-- Of all that was posted, only the next datagram moves an end. Each other changes nothing, whatever the retries and the posts
-- are, and is answered by nothing, or by one datagram that was posted before and has less weight.
abbrev pub OldIsHarmless : Type 0
OldIsHarmless = (set : Setting) (loads : List LoadView) (n : ℕ) (c : World) (d : DatagramView) (loader target : ℕ) → Clean set loads n c → Contains c.posts d → (IsNext n c d → ⊥)
    → (answer : List DatagramView) × IsOld c.posts answer × IsLighter d answer
    × ((posts : List DatagramView) → delivered set (retried c loader target posts) d ≡ retried c loader target (posts ++ answer))

-- The next datagram sets the retries of the end that gets it to 0, and leaves those of the other.
abbrev pub retries_of_getter : Side → ℕ → ℕ
retries_of_getter sides.Target retries = 0
retries_of_getter sides.Loader retries = retries

abbrev pub NextMoves : Type 0
NextMoves = (set : Setting) (loads : List LoadView) (n : ℕ) (c : World) (d : DatagramView) (loader target : ℕ) → Clean set loads n c → IsNext n c d
    → (answer : List DatagramView) × ((delivered set c d).posts ≡ c.posts ++ answer)
    × ((posts : List DatagramView) → delivered set (retried c loader target posts) d
    ≡ retried (delivered set c d) (retries_of_getter d.side loader) (retries_of_getter (other d.side) target) (posts ++ answer))

-- What an end that waits posted last was posted since the start, so that a tick posts nothing new.
abbrev pub LastWasPosted : Type 0
LastWasPosted = (set : Setting) (loads : List LoadView) (n : ℕ) (c : World) (side : Side) → Clean set loads n c → waits c side ≡ true
    → (d : DatagramView) × (last_of c side ≡ Some d) × Contains c.posts d

-- Where a datagram is next, a tick at one end that waits posts it, or makes its poster post it.
abbrev pub NextComesAgain : Type 0
NextComesAgain = (set : Setting) (loads : List LoadView) (n : ℕ) (c : World) (d : DatagramView) → Clean set loads n c → IsNext n c d → IsRepeated c d ⊎ IsAnsweredAgain set c d

-- Where none is next, the upload is over at both ends.
abbrev pub LastIsDone : Type 0
LastIsDone = (set : Setting) (loads : List LoadView) (n : ℕ) (c : World) → Clean set loads n c → numbered c.posts (n + 1) ≡ None → IsDone set loads c

-- At most two datagrams were posted and not delivered.
abbrev pub FewAreAhead : Type 0
FewAreAhead = (set : Setting) (loads : List LoadView) (n : ℕ) (c : World) → Clean set loads n c → numbered c.posts (n + 3) ≡ None

-- Where two were, the first is answered by nothing.
abbrev pub TwoAreQuiet : Type 0
TwoAreQuiet = (set : Setting) (loads : List LoadView) (n : ℕ) (c : World) (d e : DatagramView) → Clean set loads n c → IsNext n c d → numbered c.posts (n + 2) ≡ Some e
    → (delivered set c d).posts ≡ c.posts

-- Uploads end: after this many deliveries none is next.
abbrev pub ComesOut : Setting → ℕ → ℕ → World → Type 0
ComesOut set zero n c = numbered c.posts (n + 1) ≡ None
ComesOut set (suc k) n c = (d : DatagramView) → IsNext n c d → ComesOut set k (n + 1) (delivered set c d)

abbrev pub AllComeOut : Type 0
AllComeOut = (set : Setting) (loads : List LoadView) (n : ℕ) (c : World) → Clean set loads n c → (k : ℕ) × ComesOut set k n c

-- all of these
pub record CleanLaws : Type 0 where
  pub old : OldIsHarmless
  pub moves : NextMoves
  pub last : LastWasPosted
  pub again : NextComesAgain
  pub done : LastIsDone
  pub few : FewAreAhead
  pub two : TwoAreQuiet
  pub come_out : AllComeOut
