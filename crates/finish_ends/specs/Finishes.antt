-- A `finish` as it goes on, and how long it may (docs/EXCHANGE.md, "Every `finish` ends").
use Rattle.std.specs.Prelude.{◌≡◌, ℕ, ◌+◌, ◌*◌, ◌≤◌, List, [], ◌∷◌, ◌++◌, length, true, Option, Some, None, ⊤}
use Rattle.exchange_trace.specs.declared.trace.Side.{Side}
use Rattle.exchange_trace.specs.Following.{Finishing, Turn, goes_on}
use Rattle.exchange_trace.specs.Happenings.{DatagramView, Delivered, HappeningView, Ticked, other}
use Rattle.exchange_trace.specs.Lines.{Line}
use Rattle.exchange_trace.specs.Posts.{numbered, posted_in, undelivered_after}
use Rattle.exchange_trace.specs.Steps.{Step}
use Rattle.replay_rules.specs.BothEnds.{Setting, waiting}
use Rattle.replay_rules.specs.Changes.{AllCarryBytes}
use Rattle.replay_rules.specs.Due.{AllDue, AllNoted}
use Rattle.replay_rules.specs.Runs.{IsQuiet, scene_at}

-- What a `finish` gives after these steps: the least undelivered datagram is delivered; where none is undelivered, a side
-- that waits is ticked.
pub data IsOfFinish (set : Setting) (steps : List Step) : HappeningView → Type 0 where
  delivers : (n : ℕ) (others : List ℕ) (d : DatagramView) → undelivered_after steps ≡ n ∷ others → numbered (posted_in steps) n ≡ Some d
      → IsOfFinish set steps (Delivered (other d.side) n)
  ticks : (side : Side) → undelivered_after steps ≡ [] → waiting set side steps ≡ true → IsOfFinish set steps (Ticked side)

-- In each of these steps, which follow others, such a thing happens.
abbrev pub AllOfFinish : Setting → (more steps : List Step) → Type 0
AllOfFinish set [] steps = ⊤
AllOfFinish set (s ∷ more) steps = IsOfFinish set (more ++ steps) s.given × AllOfFinish set more steps

-- All that was posted was due, only that was noted which may be, and datagrams carry bytes.
pub record IsRun (set : Setting) (steps : List Step) : Type 0 where
  pub due : AllDue set steps
  pub noted : AllNoted set steps
  pub carries : AllCarryBytes steps

-- The most happenings of a `finish` that begins where nothing is undelivered. Either side draws 65,536 ports at most. A port
-- counts for 1,400,000, which is more than its transfer can come to: of its blocks, with its request, there are 65,538 at
-- most, and each counts for 20, with the ticks and answers that may come after it. The last 18 are ticks.
abbrev pub most_of_finish : ℕ
most_of_finish = 2 * (1400000 * 65536 + 20 * 65538 + 18)

-- Each `finish` ends, whatever was delivered, lost, repeated, late or injected before, and wherever power was lost: it has so
-- many happenings at most, and two more for each datagram that is undelivered as it begins. The target may go down in it.
abbrev pub FinishEnds : Type 0
FinishEnds = (set : Setting) (steps more : List Step) → IsRun set (more ++ steps) → AllOfFinish set more steps
    → length more ≤ most_of_finish + 2 * length (undelivered_after steps)

-- ---- the `finish` of a script

-- What a script's `finish` gives is that, whichever side's turn it is to be ticked.
abbrev pub ScriptGivesFinish : Type 0
ScriptGivesFinish = (set : Setting) (steps : List Step) (first : Side) (lines : List Line) (t : Turn)
    → (◌≡◌ {A = Option Turn} (goes_on (scene_at set steps) (Finishing first) lines) (Some t)) → IsOfFinish set steps t.given

-- And where it gives nothing more, nothing is undelivered and no session is live.
abbrev pub FinishLeavesQuiet : Type 0
FinishLeavesQuiet = (set : Setting) (steps : List Step) (first : Side) (lines : List Line)
    → (◌≡◌ {A = Option Turn} (goes_on (scene_at set steps) (Finishing first) lines) None) → IsQuiet set steps
