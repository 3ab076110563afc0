-- Whatever happens, a world stands where a clean one stands (docs/EXCHANGE.md, "A fault-free run completes").
use Rattle.std.specs.Prelude.{◌≡◌, ℕ, ◌+◌, ◌<◌, List, true, Option, Contains}
use Rattle.load_base.specs.Config.{LoadView}
use Rattle.exchange_trace.specs.declared.trace.Side.{Side}
use Rattle.exchange_trace.specs.declared.trace.Side.TheVariants as sides
use Rattle.exchange_trace.specs.Happenings.{DatagramView, other}
use Rattle.replay_rules.specs.BothEnds.{Setting}
use Rattle.session_completion.specs.Worlds.{World, delivered, told, ticked, waits}
use Rattle.session_completion.specs.Clean.{WorldStandsAt, IsNext}
use Rattle.session_completion.specs.Laws.{retries_of_getter}

-- a datagram that is delivered changes nothing, or is the next one
pub data AfterDelivery (set : Setting) (loads : List LoadView) (n : ℕ) (c w : World) (d : DatagramView) (loader target : ℕ) : Type 0 where
  was_old : WorldStandsAt set loads n c (delivered set w d) loader target → AfterDelivery set loads n c w d loader target
  was_next : IsNext n c d → WorldStandsAt set loads (n + 1) (delivered set c d) (delivered set w d) (retries_of_getter d.side loader) (retries_of_getter (other d.side) target)
      → AfterDelivery set loads n c w d loader target

-- Any datagram that was posted may be delivered, as often as one likes.
abbrev pub DeliveringIsSafe : Type 0
DeliveringIsSafe = (set : Setting) (loads : List LoadView) (n : ℕ) (c w : World) (d : DatagramView) (loader target : ℕ) → WorldStandsAt set loads n c w loader target → Contains w.posts d
    → AfterDelivery set loads n c w d loader target

-- the retries of the two ends, with a tick more
abbrev pub ticked_at : Side → Side → ℕ → ℕ
ticked_at sides.Loader sides.Loader retries = retries + 1
ticked_at sides.Target sides.Target retries = retries + 1
ticked_at sides.Loader sides.Target retries = retries
ticked_at sides.Target sides.Loader retries = retries

abbrev pub retries_of : Side → (loader target : ℕ) → ℕ
retries_of sides.Loader loader target = loader
retries_of sides.Target loader target = target

-- An end that waits and hasn't made five retries may be ticked.
abbrev pub TickingIsSafe : Type 0
TickingIsSafe = (set : Setting) (loads : List LoadView) (n : ℕ) (c w : World) (side : Side) (loader target : ℕ) → WorldStandsAt set loads n c w loader target → waits c side ≡ true
    → retries_of side loader target < 5 → WorldStandsAt set loads n c (ticked set w side) (ticked_at side sides.Loader loader) (ticked_at side sides.Target target)

-- A block size may be told at any time.
abbrev pub TellingIsSafe : Type 0
TellingIsSafe = (set : Setting) (loads : List LoadView) (n : ℕ) (c w : World) (size : Option ℕ) (loader target : ℕ) → WorldStandsAt set loads n c w loader target
    → WorldStandsAt set loads n (told set c size) (told set w size) loader target
