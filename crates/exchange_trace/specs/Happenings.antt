-- What happens to the two sides, with lists as they are seen without their spare capacity (docs/EXCHANGE.md, "Trace").
use Rattle.std.specs.Prelude.{ℕ, List, Bool, true, false, Option}
use Rattle.exchange_trace.specs.declared.trace.Side.{Side}
use Rattle.exchange_trace.specs.declared.trace.Side.TheVariants as sides
use Rattle.exchange_trace.specs.declared.trace.Datagram.{Datagram}
use Rattle.exchange_trace.specs.declared.trace.Happening.{Happening}
use Rattle.exchange_trace.specs.declared.trace.Happening.TheVariants as happenings

-- the other side
abbrev pub other : Side → Side
other sides.Loader = sides.Target
other sides.Target = sides.Loader

abbrev pub is_loader : Side → Bool
is_loader sides.Loader = true
is_loader sides.Target = false

abbrev pub is_same_side : Side → Side → Bool
is_same_side sides.Loader side = is_loader side
is_same_side sides.Target side = is_loader (other side)

-- a datagram: the side that posts it, the two ports, the payload
pub record DatagramView : Type 0 where
  pub side : Side
  pub from : ℕ
  pub to : ℕ
  pub bytes : List ℕ

abbrev pub datagram_view : Datagram → DatagramView
datagram_view d = record { side = d.from_side; from = d.from; to = d.to; bytes = d.bytes.items }

pub data HappeningView : Type 0 where
  Delivered : Side → ℕ → HappeningView  -- the side gets the datagram of this number
  Lost : ℕ → HappeningView  -- the datagram of this number is lost
  Injected : DatagramView → HappeningView  -- the other side gets a datagram that this one didn't post
  Ticked : Side → HappeningView  -- the side's timer expires
  Size_told : Option ℕ → HappeningView  -- both sides learn the block size that requests ask for
  Power_cut : (calls pick : ℕ) → HappeningView  -- the disk loses power at a call to come, or at once
  Booted : HappeningView  -- the target is switched off and on
  Info_started : (hw pos : List ℕ) → HappeningView
  Upload_started : (hw pos : List ℕ) → (parts : List (List ℕ)) → HappeningView
  Ended : HappeningView  -- nothing happens any more

abbrev pub happening_view : Happening → HappeningView
happening_view (happenings.ToLoader n) = Delivered sides.Loader n
happening_view (happenings.ToTarget n) = Delivered sides.Target n
happening_view (happenings.Lost n) = Lost n
happening_view (happenings.Injected d) = Injected (datagram_view d)
happening_view happenings.TickLoader = Ticked sides.Loader
happening_view happenings.TickTarget = Ticked sides.Target
happening_view (happenings.BlockSize size) = Size_told size
happening_view (happenings.Power calls pick) = Power_cut calls pick
happening_view happenings.Boot = Booted
happening_view (happenings.StartInfo hw pos) = Info_started hw pos
happening_view (happenings.StartUpload hw pos parts) = Upload_started hw pos parts.items
happening_view happenings.End = Ended
