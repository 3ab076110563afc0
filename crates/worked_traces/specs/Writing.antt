-- How a run is written down.
use Rattle.std.specs.Prelude.{ℕ, List, [], Result, Ok, Err}
use Rattle.hex.specs.Hex.{decode_of}
use Rattle.hex.specs.declared.error.FromHexError.{FromHexError}
use Rattle.exchange_trace.specs.declared.trace.Side.TheVariants as sides
use Rattle.exchange_trace.specs.Happenings.{DatagramView, HappeningView}
use Rattle.exchange_trace.specs.Steps.{Note, Step}

abbrev decoded : Result (List ℕ) FromHexError → List ℕ
decoded (Ok bytes) = bytes
decoded (Err wrong) = []

-- the bytes that hexadecimal digits write
abbrev pub hex : List ℕ → List ℕ
hex digits = decoded (decode_of digits)

-- a datagram of the loader, and one of the target: the ports and the payload in hexadecimal digits
abbrev pub l : (from to : ℕ) → List ℕ → DatagramView
l from to digits = record { side = sides.Loader; from = from; to = to; bytes = hex digits }

abbrev pub t : (from to : ℕ) → List ℕ → DatagramView
t from to digits = record { side = sides.Target; from = from; to = to; bytes = hex digits }

-- something that happened, and what was posted then
abbrev pub on : HappeningView → List DatagramView → Step
on h posts = record { given = h; posts = posts; notes = [] }

-- with what was noted of the target
abbrev pub noting : HappeningView → List DatagramView → List Note → Step
noting h posts notes = record { given = h; posts = posts; notes = notes }
