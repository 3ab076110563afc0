-- What the log of a side says of its transfers (docs/EXCHANGE.md, "Transfers").
use Rattle.std.specs.Prelude.{ℕ, ◌+◌, max, List, [], ◌∷◌, Option, Some, None, if◌then◌else◌}
use Rattle.exchange_trace.specs.Happenings.{DatagramView}
use Rattle.transfer_end.specs.Transfers.{Transfer, end_in, is_received}

pub record Reading : Type 0 where
  pub first_port : ℕ  -- that it drew first, or will
  pub past : List Transfer  -- the transfers that are over, the newest first
  pub live : Option Transfer
  pub ticks : ℕ  -- since the start of the session, or since the last datagram that was awaited
  pub last : Option DatagramView  -- what it posted last in its session, repeats of acknowledgements aside
  pub asks_size : Option ℕ  -- the block size that its requests ask for

abbrev pub new_reading : (first_port : ℕ) → Reading
new_reading first_port = record { first_port = first_port; past = []; live = None; ticks = 0; last = None; asks_size = None }

-- ---- ports

-- a port was drawn for each transfer
abbrev pub port_past : (first_port : ℕ) → List Transfer → ℕ
port_past first_port [] = first_port
port_past first_port (t ∷ earlier) = port_past first_port earlier + 1

abbrev pub port_with : ℕ → Option Transfer → ℕ
port_with port None = port
port_with port (Some t) = port + 1

-- the port that it draws next
abbrev pub next_port_of : Reading → ℕ
next_port_of r = port_with (port_past r.first_port r.past) r.live

-- ---- marks

-- the greater of a mark and the port of a transfer's other end, if that is known
abbrev pub raised_by : ℕ → Option ℕ → ℕ
raised_by mark None = mark
raised_by mark (Some port) = max mark port

-- the greatest port of another end in any of these transfers
abbrev pub mark_in : List Transfer → ℕ
mark_in [] = 0
mark_in (t ∷ earlier) = raised_by (mark_in earlier) t.peer

abbrev pub mark_with : ℕ → Option Transfer → ℕ
mark_with mark None = mark
mark_with mark (Some t) = raised_by mark t.peer

-- the mark: a request is taken only from a greater port
abbrev pub mark_of : Reading → ℕ
mark_of r = mark_with (mark_in r.past) r.live

-- ---- the kept transfer

-- the last one in which a file was received whole
abbrev pub kept_in : List Transfer → Option Transfer
kept_in [] = None
kept_in (t ∷ earlier) = if is_received (end_in t) then Some t else kept_in earlier
