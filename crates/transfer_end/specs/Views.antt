-- What an end keeps of its log (docs/EXCHANGE.md, "Transfers").
use Rattle.std.specs.Prelude.{ℕ, Option, Some, None}
use Rattle.exchange_trace.specs.Happenings.{DatagramView}
use Rattle.transfer_end.specs.Transfers.{LinkEnd, Transfer, end_in}
use Rattle.transfer_end.specs.Readings.{Reading, kept_in, mark_of, next_port_of}

-- a transfer without its packets
pub record TransferView : Type 0 where
  pub own : ℕ
  pub peer : Option ℕ
  pub end : LinkEnd

pub record EndView : Type 0 where
  pub next_port : ℕ
  pub mark : ℕ
  pub live : Option TransferView
  pub kept : Option TransferView
  pub retries : ℕ
  pub last : Option DatagramView
  pub asks_size : Option ℕ

abbrev pub transfer_view : Transfer → TransferView
transfer_view t = record { own = t.own; peer = t.peer; end = end_in t }

abbrev pub seen : Option Transfer → Option TransferView
seen None = None
seen (Some t) = Some (transfer_view t)

-- what is kept of a log
abbrev pub end_view : Reading → EndView
end_view r = record { next_port = next_port_of r; mark = mark_of r; live = seen r.live; kept = seen (kept_in r.past); retries = r.ticks; last = r.last; asks_size = r.asks_size }

abbrev pub new_end : (first_port : ℕ) → EndView
new_end first_port = record { next_port = first_port; mark = 0; live = None; kept = None; retries = 0; last = None; asks_size = None }
