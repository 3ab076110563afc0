-- What a line of a fleet's script says (docs/FORMATS.md, "Script of a fleet").
use Rattle.std.specs.Prelude.{ℕ, List}
use Rattle.exchange_trace.specs.Lines.{Line}

pub data FleetLine : Type 0 where
  Line_at : (unit : ℕ) → Line → FleetLine  -- `at N` and a line of a single target; only those that give one happening are read
  Give_numbered : ℕ → FleetLine  -- `give N` delivers the fleet's datagram N, if it was posted
  Lose_numbered : ℕ → FleetLine  -- `lose N` loses the fleet's datagram N, if it was posted and not delivered
  Next_of_all : ℕ → FleetLine  -- `next K` delivers K undelivered datagrams, the fleet's least numbers first
  Finish_all : FleetLine  -- `finish` delivers and ticks until nothing is undelivered and no side waits at any unit
  Begin_batch : (part : List ℕ) → FleetLine  -- `batch PART` makes this batch the running one
  Ask_next : FleetLine  -- `asknext` asks for the upload to the next target of the running batch, if that may be
  Finish_batch : FleetLine  -- `finishbatch` is `asknext` and `finish` in turn until `asknext` gives nothing
