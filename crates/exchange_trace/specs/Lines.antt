-- What a line of a script says (docs/FORMATS.md, "Script").
use Rattle.std.specs.Prelude.{ℕ, List, Option}
use Rattle.exchange_trace.specs.declared.trace.Side.{Side}
use Rattle.exchange_trace.specs.Happenings.{DatagramView}

pub data Line : Type 0 where
  Info : (hw pos : List ℕ) → Line  -- `info HW POS` starts an information session
  Upload : (hw pos : List ℕ) → (parts : List (List ℕ)) → Line  -- `upload HW POS PART ..` starts an upload
  Give : ℕ → Line  -- `give N` delivers datagram N, if it was posted
  Lose : ℕ → Line  -- `lose N` loses datagram N, if it was posted and not delivered
  Next : ℕ → Line  -- `next K` delivers K undelivered datagrams, the least numbers first
  Tick : Side → Line  -- `tick SIDE`
  Inject : DatagramView → Line  -- `inject SIDE FROM TO HEX`
  Power : (calls pick : ℕ) → Line  -- `power CALLS PICK`
  Boot : Line  -- `boot`
  Blksize : Option ℕ → Line  -- `blksize N`, 0 for none
  Finish : Line  -- `finish` delivers and ticks until nothing is undelivered and no side waits
