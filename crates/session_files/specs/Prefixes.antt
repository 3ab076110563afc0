-- How much is kept of a file that arrives (docs/EXCHANGE.md, "What an end keeps").
use Rattle.std.specs.Prelude.{◌≡◌, length, min}
use Rattle.session_rules.specs.Buffers.{Buffer, buffer_size}

-- the prefix has all bytes of the file that came, up to the most that are kept
pub record IsFilled (b : Buffer) : Type 0 where
  pub filled : length b.prefix ≡ min b.count buffer_size
