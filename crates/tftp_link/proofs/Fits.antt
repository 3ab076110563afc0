-- A file that fits the block size that was said, or 512.
use Rattle.std.proofs.Common.{◌≡◌, ℕ, ◌≤◌, true, Option, Some, None, arith}
use Rattle.std.specs.Prelude.{unwrap_or}
use Rattle.tftp_link.specs.Negotiation.{block_count, fits_said}

pub said_fits : (n : ℕ) (said : Option ℕ) → n ≤ 16777215 → fits_said n said ≡ true → block_count n (unwrap_or said 512) ≤ 65535
said_fits n None small e = grind arith
said_fits n (Some size) small e = grind arith
