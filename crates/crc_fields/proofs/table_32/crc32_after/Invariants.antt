use Rattle.std.proofs.Common.{◌≡◌, length}
use Rattle.crc_fields.specs.CheckSums.{register_after, inverted}
use Rattle.crc_fields.proofs.table_32.crc32_after.Given as goal

abbrev pub decreases-loop-sixteen : goal.decreases-loop-sixteen
decreases-loop-sixteen l = length l.rest

abbrev pub invariant-loop-sixteen : goal.invariant-loop-sixteen
invariant-loop-sixteen l = register_after 32 0x04C11DB7 l.register l.rest ≡ register_after 32 0x04C11DB7 (inverted 32 l.fn.sum) l.fn.bytes
