use Rattle.std.proofs.Common.{◌≡◌, length}
use Rattle.crc_fields.specs.CheckSums.{register_after}
use Rattle.crc_fields.proofs.table_16.crc16_after.Given as goal

abbrev pub decreases-loop-sixteen : goal.decreases-loop-sixteen
decreases-loop-sixteen l = length l.rest

abbrev pub invariant-loop-sixteen : goal.invariant-loop-sixteen
invariant-loop-sixteen l = register_after 16 0x1021 l.register l.rest ≡ register_after 16 0x1021 l.fn.sum l.fn.bytes
