use Rattle.std.proofs.Common.{◌≡◌, take}
use Rattle.crc_fields.specs.CheckSums.{register_after}
use Rattle.crc_fields.proofs.table_16.after_bytes.Given as goal

abbrev pub invariant-loop-byte : goal.invariant-loop-byte
invariant-loop-byte l = l.register ≡ register_after 16 0x1021 l.fn.register (take l.byte-index l.bytes)
