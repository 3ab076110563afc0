use Rattle.std.proofs.Common.{◌≡◌}
use Rattle.crc_fields.specs.CheckSums.{lowest_bits, register_after_bits}
use Rattle.crc_fields.proofs.bitwise.after_byte_16.Given as goal

-- the bits that are left lead where all eight do
abbrev pub invariant-loop-bit : goal.invariant-loop-bit
invariant-loop-bit l =
    register_after_bits 16 0x1021 l.register (lowest_bits l.bit l.byte) ≡ register_after_bits 16 0x1021 l.fn.register (lowest_bits 8 l.byte)
