-- Check sums of known bytes, computed from the definition.
use Rattle.std.proofs.Common.{◌≡◌, refl}
use Rattle.std.specs.Prelude.{codes}
use Rattle.crc_fields.specs.CheckSums.{lowest_bits, bits_of, register_after_bit, register_after_bits, register_after, crc16_of, crc32_of}

pub crc16_known : crc16_of (codes "123456789") ≡ 0x29B1
unfolding crc16_of register_after register_after_bits register_after_bit bits_of lowest_bits
crc16_known = refl

pub crc32_known : crc32_of (codes "123456789") ≡ 0xFC89_1918
unfolding crc32_of register_after register_after_bits register_after_bit bits_of lowest_bits
crc32_known = refl
