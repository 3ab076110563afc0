-- Check sums that go on with nothing.
use Rattle.std.specs.Prelude.{◌≡◌, ℕ, ◌-◌, ◌<◌, ◌^◌, []}
use Rattle.std.proofs.Common.{arith}
use Rattle.crc_fields.specs.CheckSums.{crc32_after, register_after, register_after_bits, bits_of}

take_back : (n : ℕ) → n < 2 ^ 32 → 2 ^ 32 - 1 - (2 ^ 32 - 1 - n) ≡ n
take_back n h = omega arith

pub crc32_after_nothing : (crc : ℕ) → crc < 2 ^ 32 → crc32_after crc [] ≡ crc
unfolding crc32_after register_after register_after_bits bits_of
crc32_after_nothing crc h = take_back crc h
