-- No bytes more change nothing.
use Rattle.std.proofs.Common.{◌≡◌, ℕ, ◌+◌, ◌-◌, ◌<◌, ◌^◌, [], refl, arith}
use Rattle.std.proofs.Math.Seq.{take-nil}
use Rattle.crc_fields.specs.CheckSums.{crc16_after, register_after, register_after_bits, bits_of}
use Rattle.session_rules.specs.Buffers.{Sums, summed_more}
use Rattle.load_intake.proofs.Crcs.{crc32_after_nothing}

zero_more : (n : ℕ) → n + 0 ≡ n
zero_more n = omega arith

crc16_after_nothing : (crc : ℕ) → crc16_after crc [] ≡ crc
unfolding crc16_after register_after register_after_bits bits_of
crc16_after_nothing crc = refl

pub nothing_more : (s : Sums) → s.load_crc < 2 ^ 32 → summed_more s [] ≡ s
nothing_more s h = rw (take-nil (s.said - s.count), zero_more s.count, crc16_after_nothing s.crc16, crc32_after_nothing s.load_crc h) refl
