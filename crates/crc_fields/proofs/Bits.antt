-- Bits one after another.
use Rattle.std.proofs.Common.{◌≡◌, ℕ, zero, suc, ◌-◌, ◌/◌, ◌%◌, ◌^◌, ◌<◌, refl, ap, arith}
use Rattle.crc_fields.specs.CheckSums.{lowest_bits, register_after_bit, register_after_bits}

-- the end of a loop over bits
pub no_bits : (width polynomial register number count : ℕ) → count ≡ 0 → register_after_bits width polynomial register (lowest_bits count number) ≡ register
unfolding register_after_bits lowest_bits
no_bits width polynomial register number zero none = refl
no_bits width polynomial register number (suc count) none = absurd (omega arith)

-- a loop's step over bits
pub next_bit : (width polynomial register number count : ℕ) → 0 < count
    → register_after_bits width polynomial register (lowest_bits count number)
    ≡ register_after_bits width polynomial (register_after_bit width polynomial register (number / 2 ^ (count - 1) % 2)) (lowest_bits (count - 1) number)
unfolding register_after_bits lowest_bits
next_bit width polynomial register number zero some = absurd (omega arith)
next_bit width polynomial register number (suc count) some =
    let same : count ≡ suc count - 1 = omega arith in
    ap (λ (n : ℕ). register_after_bits width polynomial (register_after_bit width polynomial register (number / 2 ^ n % 2)) (lowest_bits n number)) same
