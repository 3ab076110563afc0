-- Registers and check sums stay in their width.
use Rattle.std.proofs.Common.{ℕ, ◌*◌, ◌/◌, ◌%◌, ◌^◌, ◌<◌, List, [], ◌∷◌, Bool, true, false, arith, if◌then◌else◌}
use Rattle.std.specs.Prelude.{bit_xor, ◌==◌}
use Rattle.std.proofs.lemmas.Nat.{xor_lt, pow_pos, mod_below}
use Rattle.crc_fields.specs.CheckSums.{bits_of, register_after_bit, register_after_bits, register_after, crc16_of, crc32_of}

changed_fits : (w p n : ℕ) (same : Bool) → p < 2 ^ w → n < 2 ^ w → (if same then n else bit_xor n p) < 2 ^ w
changed_fits w p n true p_fits n_fits = n_fits
changed_fits w p n false p_fits n_fits = xor_lt w n p n_fits p_fits

pub after_bit_fits : (width polynomial register bit : ℕ) → polynomial < 2 ^ width → register_after_bit width polynomial register bit < 2 ^ width
unfolding register_after_bit
after_bit_fits w p r bit fits = changed_fits w p (2 * r % 2 ^ w) (2 * r / 2 ^ w == bit) fits (mod_below (2 * r) (2 ^ w) (pow_pos w))

pub after_bits_fits : (width polynomial register : ℕ) (bits : List ℕ) → polynomial < 2 ^ width → register < 2 ^ width → register_after_bits width polynomial register bits < 2 ^ width
unfolding register_after_bits
after_bits_fits w p r [] p_fits r_fits = r_fits
after_bits_fits w p r (bit ∷ bits) p_fits r_fits = after_bits_fits w p (register_after_bit w p r bit) bits p_fits (after_bit_fits w p r bit p_fits)

pub register_after_fits : (width polynomial register : ℕ) (bytes : List ℕ) → polynomial < 2 ^ width → register < 2 ^ width → register_after width polynomial register bytes < 2 ^ width
unfolding register_after
register_after_fits w p r bytes p_fits r_fits = after_bits_fits w p r (bits_of bytes) p_fits r_fits

pub crc16_fits : (bytes : List ℕ) → crc16_of bytes < 2 ^ 16
unfolding crc16_of
crc16_fits bytes = register_after_fits 16 0x1021 0xFFFF bytes (omega arith) (omega arith)

pub crc32_fits : (bytes : List ℕ) → crc32_of bytes < 2 ^ 32
unfolding crc32_of
crc32_fits bytes = omega arith
