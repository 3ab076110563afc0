-- The two check sums of this project's formats (docs/FORMATS.md, "Check sums"), each over one list of bits.
use Rattle.std.specs.Prelude.{ℕ, zero, suc, ◌*◌, ◌-◌, ◌/◌, ◌%◌, ◌^◌, List, [], ◌∷◌, fold, bit_xor, ◌==◌, if◌then◌else◌}
use Rattle.std.specs.List.{flat_map}

-- the lowest bits of a number, this many of them, the most significant first
unfoldable pub lowest_bits : (count number : ℕ) → List ℕ
lowest_bits zero number = []
lowest_bits (suc count) number = number / 2 ^ count % 2 ∷ lowest_bits count number

-- the bits of bytes, in the order of the bytes, the most significant bit of each byte first
unfoldable pub bits_of : List ℕ → List ℕ
bits_of bytes = flat_map (lowest_bits 8) bytes

-- The register after one more bit: doubled within its width, and where the bit that leaves it at the top differs
-- from the new one, changed by exclusive or with the polynomial.
unfoldable pub register_after_bit : (width polynomial register bit : ℕ) → ℕ
register_after_bit width polynomial register bit =
    let leaving = 2 * register / 2 ^ width in
    let doubled = 2 * register % 2 ^ width in
    if leaving == bit then doubled else bit_xor doubled polynomial

-- the register after more bits, one after another
unfoldable pub register_after_bits : (width polynomial register : ℕ) → List ℕ → ℕ
register_after_bits width polynomial register bits = fold (register_after_bit width polynomial) register bits

-- the register after more bytes
unfoldable pub register_after : (width polynomial register : ℕ) → List ℕ → ℕ
register_after width polynomial register bytes = register_after_bits width polynomial register (bits_of bytes)

-- a number of this many bits, with each bit inverted
abbrev pub inverted : (width number : ℕ) → ℕ
inverted width number = 2 ^ width - 1 - number

-- CRC-16: polynomial 0x1021, from 0xFFFF, no change at the end
unfoldable pub crc16_of : List ℕ → ℕ
crc16_of bytes = register_after 16 0x1021 0xFFFF bytes

-- CRC-32: polynomial 0x04C11DB7, from 0xFFFFFFFF, all bits inverted at the end
unfoldable pub crc32_of : List ℕ → ℕ
crc32_of bytes = inverted 32 (register_after 32 0x04C11DB7 0xFFFFFFFF bytes)

-- the CRC-16 of bytes that follow others, whose CRC-16 is `sum`
unfoldable pub crc16_after : (sum : ℕ) → List ℕ → ℕ
crc16_after sum bytes = register_after 16 0x1021 sum bytes

-- the CRC-32 of bytes that follow others, whose CRC-32 is `sum`
unfoldable pub crc32_after : (sum : ℕ) → List ℕ → ℕ
crc32_after sum bytes = inverted 32 (register_after 32 0x04C11DB7 (inverted 32 sum) bytes)
