-- Bytes cut into pieces.
use Rattle.std.proofs.Common.{◌≡◌, ℕ, ◌+◌, ◌^◌, ◌<◌, List, [], ◌∷◌, ◌++◌, length, take, drop, take-append-drop, get_or, refl, sym, ◌∙◌, ap, arith}
use Rattle.std.proofs.lemmas.List.{take_more, append-nil}
use Rattle.std.proofs.lemmas.Grind.{fold-append, flat_map-append}
use Rattle.crc_fields.specs.CheckSums.{lowest_bits, bits_of, register_after_bit, register_after_bits, register_after, inverted, crc16_of, crc32_of, crc16_after, crc32_after}
use Rattle.crc_fields.proofs.WidthLemmas.{register_after_fits}

pub after_append : (width polynomial register : ℕ) (first rest : List ℕ)
    → register_after width polynomial (register_after width polynomial register first) rest ≡ register_after width polynomial register (first ++ rest)
unfolding register_after register_after_bits bits_of
after_append width polynomial register first rest =
    sym (ap (λ (bits : List ℕ). register_after_bits width polynomial register bits) (flat_map-append (lowest_bits 8) first rest)
    ∙ fold-append (register_after_bit width polynomial) register (bits_of first) (bits_of rest))

pub after_nothing : (width polynomial register : ℕ) → register_after width polynomial register [] ≡ register
unfolding register_after register_after_bits bits_of
after_nothing width polynomial register = refl

pub after_one : (width polynomial register byte : ℕ) → register_after width polynomial register (byte ∷ []) ≡ register_after_bits width polynomial register (lowest_bits 8 byte)
unfolding register_after register_after_bits bits_of
after_one width polynomial register byte = ap (λ (bits : List ℕ). register_after_bits width polynomial register bits) (append-nil (lowest_bits 8 byte))

-- a loop's step over a prefix of the bytes that are left
pub after_prefix : (width polynomial register n : ℕ) (bytes : List ℕ) {prefix behind : List ℕ} → prefix ≡ take n bytes → behind ≡ drop n bytes
    → register_after width polynomial (register_after width polynomial register prefix) behind ≡ register_after width polynomial register bytes
after_prefix width polynomial register n bytes {prefix} {behind} is_prefix is_behind =
    after_append width polynomial register prefix behind
    ∙ ap (λ (all : List ℕ). register_after width polynomial register all)
    (ap (λ (first : List ℕ). first ++ behind) is_prefix ∙ ap (λ (rest : List ℕ). take n bytes ++ rest) is_behind ∙ take-append-drop n bytes)

-- a loop's step over bytes
pub after_more : (width polynomial register : ℕ) (bytes : List ℕ) (i : ℕ) → i < length bytes
    → register_after width polynomial register (take (i + 1) bytes) ≡ register_after_bits width polynomial (register_after width polynomial register (take i bytes)) (lowest_bits 8 (get_or bytes i 0))
after_more width polynomial register bytes i within =
    ap (λ (all : List ℕ). register_after width polynomial register all) (take_more bytes i 0 within)
    ∙ sym (after_append width polynomial register (take i bytes) (get_or bytes i 0 ∷ []))
    ∙ after_one width polynomial (register_after width polynomial register (take i bytes)) (get_or bytes i 0)

pub crc16_of_nothing : crc16_of [] ≡ 0xFFFF
unfolding crc16_of
crc16_of_nothing = after_nothing 16 0x1021 0xFFFF

pub crc32_of_nothing : crc32_of [] ≡ 0
unfolding crc32_of
crc32_of_nothing = ap (λ (register : ℕ). inverted 32 register) (after_nothing 32 0x04C11DB7 0xFFFFFFFF)

pub crc16_joined : (first rest : List ℕ) → crc16_after (crc16_of first) rest ≡ crc16_of (first ++ rest)
unfolding crc16_of crc16_after
crc16_joined first rest = after_append 16 0x1021 0xFFFF first rest

pub crc32_joined : (first rest : List ℕ) → crc32_after (crc32_of first) rest ≡ crc32_of (first ++ rest)
unfolding crc32_of crc32_after
crc32_joined first rest =
    let before = register_after 32 0x04C11DB7 0xFFFFFFFF first in
    let fits : before < 2 ^ 32 = register_after_fits 32 0x04C11DB7 0xFFFFFFFF first (omega arith) (omega arith) in
    let back : inverted 32 (inverted 32 before) ≡ before = omega arith in
    ap (λ (register : ℕ). inverted 32 (register_after 32 0x04C11DB7 register rest)) back
    ∙ ap (λ (register : ℕ). inverted 32 register) (after_append 32 0x04C11DB7 0xFFFFFFFF first rest)
