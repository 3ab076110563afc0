-- The tables have what they should have, at each of their 256 offsets.
use Rattle.std.proofs.Common.{◌≡◌, ℕ, zero, suc, List, [], ◌∷◌, length, ◌*◌, ◌/◌, ◌%◌, ◌^◌, ◌<◌, get_or, map, replicate, refl, sym, ◌∙◌, ap, lit<, arith}
use Rattle.std.specs.Prelude.{bit_xor}
use Rattle.std.specs.List.{range_with_len}
use Rattle.std.proofs.lemmas.List.{get_or-map, length-map}
use Rattle.std.proofs.lemmas.List.FromFn.{get_or-map-range_with_len, length-map-range_with_len}
use Rattle.crc_fields.specs.CheckSums.{lowest_bits, register_after_bit, register_after_bits, register_after}
use Rattle.crc_fields.proofs.Cuts.{after_nothing, after_one}
use Rattle.crc_fields.proofs.Bytes.{after_first}
use Rattle.crc_fields.proofs.Linear.{at_once}
use Rattle.crc_fields.specs.declared.table_16.TheConstants.{TABLES as TABLES_16}
use Rattle.crc_fields.specs.declared.table_32.TheConstants.{TABLES as TABLES_32}

-- what a byte makes of an empty register
entry_of : (width polynomial byte : ℕ) → ℕ
entry_of width polynomial byte = register_after_bits width polynomial 0 (lowest_bits 8 byte)

-- what a zero byte makes of a register
after_zero : (width polynomial register : ℕ) → ℕ
after_zero width polynomial register = register_after_bits width polynomial register (lowest_bits 8 0)

-- a table, and as many more as are left, each of them for one zero byte more
tables_from : (width polynomial count : ℕ) → List ℕ → List (List ℕ)
tables_from width polynomial zero table = []
tables_from width polynomial (suc count) table = table ∷ tables_from width polynomial count (map (after_zero width polynomial) table)

computed_16 : TABLES_16 ≡ tables_from 16 0x1021 16 (map (entry_of 16 0x1021) (range_with_len 0 256))
unfolding tables_from after_zero entry_of register_after_bits register_after_bit lowest_bits
computed_16 = refl

computed_32 : TABLES_32 ≡ tables_from 32 0x04C11DB7 16 (map (entry_of 32 0x04C11DB7) (range_with_len 0 256))
unfolding tables_from after_zero entry_of register_after_bits register_after_bit lowest_bits
computed_32 = refl

in_tables : (w p count index byte : ℕ) (table : List ℕ) → index < count → byte < length table
    → get_or (get_or (tables_from w p count table) index []) byte 0 ≡ register_after w p (get_or table byte 0) (replicate index 0)
unfolding tables_from after_zero
in_tables w p zero index byte table within in_table = absurd (omega (arith, within))
in_tables w p (suc count) zero byte table within in_table = sym (after_nothing w p (get_or table byte 0))
in_tables w p (suc count) (suc index) byte table within in_table =
    let next = map (after_zero w p) table in
    let in_next : byte < length next = omega (arith, in_table, length-map table (after_zero w p)) in
    in_tables w p count index byte next (omega (arith, within)) in_next
    ∙ ap (λ (r : ℕ). register_after w p r (replicate index 0)) (get_or-map (after_zero w p) table byte 0 0 in_table)
    ∙ sym (after_first w p (get_or table byte 0) 0 (replicate index 0))

in_tables_of_entries : (w p zeros byte : ℕ) → zeros < 16 → byte < 256
    → get_or (get_or (tables_from w p 16 (map (entry_of w p) (range_with_len 0 256))) zeros []) byte 0 ≡ register_after w p 0 (byte ∷ replicate zeros 0)
unfolding entry_of
in_tables_of_entries w p zeros byte within is_byte =
    let entries = map (entry_of w p) (range_with_len 0 256) in
    let in_entries : byte < length entries = omega (arith, is_byte, length-map-range_with_len (entry_of w p) 0 256) in
    in_tables w p 16 zeros byte entries within in_entries
    ∙ ap (λ (r : ℕ). register_after w p r (replicate zeros 0)) (get_or-map-range_with_len (entry_of w p) 0 256 byte byte 0 is_byte (omega arith))
    ∙ sym (after_first w p 0 byte (replicate zeros 0))

pub entry_16 : (zeros byte : ℕ) → zeros < 16 → byte < 256 → get_or (get_or TABLES_16 zeros []) byte 0 ≡ register_after 16 0x1021 0 (byte ∷ replicate zeros 0)
entry_16 zeros byte within is_byte = ap (λ tables. get_or (get_or tables zeros []) byte 0) computed_16 ∙ in_tables_of_entries 16 0x1021 zeros byte within is_byte

pub entry_32 : (zeros byte : ℕ) → zeros < 16 → byte < 256 → get_or (get_or TABLES_32 zeros []) byte 0 ≡ register_after 32 0x04C11DB7 0 (byte ∷ replicate zeros 0)
entry_32 zeros byte within is_byte = ap (λ tables. get_or (get_or tables zeros []) byte 0) computed_32 ∙ in_tables_of_entries 32 0x04C11DB7 zeros byte within is_byte

-- a byte by one entry
pub by_entry_16 : (register byte entry : ℕ) → register < 2 ^ 16 → entry ≡ register_after 16 0x1021 0 (bit_xor (register / 2 ^ 8) byte ∷ replicate 0 0)
    → bit_xor (register * 2 ^ 8 % 2 ^ 16) entry ≡ register_after_bits 16 0x1021 register (lowest_bits 8 byte)
by_entry_16 register byte entry fits is_entry =
    let moved : register * 2 ^ 8 % 2 ^ 16 ≡ register % 2 ^ 8 * 2 ^ 8 = omega arith in
    ap (λ (n : ℕ). bit_xor n entry) moved
    ∙ ap (λ (n : ℕ). bit_xor (register % 2 ^ 8 * 2 ^ 8) n) (is_entry ∙ after_one 16 0x1021 0 (bit_xor (register / 2 ^ 8) byte))
    ∙ sym (at_once 16 0x1021 8 8 register byte refl (lit< tt) fits)

-- a byte by one entry
pub by_entry_32 : (register byte entry : ℕ) → register < 2 ^ 32 → entry ≡ register_after 32 0x04C11DB7 0 (bit_xor (register / 2 ^ 24) byte ∷ replicate 0 0)
    → bit_xor (register * 2 ^ 8 % 2 ^ 32) entry ≡ register_after_bits 32 0x04C11DB7 register (lowest_bits 8 byte)
by_entry_32 register byte entry fits is_entry =
    let moved : register * 2 ^ 8 % 2 ^ 32 ≡ register % 2 ^ 24 * 2 ^ 8 = omega arith in
    ap (λ (n : ℕ). bit_xor n entry) moved
    ∙ ap (λ (n : ℕ). bit_xor (register % 2 ^ 24 * 2 ^ 8) n) (is_entry ∙ after_one 32 0x04C11DB7 0 (bit_xor (register / 2 ^ 24) byte))
    ∙ sym (at_once 32 0x04C11DB7 8 24 register byte refl (lit< tt) fits)
