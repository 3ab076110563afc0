-- Bytes one after another, each by what it and zero bytes after it make of an empty register.
use Rattle.std.proofs.Common.{◌≡◌, ℕ, ◌+◌, ◌*◌, ◌/◌, ◌%◌, ◌^◌, ◌<◌, List, [], ◌∷◌, length, replicate, sym, ◌∙◌, ap, subst, add_comm}
use Rattle.std.specs.Prelude.{bit_xor}
use Rattle.std.specs.Int.Bits.{xor_assoc, xor_zero_l}
use Rattle.std.proofs.lemmas.Nat.{pow_pos, mod_below, shl_below, xor_comm}
use Rattle.crc_fields.specs.CheckSums.{lowest_bits, register_after_bits, register_after}
use Rattle.crc_fields.proofs.WidthLemmas.{after_bits_fits}
use Rattle.crc_fields.proofs.Cuts.{after_append, after_nothing, after_one}
use Rattle.crc_fields.proofs.Linear.{at_once, bits_linear}

pub after_first : (w p r byte : ℕ) (rest : List ℕ) → register_after w p r (byte ∷ rest) ≡ register_after w p (register_after_bits w p r (lowest_bits 8 byte)) rest
after_first w p r byte rest =
    sym (after_append w p r (byte ∷ []) rest) ∙ ap (λ (x : ℕ). register_after w p x rest) (after_one w p r byte)

-- a register that is a sum goes on as its parts, of which one alone meets the bytes
bytes_linear : (w p r s : ℕ) (bytes : List ℕ) → p < 2 ^ w → r < 2 ^ w → s < 2 ^ w
    → register_after w p (bit_xor r s) bytes ≡ bit_xor (register_after w p r (replicate (length bytes) 0)) (register_after w p s bytes)
bytes_linear w p r s [] p_fits r_fits s_fits =
    after_nothing w p (bit_xor r s)
    ∙ sym (ap (λ (x : ℕ). bit_xor x (register_after w p s [])) (after_nothing w p r) ∙ ap (λ (x : ℕ). bit_xor r x) (after_nothing w p s))
bytes_linear w p r s (byte ∷ rest) p_fits r_fits s_fits =
    let next_r = register_after_bits w p r (lowest_bits 8 0) in
    let next_s = register_after_bits w p s (lowest_bits 8 byte) in
    after_first w p (bit_xor r s) byte rest
    ∙ ap (λ (x : ℕ). register_after w p (register_after_bits w p (bit_xor r s) (lowest_bits 8 x)) rest) (sym (xor_zero_l byte))
    ∙ ap (λ (x : ℕ). register_after w p x rest) (bits_linear w p p_fits 8 r s 0 byte r_fits s_fits)
    ∙ bytes_linear w p next_r next_s rest p_fits (after_bits_fits w p r (lowest_bits 8 0) p_fits r_fits) (after_bits_fits w p s (lowest_bits 8 byte) p_fits s_fits)
    ∙ ap (λ (x : ℕ). bit_xor x (register_after w p next_s rest)) (sym (after_first w p r 0 (replicate (length rest) 0)))
    ∙ ap (λ (x : ℕ). bit_xor (register_after w p r (0 ∷ replicate (length rest) 0)) x) (sym (after_first w p s byte rest))

-- a byte by an entry: it meets the register's top byte, and what is below moves up and meets the rest
pub by_entry : (w p k r byte entry : ℕ) (rest : List ℕ) → 8 + k ≡ w → p < 2 ^ w → r < 2 ^ w
    → entry ≡ register_after w p 0 (bit_xor (r / 2 ^ k) byte ∷ replicate (length rest) 0)
    → register_after w p r (byte ∷ rest) ≡ bit_xor entry (register_after w p (r % 2 ^ k * 2 ^ 8) rest)
by_entry w p k r byte entry rest size p_fits r_fits is_entry =
    let moved = r % 2 ^ k * 2 ^ 8 in
    let met = register_after_bits w p 0 (lowest_bits 8 (bit_xor (r / 2 ^ k) byte)) in
    let moved_fits : moved < 2 ^ w = subst (λ (x : ℕ). moved < 2 ^ x) (add_comm k 8 ∙ size) (shl_below (r % 2 ^ k) k 8 (mod_below r (2 ^ k) (pow_pos k))) in
    let met_fits : met < 2 ^ w = after_bits_fits w p 0 (lowest_bits 8 (bit_xor (r / 2 ^ k) byte)) p_fits (pow_pos w) in
    after_first w p r byte rest
    ∙ ap (λ (x : ℕ). register_after w p x rest) (at_once w p 8 k r byte size p_fits r_fits ∙ xor_comm moved met)
    ∙ bytes_linear w p met moved rest p_fits met_fits moved_fits
    ∙ ap (λ (x : ℕ). bit_xor x (register_after w p moved rest)) (sym (is_entry ∙ after_first w p 0 (bit_xor (r / 2 ^ k) byte) (replicate (length rest) 0)))

-- the same after others, where the register's lower bytes are `next` when they have moved up
pub by_next_entry : (w p k sum r byte entry next : ℕ) (rest : List ℕ) → 8 + k ≡ w → p < 2 ^ w → r < 2 ^ w
    → entry ≡ register_after w p 0 (bit_xor (r / 2 ^ k) byte ∷ replicate (length rest) 0) → r % 2 ^ k * 2 ^ 8 ≡ next
    → bit_xor sum (register_after w p r (byte ∷ rest)) ≡ bit_xor (bit_xor sum entry) (register_after w p next rest)
by_next_entry w p k sum r byte entry next rest size p_fits r_fits is_entry moved =
    ap (λ (x : ℕ). bit_xor sum x) (by_entry w p k r byte entry rest size p_fits r_fits is_entry ∙ ap (λ (x : ℕ). bit_xor entry (register_after w p x rest)) moved)
    ∙ sym (xor_assoc sum entry (register_after w p next rest))
