-- Sixteen bytes by an entry for each, of which the first meet the register.
use Rattle.std.proofs.Common.{◌≡◌, ℕ, ◌+◌, List, [], ◌∷◌, length, w16, w32, ◌*◌, ◌/◌, ◌%◌, ◌^◌, ◌<◌, fold, get_or, replicate, refl, sym, ◌∙◌, ap, lit<, arith}
use Rattle.std.specs.Prelude.{bit_xor}
use Rattle.std.specs.Int.{to_be_bytes}
use Rattle.std.specs.Int.Bits.{xor_zero_l, xor_zero_r}
use Rattle.std.proofs.Math.Nat.{zero-div}
use Rattle.std.proofs.lemmas.Nat.{pow_pos}
use Rattle.crc_fields.specs.CheckSums.{register_after}
use Rattle.crc_fields.proofs.Cuts.{after_nothing}
use Rattle.crc_fields.proofs.Bytes.{by_entry, by_next_entry}

-- what a byte and zero bytes after it make of an empty register
abbrev entry_of : (w p zeros byte : ℕ) → ℕ
entry_of w p zeros byte = register_after w p 0 (byte ∷ replicate zeros 0)

-- the entry of each byte, which as many zero bytes follow as bytes do
entries_of : (w p : ℕ) → List ℕ → List ℕ
entries_of w p [] = []
entries_of w p (byte ∷ rest) = entry_of w p (length rest) byte ∷ entries_of w p rest

and_more : {x y : ℕ} {xs ys : List ℕ} → x ≡ y → xs ≡ ys → x ∷ xs ≡ y ∷ ys
and_more {x} {y} {xs} {ys} first rest = ap (λ (z : ℕ). z ∷ xs) first ∙ ap (λ (zs : List ℕ). y ∷ zs) rest

-- an entry, where what meets its byte is known otherwise
met_as : (w p zeros byte : ℕ) {entry x y : ℕ} → entry ≡ entry_of w p zeros (bit_xor x byte) → x ≡ y → entry ≡ entry_of w p zeros (bit_xor y byte)
met_as w p zeros byte {entry} {x} {y} is_entry same = is_entry ∙ ap (λ (n : ℕ). entry_of w p zeros (bit_xor n byte)) same

-- bytes that meet an empty register, after others
by_entries_alone : (w p k sum : ℕ) (bytes : List ℕ) → 8 + k ≡ w → p < 2 ^ w
    → bit_xor sum (register_after w p 0 bytes) ≡ fold bit_xor sum (entries_of w p bytes)
unfolding entries_of
by_entries_alone w p k sum [] size p_fits = ap (λ (x : ℕ). bit_xor sum x) (after_nothing w p 0) ∙ xor_zero_r sum
by_entries_alone w p k sum (byte ∷ rest) size p_fits =
    let entry = entry_of w p (length rest) byte in
    let met : byte ≡ bit_xor (0 / 2 ^ k) byte = sym (ap (λ (x : ℕ). bit_xor x byte) (zero-div (2 ^ k)) ∙ xor_zero_l byte) in
    let moved : 0 % 2 ^ k * 2 ^ 8 ≡ 0 = omega arith in
    by_next_entry w p k sum 0 byte entry 0 rest size p_fits (pow_pos w) (ap (λ (x : ℕ). entry_of w p (length rest) x) met) moved
    ∙ by_entries_alone w p k (bit_xor sum entry) rest size p_fits

-- the same, where nothing comes before them
by_all_entries : (w p k byte : ℕ) (rest : List ℕ) {entry : ℕ} {entries : List ℕ} → 8 + k ≡ w → p < 2 ^ w → entry ∷ entries ≡ entries_of w p (byte ∷ rest)
    → register_after w p 0 (byte ∷ rest) ≡ fold bit_xor entry entries
by_all_entries w p k byte rest {entry} {entries} size p_fits are_entries =
    let whole = byte ∷ rest in
    sym (xor_zero_l (register_after w p 0 whole))
    ∙ by_entries_alone w p k 0 whole size p_fits
    ∙ ap (λ (all : List ℕ). fold bit_xor 0 all) (sym are_entries)
    ∙ ap (λ (x : ℕ). fold bit_xor x entries) (xor_zero_l entry)

sixteen_items : (items : List ℕ) → length items ≡ 16
    → items ≡ get_or items 0 0 ∷ get_or items 1 0 ∷ get_or items 2 0 ∷ get_or items 3 0 ∷ get_or items 4 0 ∷ get_or items 5 0 ∷ get_or items 6 0 ∷ get_or items 7 0 ∷ get_or items 8 0 ∷ get_or items 9 0 ∷ get_or items 10 0 ∷ get_or items 11 0 ∷ get_or items 12 0 ∷ get_or items 13 0 ∷ get_or items 14 0 ∷ get_or items 15 0 ∷ []
sixteen_items (a ∷ b ∷ c ∷ d ∷ e ∷ f ∷ g ∷ h ∷ i ∷ j ∷ k ∷ l ∷ m ∷ n ∷ o ∷ p ∷ []) size = refl
sixteen_items items size = absurd (omega (arith, size))

-- the sum as the code has it, what the register meets before what it doesn't
abbrev joined_16 : (e15 e14 e13 e12 e11 e10 e9 e8 e7 e6 e5 e4 e3 e2 e1 e0 : ℕ) → ℕ
joined_16 e15 e14 e13 e12 e11 e10 e9 e8 e7 e6 e5 e4 e3 e2 e1 e0 = bit_xor (bit_xor e15 e14) (bit_xor (bit_xor (bit_xor (bit_xor (bit_xor (bit_xor (bit_xor (bit_xor (bit_xor (bit_xor (bit_xor (bit_xor (bit_xor e13 e12) e11) e10) e9) e8) e7) e6) e5) e4) e3) e2) e1) e0)

sixteen_16 : (r a b c d e f g h i j k l m n o p e15 e14 e13 e12 e11 e10 e9 e8 e7 e6 e5 e4 e3 e2 e1 e0 : ℕ) → r < 2 ^ 16
    → e15 ≡ entry_of 16 0x1021 15 (bit_xor (r / 2 ^ 8) a) → e14 ≡ entry_of 16 0x1021 14 (bit_xor (r % 2 ^ 8) b)
    → e13 ≡ entry_of 16 0x1021 13 c → e12 ≡ entry_of 16 0x1021 12 d → e11 ≡ entry_of 16 0x1021 11 e → e10 ≡ entry_of 16 0x1021 10 f → e9 ≡ entry_of 16 0x1021 9 g → e8 ≡ entry_of 16 0x1021 8 h → e7 ≡ entry_of 16 0x1021 7 i → e6 ≡ entry_of 16 0x1021 6 j → e5 ≡ entry_of 16 0x1021 5 k → e4 ≡ entry_of 16 0x1021 4 l → e3 ≡ entry_of 16 0x1021 3 m → e2 ≡ entry_of 16 0x1021 2 n → e1 ≡ entry_of 16 0x1021 1 o → e0 ≡ entry_of 16 0x1021 0 p
    → register_after 16 0x1021 r (a ∷ b ∷ c ∷ d ∷ e ∷ f ∷ g ∷ h ∷ i ∷ j ∷ k ∷ l ∷ m ∷ n ∷ o ∷ p ∷ []) ≡ joined_16 e15 e14 e13 e12 e11 e10 e9 e8 e7 e6 e5 e4 e3 e2 e1 e0
unfolding entries_of
sixteen_16 r a b c d e f g h i j k l m n o p e15 e14 e13 e12 e11 e10 e9 e8 e7 e6 e5 e4 e3 e2 e1 e0 fits is_15 is_14 is_13 is_12 is_11 is_10 is_9 is_8 is_7 is_6 is_5 is_4 is_3 is_2 is_1 is_0 =
    let low = r % 2 ^ 8 * 2 ^ 8 in
    let low_fits : low < 2 ^ 16 = omega arith in
    let second : r % 2 ^ 8 ≡ low / 2 ^ 8 = omega arith in
    let none : low % 2 ^ 8 * 2 ^ 8 ≡ 0 = omega arith in
    let after_2 = c ∷ d ∷ e ∷ f ∷ g ∷ h ∷ i ∷ j ∷ k ∷ l ∷ m ∷ n ∷ o ∷ p ∷ [] in
    let later : register_after 16 0x1021 0 after_2 ≡ bit_xor (bit_xor (bit_xor (bit_xor (bit_xor (bit_xor (bit_xor (bit_xor (bit_xor (bit_xor (bit_xor (bit_xor (bit_xor e13 e12) e11) e10) e9) e8) e7) e6) e5) e4) e3) e2) e1) e0 =
    by_all_entries 16 0x1021 8 c (d ∷ e ∷ f ∷ g ∷ h ∷ i ∷ j ∷ k ∷ l ∷ m ∷ n ∷ o ∷ p ∷ []) refl (lit< tt) (and_more is_13 (and_more is_12 (and_more is_11 (and_more is_10 (and_more is_9 (and_more is_8 (and_more is_7 (and_more is_6 (and_more is_5 (and_more is_4 (and_more is_3 (and_more is_2 (and_more is_1 (and_more is_0 refl)))))))))))))) in
    by_entry 16 0x1021 8 r a e15 (b ∷ after_2) refl (lit< tt) fits is_15
    ∙ by_next_entry 16 0x1021 8 e15 low b e14 0 after_2 refl (lit< tt) low_fits (met_as 16 0x1021 14 b is_14 second) none
    ∙ ap (λ (x : ℕ). bit_xor (bit_xor e15 e14) x) later

-- the sum as the code has it, what the register meets before what it doesn't
abbrev joined_32 : (e15 e14 e13 e12 e11 e10 e9 e8 e7 e6 e5 e4 e3 e2 e1 e0 : ℕ) → ℕ
joined_32 e15 e14 e13 e12 e11 e10 e9 e8 e7 e6 e5 e4 e3 e2 e1 e0 = bit_xor (bit_xor (bit_xor (bit_xor e15 e14) e13) e12) (bit_xor (bit_xor (bit_xor (bit_xor (bit_xor (bit_xor (bit_xor (bit_xor (bit_xor (bit_xor (bit_xor e11 e10) e9) e8) e7) e6) e5) e4) e3) e2) e1) e0)

sixteen_32 : (r a b c d e f g h i j k l m n o p e15 e14 e13 e12 e11 e10 e9 e8 e7 e6 e5 e4 e3 e2 e1 e0 : ℕ) → r < 2 ^ 32
    → e15 ≡ entry_of 32 0x04C11DB7 15 (bit_xor (r / 2 ^ 24) a) → e14 ≡ entry_of 32 0x04C11DB7 14 (bit_xor (r / 2 ^ 16 % 256) b) → e13 ≡ entry_of 32 0x04C11DB7 13 (bit_xor (r / 2 ^ 8 % 256) c) → e12 ≡ entry_of 32 0x04C11DB7 12 (bit_xor (r % 256) d)
    → e11 ≡ entry_of 32 0x04C11DB7 11 e → e10 ≡ entry_of 32 0x04C11DB7 10 f → e9 ≡ entry_of 32 0x04C11DB7 9 g → e8 ≡ entry_of 32 0x04C11DB7 8 h → e7 ≡ entry_of 32 0x04C11DB7 7 i → e6 ≡ entry_of 32 0x04C11DB7 6 j → e5 ≡ entry_of 32 0x04C11DB7 5 k → e4 ≡ entry_of 32 0x04C11DB7 4 l → e3 ≡ entry_of 32 0x04C11DB7 3 m → e2 ≡ entry_of 32 0x04C11DB7 2 n → e1 ≡ entry_of 32 0x04C11DB7 1 o → e0 ≡ entry_of 32 0x04C11DB7 0 p
    → register_after 32 0x04C11DB7 r (a ∷ b ∷ c ∷ d ∷ e ∷ f ∷ g ∷ h ∷ i ∷ j ∷ k ∷ l ∷ m ∷ n ∷ o ∷ p ∷ []) ≡ joined_32 e15 e14 e13 e12 e11 e10 e9 e8 e7 e6 e5 e4 e3 e2 e1 e0
unfolding entries_of
sixteen_32 r a b c d e f g h i j k l m n o p e15 e14 e13 e12 e11 e10 e9 e8 e7 e6 e5 e4 e3 e2 e1 e0 fits is_15 is_14 is_13 is_12 is_11 is_10 is_9 is_8 is_7 is_6 is_5 is_4 is_3 is_2 is_1 is_0 =
    let three = r % 2 ^ 24 * 2 ^ 8 in
    let two = r % 2 ^ 16 * 2 ^ 16 in
    let one = r % 2 ^ 8 * 2 ^ 24 in
    let three_fits : three < 2 ^ 32 = omega arith in
    let two_fits : two < 2 ^ 32 = omega arith in
    let one_fits : one < 2 ^ 32 = omega arith in
    let second : r / 2 ^ 16 % 256 ≡ three / 2 ^ 24 = omega arith in
    let third : r / 2 ^ 8 % 256 ≡ two / 2 ^ 24 = omega arith in
    let fourth : r % 256 ≡ one / 2 ^ 24 = omega arith in
    let to_two : three % 2 ^ 24 * 2 ^ 8 ≡ two = omega arith in
    let to_one : two % 2 ^ 24 * 2 ^ 8 ≡ one = omega arith in
    let none : one % 2 ^ 24 * 2 ^ 8 ≡ 0 = omega arith in
    let after_4 = e ∷ f ∷ g ∷ h ∷ i ∷ j ∷ k ∷ l ∷ m ∷ n ∷ o ∷ p ∷ [] in
    let later : register_after 32 0x04C11DB7 0 after_4 ≡ bit_xor (bit_xor (bit_xor (bit_xor (bit_xor (bit_xor (bit_xor (bit_xor (bit_xor (bit_xor (bit_xor e11 e10) e9) e8) e7) e6) e5) e4) e3) e2) e1) e0 =
    by_all_entries 32 0x04C11DB7 24 e (f ∷ g ∷ h ∷ i ∷ j ∷ k ∷ l ∷ m ∷ n ∷ o ∷ p ∷ []) refl (lit< tt) (and_more is_11 (and_more is_10 (and_more is_9 (and_more is_8 (and_more is_7 (and_more is_6 (and_more is_5 (and_more is_4 (and_more is_3 (and_more is_2 (and_more is_1 (and_more is_0 refl)))))))))))) in
    by_entry 32 0x04C11DB7 24 r a e15 (b ∷ c ∷ d ∷ after_4) refl (lit< tt) fits is_15
    ∙ by_next_entry 32 0x04C11DB7 24 e15 three b e14 two (c ∷ d ∷ after_4) refl (lit< tt) three_fits (met_as 32 0x04C11DB7 14 b is_14 second) to_two
    ∙ by_next_entry 32 0x04C11DB7 24 (bit_xor e15 e14) two c e13 one (d ∷ after_4) refl (lit< tt) two_fits (met_as 32 0x04C11DB7 13 c is_13 third) to_one
    ∙ by_next_entry 32 0x04C11DB7 24 (bit_xor (bit_xor e15 e14) e13) one d e12 0 after_4 refl (lit< tt) one_fits (met_as 32 0x04C11DB7 12 d is_12 fourth) none
    ∙ ap (λ (x : ℕ). bit_xor (bit_xor (bit_xor (bit_xor e15 e14) e13) e12) x) later

pub by_entries_16 : (r : ℕ) (sixteen : List ℕ) {own : List ℕ} {e15 e14 e13 e12 e11 e10 e9 e8 e7 e6 e5 e4 e3 e2 e1 e0 : ℕ} → r < 2 ^ 16 → own ≡ to_be_bytes w16 r → length sixteen ≡ 16
    → e15 ≡ entry_of 16 0x1021 15 (bit_xor (get_or own 0 0) (get_or sixteen 0 0))
    → e14 ≡ entry_of 16 0x1021 14 (bit_xor (get_or own 1 0) (get_or sixteen 1 0))
    → e13 ≡ entry_of 16 0x1021 13 (get_or sixteen 2 0)
    → e12 ≡ entry_of 16 0x1021 12 (get_or sixteen 3 0)
    → e11 ≡ entry_of 16 0x1021 11 (get_or sixteen 4 0)
    → e10 ≡ entry_of 16 0x1021 10 (get_or sixteen 5 0)
    → e9 ≡ entry_of 16 0x1021 9 (get_or sixteen 6 0)
    → e8 ≡ entry_of 16 0x1021 8 (get_or sixteen 7 0)
    → e7 ≡ entry_of 16 0x1021 7 (get_or sixteen 8 0)
    → e6 ≡ entry_of 16 0x1021 6 (get_or sixteen 9 0)
    → e5 ≡ entry_of 16 0x1021 5 (get_or sixteen 10 0)
    → e4 ≡ entry_of 16 0x1021 4 (get_or sixteen 11 0)
    → e3 ≡ entry_of 16 0x1021 3 (get_or sixteen 12 0)
    → e2 ≡ entry_of 16 0x1021 2 (get_or sixteen 13 0)
    → e1 ≡ entry_of 16 0x1021 1 (get_or sixteen 14 0)
    → e0 ≡ entry_of 16 0x1021 0 (get_or sixteen 15 0)
    → joined_16 e15 e14 e13 e12 e11 e10 e9 e8 e7 e6 e5 e4 e3 e2 e1 e0 ≡ register_after 16 0x1021 r sixteen
by_entries_16 r sixteen {own} {e15} {e14} {e13} {e12} {e11} {e10} {e9} {e8} {e7} {e6} {e5} {e4} {e3} {e2} {e1} {e0} fits is_own size is_15 is_14 is_13 is_12 is_11 is_10 is_9 is_8 is_7 is_6 is_5 is_4 is_3 is_2 is_1 is_0 =
    let high : get_or own 0 0 ≡ r / 2 ^ 8 = rw is_own (omega arith) in
    let low : get_or own 1 0 ≡ r % 2 ^ 8 = rw is_own (omega arith) in
    sym (ap (λ (items : List ℕ). register_after 16 0x1021 r items) (sixteen_items sixteen size)
    ∙ sixteen_16 r (get_or sixteen 0 0) (get_or sixteen 1 0) (get_or sixteen 2 0) (get_or sixteen 3 0) (get_or sixteen 4 0) (get_or sixteen 5 0) (get_or sixteen 6 0) (get_or sixteen 7 0) (get_or sixteen 8 0) (get_or sixteen 9 0) (get_or sixteen 10 0) (get_or sixteen 11 0) (get_or sixteen 12 0) (get_or sixteen 13 0) (get_or sixteen 14 0) (get_or sixteen 15 0)
    e15 e14 e13 e12 e11 e10 e9 e8 e7 e6 e5 e4 e3 e2 e1 e0 fits
    (met_as 16 0x1021 15 (get_or sixteen 0 0) is_15 high) (met_as 16 0x1021 14 (get_or sixteen 1 0) is_14 low)
    is_13 is_12 is_11 is_10 is_9 is_8 is_7 is_6 is_5 is_4 is_3 is_2 is_1 is_0)

pub by_entries_32 : (r : ℕ) (sixteen : List ℕ) {own : List ℕ} {e15 e14 e13 e12 e11 e10 e9 e8 e7 e6 e5 e4 e3 e2 e1 e0 : ℕ} → r < 2 ^ 32 → own ≡ to_be_bytes w32 r → length sixteen ≡ 16
    → e15 ≡ entry_of 32 0x04C11DB7 15 (bit_xor (get_or own 0 0) (get_or sixteen 0 0))
    → e14 ≡ entry_of 32 0x04C11DB7 14 (bit_xor (get_or own 1 0) (get_or sixteen 1 0))
    → e13 ≡ entry_of 32 0x04C11DB7 13 (bit_xor (get_or own 2 0) (get_or sixteen 2 0))
    → e12 ≡ entry_of 32 0x04C11DB7 12 (bit_xor (get_or own 3 0) (get_or sixteen 3 0))
    → e11 ≡ entry_of 32 0x04C11DB7 11 (get_or sixteen 4 0)
    → e10 ≡ entry_of 32 0x04C11DB7 10 (get_or sixteen 5 0)
    → e9 ≡ entry_of 32 0x04C11DB7 9 (get_or sixteen 6 0)
    → e8 ≡ entry_of 32 0x04C11DB7 8 (get_or sixteen 7 0)
    → e7 ≡ entry_of 32 0x04C11DB7 7 (get_or sixteen 8 0)
    → e6 ≡ entry_of 32 0x04C11DB7 6 (get_or sixteen 9 0)
    → e5 ≡ entry_of 32 0x04C11DB7 5 (get_or sixteen 10 0)
    → e4 ≡ entry_of 32 0x04C11DB7 4 (get_or sixteen 11 0)
    → e3 ≡ entry_of 32 0x04C11DB7 3 (get_or sixteen 12 0)
    → e2 ≡ entry_of 32 0x04C11DB7 2 (get_or sixteen 13 0)
    → e1 ≡ entry_of 32 0x04C11DB7 1 (get_or sixteen 14 0)
    → e0 ≡ entry_of 32 0x04C11DB7 0 (get_or sixteen 15 0)
    → joined_32 e15 e14 e13 e12 e11 e10 e9 e8 e7 e6 e5 e4 e3 e2 e1 e0 ≡ register_after 32 0x04C11DB7 r sixteen
by_entries_32 r sixteen {own} {e15} {e14} {e13} {e12} {e11} {e10} {e9} {e8} {e7} {e6} {e5} {e4} {e3} {e2} {e1} {e0} fits is_own size is_15 is_14 is_13 is_12 is_11 is_10 is_9 is_8 is_7 is_6 is_5 is_4 is_3 is_2 is_1 is_0 =
    let highest : get_or own 0 0 ≡ r / 2 ^ 24 = rw is_own (omega arith) in
    let high : get_or own 1 0 ≡ r / 2 ^ 16 % 256 = rw is_own refl in
    let low : get_or own 2 0 ≡ r / 2 ^ 8 % 256 = rw is_own refl in
    let lowest : get_or own 3 0 ≡ r % 256 = rw is_own (omega arith) in
    sym (ap (λ (items : List ℕ). register_after 32 0x04C11DB7 r items) (sixteen_items sixteen size)
    ∙ sixteen_32 r (get_or sixteen 0 0) (get_or sixteen 1 0) (get_or sixteen 2 0) (get_or sixteen 3 0) (get_or sixteen 4 0) (get_or sixteen 5 0) (get_or sixteen 6 0) (get_or sixteen 7 0) (get_or sixteen 8 0) (get_or sixteen 9 0) (get_or sixteen 10 0) (get_or sixteen 11 0) (get_or sixteen 12 0) (get_or sixteen 13 0) (get_or sixteen 14 0) (get_or sixteen 15 0)
    e15 e14 e13 e12 e11 e10 e9 e8 e7 e6 e5 e4 e3 e2 e1 e0 fits
    (met_as 32 0x04C11DB7 15 (get_or sixteen 0 0) is_15 highest) (met_as 32 0x04C11DB7 14 (get_or sixteen 1 0) is_14 high) (met_as 32 0x04C11DB7 13 (get_or sixteen 2 0) is_13 low) (met_as 32 0x04C11DB7 12 (get_or sixteen 3 0) is_12 lowest)
    is_11 is_10 is_9 is_8 is_7 is_6 is_5 is_4 is_3 is_2 is_1 is_0)
