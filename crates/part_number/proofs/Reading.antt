-- From a text whose characters are good to a part number.
use Rattle.std.proofs.Common.{◌≡◌, ◌≢◌, ℕ, ◌+◌, ◌*◌, ◌<◌, List, [], ◌∷◌, length, slice_index, true, ◌==◌, refl, ◌∙◌, ap, subst₂, arith}
use Rattle.std.proofs.lemmas.Bool.Decides.{nat_tests}
use Rattle.load_base.specs.Bytes.{AllGood}
use Rattle.part_number.specs.PartNumber.{IsPartNumber, IsPartNumberText, HasGoodCharacters, IsWrongCheck, part_number_text, check_of, hexadecimal, hexadecimal_digit, is_part_character, is_hexadecimal_digit, is_good_at, maker_of, product_of, check_digits_of}
use Rattle.load_base.proofs.Cases.{of_each, at_each}
use Rattle.part_number.proofs.Digits.{digits_of_values}
use Rattle.part_number.proofs.Texts.{check_digits_of-part_number_text, maker_of-part_number_text, product_of-part_number_text}

-- the check digits are digits
pub first_digit_is_good : (text : List ℕ) → HasGoodCharacters text → is_hexadecimal_digit (slice_index text 3) ≡ true
unfolding is_good_at
first_digit_is_good text all = all.good 3 (omega arith)

pub second_digit_is_good : (text : List ℕ) → HasGoodCharacters text → is_hexadecimal_digit (slice_index text 4) ≡ true
unfolding is_good_at
second_digit_is_good text all = all.good 4 (omega arith)

-- what the code takes for the value of the check digits
pub values_of_check_digits : (text : List ℕ) (high low : ℕ) → length text ≡ 15 → high < 16 → low < 16
    → hexadecimal_digit high ≡ slice_index text 3 → hexadecimal_digit low ≡ slice_index text 4
    → check_digits_of text ≡ hexadecimal (16 * high + low)
values_of_check_digits text high low size high_small low_small first second =
    of_each 15 (λ (t : List ℕ). check_digits_of t ≡ slice_index t 3 ∷ slice_index t 4 ∷ []) (λ a b c d e f g h i j k l m n o. refl) text size
    ∙ cc (digits_of_values high low high_small low_small, first, second)

is_hyphen : (byte : ℕ) → (byte == 45) ≡ true → byte ≡ 45
is_hyphen byte good = grind (arith, nat_tests)

-- the text is that of its maker and its product
is_written : (text : List ℕ) → length text ≡ 15 → slice_index text 5 ≡ 45 → slice_index text 10 ≡ 45
    → check_digits_of text ≡ hexadecimal (check_of (maker_of text) (product_of text))
    → text ≡ part_number_text (maker_of text) (product_of text)
unfolding part_number_text hexadecimal
is_written text size =
    of_each 15 (λ (t : List ℕ). slice_index t 5 ≡ 45 → slice_index t 10 ≡ 45
    → check_digits_of t ≡ hexadecimal (check_of (maker_of t) (product_of t))
    → t ≡ part_number_text (maker_of t) (product_of t))
    (λ a b c d e f g h i j k l m n o first second digits. cc) text size

-- the characters of the maker and of the product are good
characters_are_good : (text : List ℕ) → length text ≡ 15 → ((k : ℕ) → k < 15 → is_good_at k (slice_index text k) ≡ true)
    → AllGood is_part_character (maker_of text) × AllGood is_part_character (product_of text)
unfolding is_good_at
characters_are_good text size =
    of_each 15 (λ (t : List ℕ). ((k : ℕ) → k < 15 → is_good_at k (slice_index t k) ≡ true) → AllGood is_part_character (maker_of t) × AllGood is_part_character (product_of t))
    (λ a b c d e f g h i j k l m n o good.
    let at : (offset : ℕ) → offset < 15 → is_good_at offset (slice_index (a ∷ b ∷ c ∷ d ∷ e ∷ f ∷ g ∷ h ∷ i ∷ j ∷ k ∷ l ∷ m ∷ n ∷ o ∷ []) offset) ≡ true = good in (
      at_each 3 (λ (offset : ℕ). is_part_character (slice_index (a ∷ b ∷ c ∷ []) offset) ≡ true)
          (at 0 (omega arith), (at 1 (omega arith), (at 2 (omega arith), tt))),
      at_each 8 (λ (offset : ℕ). is_part_character (slice_index (g ∷ h ∷ i ∷ j ∷ l ∷ m ∷ n ∷ o ∷ []) offset) ≡ true)
          (at 6 (omega arith), (at 7 (omega arith), (at 8 (omega arith), (at 9 (omega arith), (at 11 (omega arith), (at 12 (omega arith), (at 13 (omega arith), (at 14 (omega arith), tt)))))))),
    ))
    text size

-- from good characters and the right check digits
pub part_from_characters : (text : List ℕ) → HasGoodCharacters text → check_digits_of text ≡ hexadecimal (check_of (maker_of text) (product_of text)) → IsPartNumberText text
unfolding is_good_at
part_from_characters text all digits =
    let good = characters_are_good text all.size all.good in
    record {
      maker_size = of_each 15 (λ (t : List ℕ). length (maker_of t) ≡ 3) (λ a b c d e f g h i j k l m n o. refl) text all.size;
      maker_good = good.0;
      product_size = of_each 15 (λ (t : List ℕ). length (product_of t) ≡ 8) (λ a b c d e f g h i j k l m n o. refl) text all.size;
      product_good = good.1;
      written = is_written text all.size (is_hyphen (slice_index text 5) (all.good 5 (omega arith))) (is_hyphen (slice_index text 10) (all.good 10 (omega arith))) digits;
    }

-- a part number whose text is that of a maker and a product is theirs
pub made_from_text : (maker product : List ℕ) → length maker ≡ 3 → length product ≡ 8 → IsPartNumberText (part_number_text maker product)
    → IsPartNumber (part_number_text maker product) maker product
made_from_text maker product maker_size product_size is =
    subst₂ (λ (m : List ℕ) (p : List ℕ). IsPartNumber (part_number_text maker product) m p)
    (maker_of-part_number_text maker product maker_size product_size) (product_of-part_number_text maker product maker_size product_size) is

-- a text that the definition gives is a part number if its characters are good
pub part_from_text : (maker product : List ℕ) → length maker ≡ 3 → length product ≡ 8 → HasGoodCharacters (part_number_text maker product)
    → IsPartNumber (part_number_text maker product) maker product
part_from_text maker product maker_size product_size all =
    let text = part_number_text maker product in
    let digits : check_digits_of text ≡ hexadecimal (check_of (maker_of text) (product_of text)) =
    rw (maker_of-part_number_text maker product maker_size product_size, product_of-part_number_text maker product maker_size product_size)
    (check_digits_of-part_number_text maker product maker_size product_size) in
    made_from_text maker product maker_size product_size (part_from_characters text all digits)

-- the two outcomes of the code's comparison
pub wrong_check : (text : List ℕ) (written computed : ℕ) → HasGoodCharacters text → written < 256 → check_digits_of text ≡ hexadecimal written
    → computed ≡ check_of (maker_of text) (product_of text) → written ≢ computed → IsWrongCheck text written computed
wrong_check text written computed all is_byte digits sum differ =
    record { offsets = all; is_byte = is_byte; digits = digits; sum = sum; differ = differ }

pub right_check : (text : List ℕ) (written computed : ℕ) → HasGoodCharacters text → check_digits_of text ≡ hexadecimal written
    → computed ≡ check_of (maker_of text) (product_of text) → written ≡ computed → IsPartNumberText text
right_check text written computed all digits sum same =
    part_from_characters text all (digits ∙ ap (λ (n : ℕ). hexadecimal n) (same ∙ sum))
