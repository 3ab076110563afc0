-- The text of a part number, character by character.
use Rattle.std.proofs.Common.{◌≡◌, ◌⊎◌, inl, inr, ◌==◌, ℕ, suc, ◌/◌, ◌%◌, ◌<◌, List, [], ◌∷◌, ◌++◌, length, take, slice_index, slice_range, fold, bit_xor, true, refl, sym, ◌∙◌, ap, ap₂, subst, subst₂, arith, append_assoc}
use Rattle.std.proofs.lemmas.Nat.{xor_lt}
use Rattle.std.proofs.lemmas.Grind.{fold-append}
use Rattle.std.proofs.lemmas.Bool.Decides.{nat_tests}
use Rattle.load_base.specs.Bytes.{AllGood}
use Rattle.load_base.specs.PartText.{IsPartText, is_graphic}
use Rattle.part_number.specs.PartNumber.{IsPartNumber, IsPartNumberText, HasGoodCharacters, part_number_text, check_of, hexadecimal, hexadecimal_digit, is_part_character, is_hexadecimal_digit, is_hyphen_offset, is_good_at, maker_of, product_of, check_digits_of}
use Rattle.part_number.proofs.Digits.{digit_is_good}
use Rattle.load_base.proofs.Cases.{of_each, at_each}

-- the exclusive or of characters fits a byte
fold-lt : (so_far : ℕ) (xs : List ℕ) → so_far < 256 → AllGood is_part_character xs → fold bit_xor so_far xs < 256
fold-lt so_far [] fits good = fits
fold-lt so_far (x ∷ xs) fits good =
    let head : is_part_character x ≡ true = good 0 (omega arith) in
    let x_fits : x < 256 = grind (arith, nat_tests) in
    fold-lt (bit_xor so_far x) xs (xor_lt 8 so_far x fits x_fits) (λ k within. good (suc k) (omega arith))

pub check_of-lt : (maker product : List ℕ) → AllGood is_part_character maker → AllGood is_part_character product
    → check_of maker product < 256
unfolding check_of
check_of-lt maker product maker_good product_good =
    rw (fold-append bit_xor 0 maker product) (fold-lt (fold bit_xor 0 maker) product (fold-lt 0 maker (omega arith) maker_good) product_good)

-- a text with its hyphens, of three characters, two check digits and eight characters
abbrev pub laid_out : (maker product : List ℕ) (high low : ℕ) → List ℕ
laid_out maker product high low =
    slice_index maker 0 ∷ slice_index maker 1 ∷ slice_index maker 2 ∷ high ∷ low ∷ 45
    ∷ slice_index product 0 ∷ slice_index product 1 ∷ slice_index product 2 ∷ slice_index product 3 ∷ 45
    ∷ slice_index product 4 ∷ slice_index product 5 ∷ slice_index product 6 ∷ slice_index product 7 ∷ []

-- the check digits of a maker and a product
abbrev high_digit : (maker product : List ℕ) → ℕ
high_digit maker product = hexadecimal_digit (check_of maker product / 16)

abbrev low_digit : (maker product : List ℕ) → ℕ
low_digit maker product = hexadecimal_digit (check_of maker product % 16)

-- the text that the definition gives, with its hyphens
abbrev given : (maker product : List ℕ) → List ℕ
given maker product = laid_out maker product (high_digit maker product) (low_digit maker product)

part_number_text-given : (maker product : List ℕ) → length maker ≡ 3 → length product ≡ 8 → part_number_text maker product ≡ given maker product
unfolding part_number_text hexadecimal
part_number_text-given maker product maker_size product_size =
    of_each 3 (λ (m : List ℕ). part_number_text m product ≡ given m product) (
    λ a b c. of_each 8 (λ (p : List ℕ). part_number_text (a ∷ b ∷ c ∷ []) p ≡ given (a ∷ b ∷ c ∷ []) p) (λ d e f g h i j k. refl) product product_size
    ) maker maker_size

-- the sum over both halves of a product
check_of_halves : (maker product : List ℕ) → length product ≡ 8
    → fold bit_xor 0 (maker ++ take 4 product ++ slice_range product 4 8) ≡ check_of maker product
unfolding check_of
check_of_halves maker product size =
    let whole : take 4 product ++ slice_range product 4 8 ≡ product =
    of_each 8 (λ (p : List ℕ). take 4 p ++ slice_range p 4 8 ≡ p) (λ a b c d e f g h. refl) product size in
    ap (λ (xs : List ℕ). fold bit_xor 0 xs) (append_assoc maker (take 4 product) (slice_range product 4 8) ∙ ap (λ (xs : List ℕ). maker ++ xs) whole)

-- the text from what the code computes
pub part_number_text-laid_out : (maker product : List ℕ) (check high low : ℕ) → length maker ≡ 3 → length product ≡ 8
    → check ≡ fold bit_xor 0 (maker ++ take 4 product ++ slice_range product 4 8)
    → high ≡ hexadecimal_digit (check / 16) → low ≡ hexadecimal_digit (check % 16)
    → laid_out maker product high low ≡ part_number_text maker product
part_number_text-laid_out maker product check high low maker_size product_size is_check is_high is_low =
    let sum : check ≡ check_of maker product = is_check ∙ check_of_halves maker product product_size in
    let first : high ≡ high_digit maker product = is_high ∙ ap (λ (n : ℕ). hexadecimal_digit (n / 16)) sum in
    let second : low ≡ low_digit maker product = is_low ∙ ap (λ (n : ℕ). hexadecimal_digit (n % 16)) sum in
    ap₂ (λ (m : ℕ) (n : ℕ). laid_out maker product m n) first second ∙ sym (part_number_text-given maker product maker_size product_size)

-- what is good at an offset can be printed
graphic_at : (offset byte : ℕ) → is_good_at offset byte ≡ true → is_graphic byte ≡ true
unfolding is_good_at
graphic_at offset byte good = grind (arith, nat_tests)

-- where the text that the definition gives has its parts, whether or not its characters are good
module _ (maker product : List ℕ) (maker_size : length maker ≡ 3) (product_size : length product ≡ 8) where
  is_given : part_number_text maker product ≡ given maker product
  is_given = part_number_text-given maker product maker_size product_size

  pub length-part_number_text : length (part_number_text maker product) ≡ 15
  length-part_number_text = ap (λ (t : List ℕ). length t) is_given

  pub maker_of-part_number_text : maker_of (part_number_text maker product) ≡ maker
  maker_of-part_number_text =
      ap (λ (t : List ℕ). maker_of t) is_given
      ∙ of_each 3 (λ (m : List ℕ). maker_of (laid_out m product (high_digit maker product) (low_digit maker product)) ≡ m) (λ a b c. refl) maker maker_size

  pub product_of-part_number_text : product_of (part_number_text maker product) ≡ product
  product_of-part_number_text =
      ap (λ (t : List ℕ). product_of t) is_given
      ∙ of_each 8 (λ (p : List ℕ). product_of (laid_out maker p (high_digit maker product) (low_digit maker product)) ≡ p) (λ a b c d e f g h. refl) product product_size

  pub check_digits_of-part_number_text : check_digits_of (part_number_text maker product) ≡ hexadecimal (check_of maker product)
  unfolding hexadecimal
  check_digits_of-part_number_text = ap (λ (t : List ℕ). check_digits_of t) is_given

  -- a hyphen stands at each of its offsets
  pub hyphen_is_good : (offset : ℕ) → is_hyphen_offset offset ≡ true → is_good_at offset (slice_index (part_number_text maker product) offset) ≡ true
  unfolding is_good_at
  hyphen_is_good offset is_offset =
      let one_of : (offset ≡ 5) ⊎ (offset ≡ 10) = grind (arith, nat_tests) in
      let Good : ℕ → Type 0 = λ k. is_good_at k (slice_index (part_number_text maker product) k) ≡ true in
      let good_5 : Good 5 = ap (λ (t : List ℕ). slice_index t 5 == 45) is_given in
      let good_10 : Good 10 = ap (λ (t : List ℕ). slice_index t 10 == 45) is_given in
      elim one_of [ inl first ↦ subst Good (sym first) good_5 | inr second ↦ subst Good (sym second) good_10 ]

-- what a part number has
module _ (text maker product : List ℕ) (is : IsPartNumber text maker product) where
  pub size_of_part : length text ≡ 15
  size_of_part = ap (λ (t : List ℕ). length t) is.written ∙ length-part_number_text maker product is.maker_size is.product_size

  pub maker_of_part : maker_of text ≡ maker
  maker_of_part = ap (λ (t : List ℕ). maker_of t) is.written ∙ maker_of-part_number_text maker product is.maker_size is.product_size

  pub product_of_part : product_of text ≡ product
  product_of_part = ap (λ (t : List ℕ). product_of t) is.written ∙ product_of-part_number_text maker product is.maker_size is.product_size

  pub check_digits_of_part : check_digits_of text ≡ hexadecimal (check_of maker product)
  check_digits_of_part = ap (λ (t : List ℕ). check_digits_of t) is.written ∙ check_digits_of-part_number_text maker product is.maker_size is.product_size

  -- each character of the text that the definition gives is good at its offset
  good_in_given : (k : ℕ) → k < 15 → is_good_at k (slice_index (given maker product) k) ≡ true
  unfolding is_good_at
  good_in_given =
      let fits : check_of maker product < 256 = check_of-lt maker product is.maker_good is.product_good in
      let high : is_hexadecimal_digit (high_digit maker product) ≡ true = digit_is_good (check_of maker product / 16) (omega arith) in
      let low : is_hexadecimal_digit (low_digit maker product) ≡ true = digit_is_good (check_of maker product % 16) (omega arith) in
      let m0 = is.maker_good 0 (omega (arith, is.maker_size)) in
      let m1 = is.maker_good 1 (omega (arith, is.maker_size)) in
      let m2 = is.maker_good 2 (omega (arith, is.maker_size)) in
      let p0 = is.product_good 0 (omega (arith, is.product_size)) in
      let p1 = is.product_good 1 (omega (arith, is.product_size)) in
      let p2 = is.product_good 2 (omega (arith, is.product_size)) in
      let p3 = is.product_good 3 (omega (arith, is.product_size)) in
      let p4 = is.product_good 4 (omega (arith, is.product_size)) in
      let p5 = is.product_good 5 (omega (arith, is.product_size)) in
      let p6 = is.product_good 6 (omega (arith, is.product_size)) in
      let p7 = is.product_good 7 (omega (arith, is.product_size)) in
      at_each 15 (λ (k : ℕ). is_good_at k (slice_index (given maker product) k) ≡ true)
      (m0, (m1, (m2, (high, (low, (refl, (p0, (p1, (p2, (p3, (refl, (p4, (p5, (p6, (p7, tt)))))))))))))))

  pub all_good_of_part : HasGoodCharacters text
  all_good_of_part =
      let same : text ≡ given maker product = is.written ∙ part_number_text-given maker product is.maker_size is.product_size in
      record { size = size_of_part; good = λ k below. ap (λ (t : List ℕ). is_good_at k (slice_index t k)) same ∙ good_in_given k below }

  -- the maker and the product that stand in it are its own
  pub part_of_itself : IsPartNumberText text
  part_of_itself =
      subst₂ (λ (m : List ℕ) (p : List ℕ). IsPartNumber text m p) (sym maker_of_part) (sym product_of_part) is

  -- it can be printed
  pub part_text_of_part : IsPartText text
  part_text_of_part = record {
    size = size_of_part;
    good = λ k within. graphic_at k (slice_index text k) (all_good_of_part.good k (omega (arith, size_of_part)));
  }
