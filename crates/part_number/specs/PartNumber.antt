-- Part numbers (docs/FORMATS.md, "Part numbers").
use Rattle.std.specs.Prelude.{◌≡◌, ◌≢◌, ℕ, ◌+◌, ◌-◌, ◌/◌, ◌%◌, ◌<◌, List, [], ◌∷◌, ◌++◌, length, take, drop, slice_index, slice_range, fold, bit_xor, ◌==◌, nat_le, nat_lt, Bool, true, false, ◌&&◌, ◌||◌, if◌then◌else◌}
use Rattle.load_base.specs.Bytes.{AllGood}
use Rattle.part_number.specs.declared.PartFault.{PartFault}
use Rattle.part_number.specs.declared.PartFault.TheVariants.{Length, Hyphen, Character, Check}

-- A to Z or 0 to 9: what a maker's and a product's characters may be
abbrev pub is_part_character : ℕ → Bool
is_part_character b = (nat_le 65 b && nat_le b 90) || (nat_le 48 b && nat_le b 57)

-- an upper-case hexadecimal digit, 0 to 9 or A to F
abbrev pub is_hexadecimal_digit : ℕ → Bool
is_hexadecimal_digit b = (nat_le 48 b && nat_le b 57) || (nat_le 65 b && nat_le b 70)

-- the upper-case hexadecimal digit of a number below 16
unfoldable pub hexadecimal_digit : ℕ → ℕ
hexadecimal_digit n = if nat_lt n 10 then 48 + n else 65 + (n - 10)

-- the two upper-case hexadecimal digits of a number below 256
unfoldable pub hexadecimal : ℕ → List ℕ
hexadecimal n = hexadecimal_digit (n / 16) ∷ hexadecimal_digit (n % 16) ∷ []

-- the exclusive or of all characters of a maker and a product
unfoldable pub check_of : (maker product : List ℕ) → ℕ
check_of maker product = fold bit_xor 0 (maker ++ product)

-- the maker, the check digits, a hyphen, the first four characters of the product, a hyphen, the last four
unfoldable pub part_number_text : (maker product : List ℕ) → List ℕ
part_number_text maker product =
    maker ++ hexadecimal (check_of maker product) ++ (45 ∷ []) ++ take 4 product ++ (45 ∷ []) ++ drop 4 product

-- the text is the part number of a maker of 3 and a product of 8 such characters
pub record IsPartNumber (text maker product : List ℕ) : Type 0 where
  pub maker_size : length maker ≡ 3
  pub maker_good : AllGood is_part_character maker
  pub product_size : length product ≡ 8
  pub product_good : AllGood is_part_character product
  pub written : text ≡ part_number_text maker product

-- where a text has its maker, its product and its check digits
abbrev pub maker_of : List ℕ → List ℕ
maker_of text = take 3 text

abbrev pub product_of : List ℕ → List ℕ
product_of text = slice_range text 6 10 ++ slice_range text 11 15

abbrev pub check_digits_of : List ℕ → List ℕ
check_digits_of text = slice_range text 3 5

-- the text is the part number of the maker and the product that stand in it
abbrev pub IsPartNumberText : List ℕ → Type 0
IsPartNumberText text = IsPartNumber text (maker_of text) (product_of text)

-- the offsets of the hyphens and of the check digits
abbrev pub is_hyphen_offset : ℕ → Bool
is_hyphen_offset offset = (offset == 5) || (offset == 10)

abbrev pub is_check_offset : ℕ → Bool
is_check_offset offset = (offset == 3) || (offset == 4)

-- which characters are good at which offset
unfoldable pub is_good_at : (offset byte : ℕ) → Bool
is_good_at offset byte =
    if is_hyphen_offset offset then byte == 45
    else if is_check_offset offset then is_hexadecimal_digit byte
    else is_part_character byte

-- the first offset whose character isn't good there
pub record IsFirstBadOffset (text : List ℕ) (offset : ℕ) : Type 0 where
  pub within : offset < length text
  pub before : (k : ℕ) → k < offset → is_good_at k (slice_index text k) ≡ true
  pub bad : is_good_at offset (slice_index text offset) ≡ false

-- the character at each offset is good there
pub record HasGoodCharacters (text : List ℕ) : Type 0 where
  pub size : length text ≡ 15
  pub good : (k : ℕ) → k < 15 → is_good_at k (slice_index text k) ≡ true

-- the two check digits are those of `written`, and the maker and the product give `computed`
pub record IsWrongCheck (text : List ℕ) (written computed : ℕ) : Type 0 where
  pub offsets : HasGoodCharacters text
  pub is_byte : written < 256
  pub digits : check_digits_of text ≡ hexadecimal written
  pub sum : computed ≡ check_of (maker_of text) (product_of text)
  pub differ : written ≢ computed

-- the first thing that is wrong with a text
abbrev pub IsPartFault : List ℕ → PartFault → Type 0
IsPartFault text (Length found) = (found ≡ length text) × (length text ≢ 15)
IsPartFault text (Hyphen offset) = (length text ≡ 15) × IsFirstBadOffset text offset × (is_hyphen_offset offset ≡ true)
IsPartFault text (Character offset) = (length text ≡ 15) × IsFirstBadOffset text offset × (is_hyphen_offset offset ≡ false)
IsPartFault text (Check written computed) = IsWrongCheck text written computed
