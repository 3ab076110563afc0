-- The function that tells what is wrong with a part number agrees with what it means to be one or to have a fault.
use Rattle.std.specs.Prelude.{◌≡◌, ℕ, ◌/◌, ◌%◌, ◌<◌, List, [], ◌∷◌, length, slice_index, ◌==◌, Bool, true, false, if◌then◌else◌, Option, Some, None, MatchOption}
use Rattle.std.proofs.Common.{refl, sym, ◌∙◌, ap, arith}
use Rattle.std.proofs.lemmas.Bool.{ne_eqb, eq-eqb, eqb-false, eqb-true}
use Rattle.std.proofs.lemmas.Bool.Decides.{nat_tests}
use Rattle.load_base.specs.Verdicts.{first_bad, TellsFaults}
use Rattle.load_base.proofs.VerdictLemmas.{first_bad-none, first_bad-some, first_bad-says, SaysWhichAreGood, small_by, tells}
use Rattle.part_number.specs.PartNumber.{IsPartNumberText, IsPartFault, IsFirstBadOffset, HasGoodCharacters, is_good_at, is_hyphen_offset, is_hexadecimal_digit, hexadecimal, hexadecimal_digit, maker_of, product_of, check_of, check_digits_of}
use Rattle.part_number.specs.Verdicts.{part_fault_of, misplaced, character_or_check, digit_value, written_check, computed_check}
use Rattle.load_base.proofs.Cases.{of_each}
use Rattle.part_number.proofs.Reading.{first_digit_is_good, second_digit_is_good, values_of_check_digits, right_check, wrong_check}
use Rattle.part_number.proofs.Texts.{size_of_part, all_good_of_part, check_of-lt, check_digits_of_part}
use Rattle.part_number.specs.declared.PartFault.{PartFault}
use Rattle.part_number.specs.declared.PartFault.TheVariants.{Length, Hyphen, Character, Check}

-- ---- check digits

value_of_digit : (n : ℕ) → n < 16 → digit_value (hexadecimal_digit n) ≡ n
unfolding hexadecimal_digit
value_of_digit n small = grind (arith, nat_tests)

digit_of_value : (digit : ℕ) → is_hexadecimal_digit digit ≡ true → (hexadecimal_digit (digit_value digit) ≡ digit) × (digit_value digit < 16)
unfolding hexadecimal_digit
digit_of_value digit good = (grind (arith, nat_tests), grind (arith, nat_tests))

-- the value of the check digits is the number whose digits they are
written_check-of : (text : List ℕ) (n : ℕ) → n < 256 → length text ≡ 15 → check_digits_of text ≡ hexadecimal n → written_check text ≡ n
unfolding hexadecimal
written_check-of text n small size digits =
    let two : check_digits_of text ≡ slice_index text 3 ∷ slice_index text 4 ∷ [] =
    of_each 15 (λ (t : List ℕ). check_digits_of t ≡ slice_index t 3 ∷ slice_index t 4 ∷ []) (λ a b c d e f g h i j k l m n o. refl) text size in
    let first : slice_index text 3 ≡ hexadecimal_digit (n / 16) = cc in
    let second : slice_index text 4 ≡ hexadecimal_digit (n % 16) = cc in
    let high : digit_value (slice_index text 3) ≡ n / 16 = ap (λ (x : ℕ). digit_value x) first ∙ value_of_digit (n / 16) (omega arith) in
    let low : digit_value (slice_index text 4) ≡ n % 16 = ap (λ (x : ℕ). digit_value x) second ∙ value_of_digit (n % 16) (omega arith) in
    omega (arith, high, low)

-- a byte, whose digits they are
written_check-is : (text : List ℕ) → HasGoodCharacters text → (check_digits_of text ≡ hexadecimal (written_check text)) × (written_check text < 256)
written_check-is text all =
    let high = digit_of_value (slice_index text 3) (first_digit_is_good text all) in
    let low = digit_of_value (slice_index text 4) (second_digit_is_good text all) in
    (values_of_check_digits text (digit_value (slice_index text 3)) (digit_value (slice_index text 4)) all.size high.1 low.1 high.0 low.0, omega (arith, high.1, low.1))

-- ---- from what holds to what is told

no_bad_offset : (text : List ℕ) → HasGoodCharacters text → first_bad is_good_at text ≡ None
no_bad_offset text all = first_bad-none is_good_at text (λ k within. all.good k (omega (arith, within, all.size)))

part_right : (text : List ℕ) → IsPartNumberText text → part_fault_of text ≡ None
unfolding part_fault_of
part_right text is =
    let maker : List ℕ = maker_of text in
    let product : List ℕ = product_of text in
    let all = all_good_of_part text maker product is in
    let same : written_check text ≡ computed_check text =
    written_check-of text (check_of maker product) (check_of-lt maker product is.maker_good is.product_good) all.size (check_digits_of_part text maker product is) in
    rw (eq-eqb (length text) 15 all.size, no_bad_offset text all, eq-eqb (written_check text) (computed_check text) same) refl

bad_offset : (text : List ℕ) (offset : ℕ) → length text ≡ 15 → IsFirstBadOffset text offset → part_fault_of text ≡ Some (misplaced offset)
unfolding part_fault_of
bad_offset text offset size first = rw (eq-eqb (length text) 15 size, first_bad-some is_good_at text offset first.within first.before first.bad) refl

part_wrong : (text : List ℕ) (fault : PartFault) → IsPartFault text fault → part_fault_of text ≡ Some fault
unfolding part_fault_of
part_wrong text (Length found) is = rw (ne_eqb (length text) 15 is.1, is.0) refl
part_wrong text (Hyphen offset) is = bad_offset text offset is.0 is.1 ∙ rw is.2 refl
part_wrong text (Character offset) is = bad_offset text offset is.0 is.1 ∙ rw is.2 refl
part_wrong text (Check found due) is =
    let same : written_check text ≡ found = written_check-of text found is.is_byte is.offsets.size is.digits in
    let differ : written_check text ≡ computed_check text → ⊥ = λ e. is.differ (sym same ∙ (e ∙ sym is.sum)) in
    rw (eq-eqb (length text) 15 is.offsets.size, no_bad_offset text is.offsets, ne_eqb (written_check text) (computed_check text) differ)
    (cc (same, is.sum))

-- ---- from what is told to what holds

abbrev Says : List ℕ → Option PartFault → Type 0
Says text told = MatchOption told (IsPartNumberText text) (IsPartFault text)

check_says : (text : List ℕ) → HasGoodCharacters text → (same : Bool) → (written_check text == computed_check text) ≡ same
    → Says text (if same then None else Some (Check (written_check text) (computed_check text)))
check_says text all true is =
    right_check text (written_check text) (computed_check text) all (written_check-is text all).0 refl (eqb-true (written_check text) (computed_check text) is)
check_says text all false is =
    let written = written_check-is text all in
    wrong_check text (written_check text) (computed_check text) all written.1 written.0 refl (eqb-false (written_check text) (computed_check text) is)

offset_says : (text : List ℕ) (offset : ℕ) → length text ≡ 15 → IsFirstBadOffset text offset → (hyphen : Bool) → is_hyphen_offset offset ≡ hyphen
    → IsPartFault text (if hyphen then Hyphen offset else Character offset)
offset_says text offset size first true is = (size, first, is)
offset_says text offset size first false is = (size, first, is)

characters_say : (text : List ℕ) → length text ≡ 15 → (found : Option ℕ) → SaysWhichAreGood is_good_at text found → Says text (character_or_check text found)
characters_say text size None each =
    check_says text (record { size = size; good = λ k within. each k (omega (arith, size, within)) }) (written_check text == computed_check text) refl
characters_say text size (Some offset) is =
    offset_says text offset size (record { within = is.within; before = is.before; bad = is.bad }) (is_hyphen_offset offset) refl

part_says : (text : List ℕ) → Says text (part_fault_of text)
unfolding part_fault_of
part_says text = go (length text == 15) refl
  where
    go : (fits : Bool) → (length text == 15) ≡ fits → Says text (if fits then character_or_check text (first_bad is_good_at text) else Some (Length (length text)))
    go true is = characters_say text (eqb-true (length text) 15 is) (first_bad is_good_at text) (first_bad-says is_good_at text)
    go false is = (refl, eqb-false (length text) 15 is)

-- ---- both

pub part_size : (text : List ℕ) → IsPartNumberText text → length text ≡ 15
part_size text is = size_of_part text (maker_of text) (product_of text) is

good_is_small : (offset byte : ℕ) → is_good_at offset byte ≡ true → byte < 256
unfolding is_good_at
good_is_small offset byte good = grind (arith, nat_tests)

part_small : (text : List ℕ) → IsPartNumberText text → (offset : ℕ) → slice_index text offset < 256
part_small text is =
    let all = all_good_of_part text (maker_of text) (product_of text) is in
    small_by is_good_at good_is_small text (λ k within. all.good k (omega (arith, within, all.size)))

pub part_faults : TellsFaults part_fault_of IsPartNumberText IsPartFault
part_faults = tells part_fault_of IsPartNumberText IsPartFault part_says part_right part_wrong part_small
