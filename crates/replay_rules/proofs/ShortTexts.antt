-- Codes with numbers are short texts that people read.
use Rattle.std.proofs.Common.{◌≡◌, ℕ, ◌+◌, ◌*◌, ◌^◌, ◌<◌, ◌≤◌, List, [], ◌∷◌, ◌++◌, length, true, refl, ◌∙◌, arith, length-append}
use Rattle.std.specs.Prelude.{codes}
use Rattle.std.specs.Char.{digit_value}
use Rattle.std.specs.Fmt.{decimal}
use Rattle.std.specs.List.{AllByRecursion, flat_map, list_all}
use Rattle.std.specs.Str.Parse.{AllDigits}
use Rattle.std.proofs.lemmas.Bool.Decides.{nat_tests}
use Rattle.std.proofs.lemmas.Fmt.{decimal_is_IsNumeral, length-decimal-le}
use Rattle.std.proofs.lemmas.List.Folds.{list_all-append}
use Rattle.std.proofs.lemmas.List.Sums.{AllPass-from_list_all}
use Rattle.std.proofs.lemmas.Str.Parse.{digit_from_value}
use Rattle.load_base.specs.Text.{IsText, is_printable}
use Rattle.printed_text.specs.FaultTexts.{coded, nested, number_text}

-- a number of at most 20 digits
abbrev pub IsLittle : ℕ → Type 0
IsLittle n = n < 2 ^ 64

-- a text that people read, of at most this many bytes
pub record IsTextOf (n : ℕ) (text : List ℕ) : Type 0 where
  pub printable : list_all is_printable text ≡ true
  pub size : length text ≤ n

digit_prints : (digit : ℕ) → digit_value digit < 10 → is_printable digit ≡ true
digit_prints digit is = let range = digit_from_value digit is in grind (arith, nat_tests, range)

digits_print : (digits : List ℕ) → AllDigits 10 digits → list_all is_printable digits ≡ true
digits_print [] all = refl
digits_print (digit ∷ digits) all = rw (digit_prints digit all.0, digits_print digits all.1) refl

number_prints : (number : ℕ) → IsLittle number → list_all is_printable (number_text number) ≡ true
unfolding number_text
number_prints number small = digits_print (decimal number) (decimal_is_IsNumeral number small).0.1

number_size : (number : ℕ) → IsLittle number → length (number_text number) ≤ 21
unfolding number_text
number_size number small = let few = length-decimal-le 20 number (omega arith) (omega (arith, small)) small in omega (arith, few)

numbers_print : (numbers : List ℕ) → AllByRecursion IsLittle numbers → list_all is_printable (flat_map number_text numbers) ≡ true
numbers_print [] small = refl
numbers_print (number ∷ numbers) (one, small) =
    list_all-append is_printable (number_text number) (flat_map number_text numbers) ∙ rw (number_prints number one, numbers_print numbers small) refl

numbers_size : (numbers : List ℕ) → AllByRecursion IsLittle numbers → length (flat_map number_text numbers) ≤ 21 * length numbers
numbers_size [] small = omega arith
numbers_size (number ∷ numbers) (one, small) = omega (arith, length-append (number_text number) (flat_map number_text numbers), number_size number one, numbers_size numbers small)

pub coded_text : (n : ℕ) (code numbers : List ℕ) → list_all is_printable code ≡ true → AllByRecursion IsLittle numbers → length code + 21 * length numbers ≤ n → IsTextOf n (coded code numbers)
unfolding coded
coded_text n code numbers good small short = record {
  printable = list_all-append is_printable code (flat_map number_text numbers) ∙ rw (good, numbers_print numbers small) refl;
  size = omega (arith, short, length-append code (flat_map number_text numbers), numbers_size numbers small);
}

pub nested_text : (a b n : ℕ) (outer inner : List ℕ) → IsTextOf a outer → IsTextOf b inner → a + (1 + b) ≤ n → IsTextOf n (nested outer inner)
unfolding nested
nested_text a b n outer inner is in_is short = record {
  printable = list_all-append is_printable (outer ++ codes " ") inner ∙ rw (list_all-append is_printable outer (codes " "), is.printable, in_is.printable) refl;
  size = omega (arith, short, length-append (outer ++ codes " ") inner, length-append outer (codes " "), is.size, in_is.size);
}

pub plain_text : (n : ℕ) (text : List ℕ) → list_all is_printable text ≡ true → length text ≤ n → IsTextOf n text
plain_text n text good short = record { printable = good; size = short }

pub is_text : (text : List ℕ) → IsTextOf 255 text → IsText text
is_text text is = record { size = is.size; good = λ k within. AllPass-from_list_all is_printable text is.printable k 0 within }
