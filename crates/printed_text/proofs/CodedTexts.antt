-- A code with numbers is a text that people read, and so is a fault with another within it.
use Rattle.std.specs.Prelude.{◌≡◌, ℕ, suc, ◌+◌, ◌*◌, ◌^◌, ◌<◌, ◌≤◌, List, [], ◌∷◌, ◌++◌, length, slice_index, true, Bool, codes, take}
use Rattle.std.specs.Char.{digit_value}
use Rattle.std.specs.Fmt.{decimal}
use Rattle.std.specs.List.{list_all, flat_map}
use Rattle.std.specs.Str.Parse.{AllDigits}
use Rattle.std.proofs.Common.{refl, ◌∙◌, arith, length-append, take_all}
use Rattle.std.proofs.lemmas.Bool.Decides.{nat_tests}
use Rattle.std.proofs.lemmas.Fmt.{length-decimal-le, decimal_is_IsNumeral}
use Rattle.std.proofs.lemmas.List.Folds.{list_all-append}
use Rattle.std.proofs.lemmas.List.Sums.{AllPass-from_list_all}
use Rattle.std.proofs.lemmas.Str.Parse.{digit_from_value}
use Rattle.load_base.specs.Bytes.{AllGood}
use Rattle.load_base.specs.Text.{IsText, is_printable}
use Rattle.printed_text.specs.FaultTexts.{coded, nested, number_text, longest_coded}

-- ---- which bytes are printable

all_good : (good : ℕ → Bool) (bytes : List ℕ) → list_all good bytes ≡ true → AllGood good bytes
all_good good bytes passed = λ k within. AllPass-from_list_all good bytes passed k 0 within

all_pass : (good : ℕ → Bool) (bytes : List ℕ) → AllGood good bytes → list_all good bytes ≡ true
all_pass good [] each = refl
all_pass good (byte ∷ bytes) each =
    let here : good byte ≡ true = each 0 (omega arith) in
    rw (here, all_pass good bytes (λ k within. each (suc k) (omega (arith, within)))) refl

digit_prints : (digit : ℕ) → digit_value digit < 10 → is_printable digit ≡ true
digit_prints digit is = let range = digit_from_value digit is in grind (arith, nat_tests, range)

digits_print : (digits : List ℕ) → AllDigits 10 digits → list_all is_printable digits ≡ true
digits_print [] all = refl
digits_print (digit ∷ digits) all = rw (digit_prints digit all.0, digits_print digits all.1) refl

number_prints : (number : ℕ) → number < 2 ^ 64 → list_all is_printable (number_text number) ≡ true
unfolding number_text
number_prints number small = digits_print (decimal number) (decimal_is_IsNumeral number small).0.1

numbers_print : (numbers : List ℕ) → ((k : ℕ) → slice_index numbers k < 2 ^ 64) → list_all is_printable (flat_map number_text numbers) ≡ true
numbers_print [] small = refl
numbers_print (number ∷ numbers) small =
    list_all-append is_printable (number_text number) (flat_map number_text numbers)
    ∙ rw (number_prints number (small 0), numbers_print numbers (λ k. small (suc k))) refl

-- ---- how long they are

length-number_text : (number : ℕ) → number < 2 ^ 64 → length (number_text number) ≤ 21
unfolding number_text
length-number_text number small = let few = length-decimal-le 20 number (omega arith) (omega (arith, small)) small in omega (arith, few)

length-numbers : (numbers : List ℕ) → ((k : ℕ) → slice_index numbers k < 2 ^ 64) → length (flat_map number_text numbers) ≤ 21 * length numbers
length-numbers [] small = omega arith
length-numbers (number ∷ numbers) small =
    omega (arith, length-append (number_text number) (flat_map number_text numbers), length-number_text number (small 0), length-numbers numbers (λ k. small (suc k)))

-- ---- a code and numbers

pub coded_is_short : (code numbers : List ℕ) → ((k : ℕ) → slice_index numbers k < 2 ^ 64) → length (coded code numbers) ≤ longest_coded code numbers
unfolding coded
coded_is_short code numbers small = omega (arith, length-append code (flat_map number_text numbers), length-numbers numbers small)

pub coded_is_text : (code numbers : List ℕ) → list_all is_printable code ≡ true → longest_coded code numbers ≤ 255
    → ((k : ℕ) → slice_index numbers k < 2 ^ 64) → IsText (coded code numbers)
unfolding coded
coded_is_text code numbers good short small = record {
  size = omega (arith, short, coded_is_short code numbers small);
  good = all_good is_printable _ (list_all-append is_printable code (flat_map number_text numbers) ∙ rw (good, numbers_print numbers small) refl);
}

-- this many bytes are put once all numbers are
pub all_put : (code numbers out : List ℕ) (k : ℕ) → length numbers ≤ k → out ≡ code ++ flat_map number_text (take k numbers) → out ≡ coded code numbers
unfolding coded
all_put code numbers out k all is = is ∙ rw (take_all k numbers all) refl

-- ---- a fault within another

pub nested_is_text : (outer inner : List ℕ) → IsText outer → IsText inner → length outer + (1 + length inner) ≤ 255 → IsText (nested outer inner)
unfolding nested
nested_is_text outer inner is in_is short = record {
  size = omega (arith, short, length-append (outer ++ codes " ") inner, length-append outer (codes " "));
  good =
      all_good is_printable _
      (list_all-append is_printable (outer ++ codes " ") inner
      ∙ rw (list_all-append is_printable outer (codes " "), all_pass is_printable outer is.good, all_pass is_printable inner in_is.good) refl);
}
