-- Decimal digits of a word.
use Rattle.std.proofs.Common.{◌≡◌, ℕ, ◌-◌, ◌<◌, ◌&&◌, Bool, true, false, cond, nat_le, List, length, get_or, take, Some, None, refl, arith}
use Rattle.std.specs.Char.{digit_value, is_ascii_digit}
use Rattle.std.specs.List.{list_all}
use Rattle.std.specs.Str.Parse.{digits_value}
use Rattle.std.proofs.lemmas.Str.Parse.{digits_value-take-le}
use Rattle.std.proofs.lemmas.Bool.{leb-true}
use Rattle.std.proofs.lemmas.List.Folds.{list_all_at}
use Rattle.std.proofs.lemmas.Grind.{common_steps}
use Rattle.text_words.specs.Words.{decimal_between, is_decimal}

digit_above : (c : ℕ) → is_ascii_digit c ≡ true → digit_value c ≡ c - 48
digit_above c e = grind (arith, common_steps)

-- the value of each digit is what it is above `0`
pub digit_at : (word : List ℕ) (i : ℕ) → list_all is_ascii_digit word ≡ true → i < length word → digit_value (get_or word i 0) ≡ get_or word i 0 - 48
digit_at word i all lt = by (is_ascii_digit (get_or word i 0)) refl
  where
    by : (b : Bool) → is_ascii_digit (get_or word i 0) ≡ b → digit_value (get_or word i 0) ≡ get_or word i 0 - 48
    by true e = digit_above (get_or word i 0) e
    by false e = absurd (let wrong = list_all_at is_ascii_digit word i 0 lt e in cc)

first_test : (a b : Bool) → (a && b) ≡ true → a ≡ true
first_test true b e = refl
first_test false b e = absurd cc

pub all_digits : (word : List ℕ) → is_decimal word ≡ true → list_all is_ascii_digit word ≡ true
all_digits word e = first_test (list_all is_ascii_digit word) _ e

-- digits that are too large already make a number that is too large
pub too_large : (low high : ℕ) (word : List ℕ) (i : ℕ) → is_decimal word ≡ true → high < digits_value 10 (take i word) → decimal_between low high word ≡ None
unfolding decimal_between
too_large low high word i e lt = rw e (by (nat_le low (digits_value 10 word)) (nat_le (digits_value 10 word) high) refl)
  where
    by : (a b : Bool) → nat_le (digits_value 10 word) high ≡ b → cond (a && b) (Some (digits_value 10 word)) None ≡ None
    by true false e = refl
    by false b e = refl
    by true true e = absurd (let le = leb-true _ _ e in let less = digits_value-take-le 10 word i (omega arith) in omega arith)
