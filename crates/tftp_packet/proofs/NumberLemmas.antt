-- Numbers in decimal digits.
use Rattle.std.proofs.Common.{◌≡◌, ℕ, ◌<◌, ◌≤◌, ◌^◌, Bool, true, false, List, length, Option, Some, None, Result, Ok, Err, refl, sym, subst, arith, rules, ◌⊎◌, inl, inr}
use Rattle.std.specs.Prelude.{nat_lt, nat_le, cond}
use Rattle.std.specs.Char.{is_ascii_digit}
use Rattle.std.specs.List.{list_all}
use Rattle.std.specs.Result.{OkIff, result_ok}
use Rattle.std.specs.Str.{IsAscii, IsUtf8}
use Rattle.std.specs.Str.Parse.{ParsesUnsigned, digits_value}
use Rattle.std.proofs.lemmas.Bool.{and_from, and_left, and_right, lt-ltb, le-ltb, le-leb, lt-leb, cases_lt}
use Rattle.std.proofs.lemmas.List.{get_or_past}
use Rattle.std.proofs.lemmas.Str.{IsUtf8-from_ascii}
use Rattle.std.proofs.lemmas.Str.Parse.{IsNumeralModel, numerals_by_value, parse_digits, digit_at}
use Rattle.tftp_packet.specs.Options.{is_number, in_range, number_between}

-- std's words for digits and their number
pub digits : IsNumeralModel (λ ds. list_all is_ascii_digit ds ≡ true) (digits_value 10)
digits = numerals_by_value (λ ds. list_all is_ascii_digit ds ≡ true) (search rules)

-- digits are text
digits_are_ascii : (ds : List ℕ) → list_all is_ascii_digit ds ≡ true → IsAscii ds
digits_are_ascii ds all i =
    elim (cases_lt i (length ds)) [
      | inl within ↦ let digit = digit_at ds i (digits.to ds all) within in omega arith
      | inr past ↦ rw (get_or_past ds i 0 past) (omega arith)
    ]

pub digits_are_utf8 : (ds : List ℕ) → list_all is_ascii_digit ds ≡ true → IsUtf8 ds
digits_are_utf8 ds all = IsUtf8-from_ascii ds (digits_are_ascii ds all)

-- ---- a number in a range

-- bytes that aren't digits say none
pub no_digits : (low high : ℕ) (ds : List ℕ) → list_all is_ascii_digit ds ≡ false → number_between low high ds ≡ None
unfolding number_between
no_digits low high ds none = rw (and_right (nat_lt 0 (length ds)) (list_all is_ascii_digit ds) none) refl

pub within : (low high n : ℕ) → low ≤ n → n ≤ high → in_range low high n ≡ Some n
within low high n above below = rw (le-leb low n above, le-leb n high below) refl

-- a number that passes a bound is in no range below it
outside : (low high n : ℕ) → high < n → in_range low high n ≡ None
outside low high n above = rw (and_right (nat_le low n) (nat_le n high) (lt-leb n high above)) refl

-- digits say what `parse` reads
pub parsed : {E : Type 0} (ds : List ℕ) (r : Result ℕ E) → list_all is_ascii_digit ds ≡ true → ParsesUnsigned 32 10 ds r → number_between 0 4294967295 ds ≡ result_ok r
unfolding number_between
parsed ds r all parses = go r (parse_digits digits 32 ds r parses all)
  where
    go : {E : Type 0} (r : Result ℕ E) → OkIff r ((0 < length ds) × (digits_value 10 ds < 2 ^ 32)) (digits_value 10 ds) → cond (is_number ds) (in_range 0 4294967295 (digits_value 10 ds)) None ≡ result_ok r
    go (Ok n) is =
        rw (and_from (nat_lt 0 (length ds)) (list_all is_ascii_digit ds) (lt-ltb 0 (length ds) is.0.0) all, is.1) (within 0 4294967295 (digits_value 10 ds) (omega arith) (omega (arith, is.0.1)))
    go (Err e) none =
        elim (cases_lt 0 (length ds)) [
          | inl some ↦
              rw (and_from (nat_lt 0 (length ds)) (list_all is_ascii_digit ds) (lt-ltb 0 (length ds) some) all) (
              elim (cases_lt (digits_value 10 ds) (2 ^ 32)) [
                | inl small ↦ absurd (none (some, small))
                | inr large ↦ outside 0 4294967295 (digits_value 10 ds) (omega (arith, large))
              ]
              )
          | inr empty ↦ rw (and_left (nat_lt 0 (length ds)) (list_all is_ascii_digit ds) (le-ltb 0 (length ds) empty)) refl
        ]

-- ---- a number in a narrower range

abbrev Narrows : ℕ → ℕ → ℕ → Bool → Option ℕ → Type 0
Narrows low high n is_number (Some m) = cond is_number (in_range low high n) None ≡ in_range low high m
Narrows low high n is_number None = cond is_number (in_range low high n) None ≡ None

narrows : (low high n : ℕ) (is : Bool) → high ≤ 4294967295 → Narrows low high n is (cond is (in_range 0 4294967295 n) None)
narrows low high n false fits = refl
narrows low high n true fits =
    elim (cases_lt 4294967295 n) [
      | inl large ↦ rw (outside 0 4294967295 n large) (outside low high n (omega arith))
      | inr small ↦ rw (within 0 4294967295 n (omega arith) small) refl
    ]

pub narrowed : (low high n : ℕ) (ds : List ℕ) → high ≤ 4294967295 → Some n ≡ number_between 0 4294967295 ds → number_between low high ds ≡ in_range low high n
unfolding number_between
narrowed low high n ds fits is = subst (λ (o : Option ℕ). Narrows low high (digits_value 10 ds) (is_number ds) o) (sym is) (narrows low high (digits_value 10 ds) (is_number ds) fits)

pub narrowed_none : (low high : ℕ) (ds : List ℕ) → high ≤ 4294967295 → None ≡ number_between 0 4294967295 ds → number_between low high ds ≡ None
unfolding number_between
narrowed_none low high ds fits is = subst (λ (o : Option ℕ). Narrows low high (digits_value 10 ds) (is_number ds) o) (sym is) (narrows low high (digits_value 10 ds) (is_number ds) fits)

below : (low high n : ℕ) → n < low → in_range low high n ≡ None
below low high n under = rw (and_left (nat_le low n) (nat_le n high) (lt-leb low n under)) refl

-- a number that isn't between two others is in no range from one to the other
pub not_within : (low high n : ℕ) → (n < low) ⊎ (high < n) → in_range low high n ≡ None
not_within low high n out = elim out [ inl under ↦ below low high n under | inr over ↦ outside low high n over ]
