-- Upper-case hexadecimal digits.
use Rattle.std.proofs.Common.{◌≡◌, ℕ, ◌+◌, ◌*◌, ◌/◌, ◌%◌, ◌<◌, [], ◌∷◌, true, ap₂, arith}
use Rattle.std.proofs.lemmas.Bool.Decides.{nat_tests}
use Rattle.part_number.specs.PartNumber.{hexadecimal_digit, hexadecimal, is_hexadecimal_digit}

pub digit_is_good : (n : ℕ) → n < 16 → is_hexadecimal_digit (hexadecimal_digit n) ≡ true
unfolding hexadecimal_digit
digit_is_good n small = grind (arith, nat_tests)

-- the digits of a number that is made of the values of digits
pub digits_of_values : (high low : ℕ) → high < 16 → low < 16
    → hexadecimal (16 * high + low) ≡ hexadecimal_digit high ∷ hexadecimal_digit low ∷ []
unfolding hexadecimal
digits_of_values high low high_small low_small =
    let first : (16 * high + low) / 16 ≡ high = omega arith in
    let second : (16 * high + low) % 16 ≡ low = omega arith in
    ap₂ (λ (m : ℕ) (n : ℕ). hexadecimal_digit m ∷ hexadecimal_digit n ∷ []) first second
