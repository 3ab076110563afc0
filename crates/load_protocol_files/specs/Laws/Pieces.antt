-- How the pieces of protocol files are spelled.
use Rattle.std.proofs.Common.{◌≡◌, ℕ, zero, suc, ◌+◌, ◌/◌, ◌%◌, ◌<◌, ◌≤◌, ◌^◌, List, [], ◌∷◌, ◌++◌, length, Bool, true, false, ◌&&◌, refl, ap, subst, ◌∙◌, arith}
use Rattle.std.specs.Prelude.{nat_le}
use Rattle.std.specs.List.{concat, All}
use Rattle.std.proofs.lemmas.Bool.Decides.{nat_tests}
use Rattle.field_grammar.specs.Grammar.{Grammar, IsBytes}
use Rattle.field_grammar.specs.Fields.{number, number_fields, short_fields}
use Rattle.field_grammar.specs.Spelling.{IsSpelledBy}
use Rattle.field_grammar.proofs.NumberLemmas.{wide2, spelled-number, spelled-raw}
use Rattle.field_grammar.proofs.JudgedLemmas.{spelled-right_short}
use Rattle.field_grammar.proofs.CombinedLemmas.{spelled-renamed, spelled-counted_all}
use Rattle.load_base.specs.Text.{IsText}
use Rattle.load_base.specs.Name.{IsName, IsNameFault}
use Rattle.load_base.specs.Verdicts.{name_fault_of, text_fault_of}
use Rattle.load_base.proofs.VerdictLemmas.{name_faults, text_faults}
use Rattle.part_number.specs.PartNumber.{IsPartNumberText, IsPartFault}
use Rattle.load_base.proofs.Cases.{of_each}
use Rattle.part_number.specs.Verdicts.{part_fault_of}
use Rattle.part_number.proofs.VerdictLemmas.{part_faults, part_size}
use Rattle.load_protocol_files.specs.Faults.{named}
use Rattle.load_protocol_files.specs.declared.fault.FileFault.{FileFault}
use Rattle.load_protocol_files.specs.declared.fault.FileFault.TheVariants as faults
use Rattle.load_protocol_files.specs.Pieces.{u16, text, name, part, ratio, is_digit, is_ratio, ratio_value, u16_fields, ratio_digits, ratio_fields, counted, counted_fields}

pub spelled-u16 : IsSpelledBy u16 u16_fields (λ n. n < 2 ^ 16)
spelled-u16 = spelled-renamed named (number 2) (number_fields 2) (λ n. n < 2 ^ 16) (spelled-number 2 wide2)

-- ---- texts

pub spelled-text : IsSpelledBy text short_fields IsText
unfolding text
spelled-text = spelled-right_short named faults.Text text_fault_of IsText _ text_faults (λ t is. omega (arith, is.size))

pub spelled-name : IsSpelledBy name short_fields IsName
unfolding name
spelled-name = spelled-right_short named faults.Name name_fault_of IsName IsNameFault name_faults (λ t is. omega (arith, is.size.1))

pub spelled-part : IsSpelledBy part short_fields (λ t. IsPartNumberText t)
unfolding part
spelled-part = spelled-right_short named faults.Part part_fault_of (λ t. IsPartNumberText t) IsPartFault part_faults (λ t is. omega (arith, part_size t is))

-- ---- ratios

both_true : (a b : Bool) → (a && b) ≡ true → (a ≡ true) × (b ≡ true)
both_true true b e = (refl, e)
both_true false b e = absurd cc

true_both : (a b : Bool) → a ≡ true → b ≡ true → (a && b) ≡ true
true_both true b e f = f
true_both false b e f = absurd cc

low_digit : (b : ℕ) → is_digit b ≡ true → 48 ≤ b
low_digit b e = grind (arith, nat_tests)

high_digit : (b : ℕ) → is_digit b ≡ true → b ≤ 57
high_digit b e = grind (arith, nat_tests)

digit_between : (b : ℕ) → 48 ≤ b → b ≤ 57 → is_digit b ≡ true
digit_between b low high = grind (arith, nat_tests)

three_alike : (x y z a b c : ℕ) → x ≡ a → y ≡ b → z ≡ c → x ∷ y ∷ z ∷ [] ≡ a ∷ b ∷ c ∷ []
three_alike x y z a b c e f g = cc

ratio_of_digits : (b : List ℕ) → length b ≡ 3 → is_ratio b ≡ true → (b ≡ ratio_digits (ratio_value b)) × (ratio_value b ≤ 100)
unfolding ratio_digits
ratio_of_digits b size =
    of_each 3 (λ (t : List ℕ). is_ratio t ≡ true → (t ≡ ratio_digits (ratio_value t)) × (ratio_value t ≤ 100))
    (λ x y z e.
    let p = both_true (is_digit x && is_digit y && is_digit z) (nat_le (ratio_value (x ∷ y ∷ z ∷ [])) 100) e in
    let q = both_true (is_digit x && is_digit y) (is_digit z) p.0 in
    let r = both_true (is_digit x) (is_digit y) q.0 in
    digits_are x y z (low_digit x r.0) (high_digit x r.0) (low_digit y r.1) (high_digit y r.1) (low_digit z q.1) (high_digit z q.1) (at_most_hundred (ratio_value (x ∷ y ∷ z ∷ [])) p.1))
    b size
  where
    at_most_hundred : (n : ℕ) → nat_le n 100 ≡ true → n ≤ 100
    at_most_hundred n e = grind (arith, nat_tests)

    digits_are : (x y z : ℕ) → 48 ≤ x → x ≤ 57 → 48 ≤ y → y ≤ 57 → 48 ≤ z → z ≤ 57 → ratio_value (x ∷ y ∷ z ∷ []) ≤ 100
        → (x ∷ y ∷ z ∷ [] ≡ ratio_digits (ratio_value (x ∷ y ∷ z ∷ []))) × (ratio_value (x ∷ y ∷ z ∷ []) ≤ 100)
    digits_are x y z x1 x2 y1 y2 z1 z2 small =
        let v : ℕ = ratio_value (x ∷ y ∷ z ∷ []) in
        let ex : x ≡ 48 + v / 100 = omega arith in
        let ey : y ≡ 48 + v / 10 % 10 = omega arith in
        let ez : z ≡ 48 + v % 10 = omega arith in
        (three_alike x y z (48 + v / 100) (48 + v / 10 % 10) (48 + v % 10) ex ey ez, small)

digits_of_ratio : (n : ℕ) → n ≤ 100 → (ratio_value (ratio_digits n) ≡ n) × (is_ratio (ratio_digits n) ≡ true)
unfolding ratio_digits
digits_of_ratio n small =
    let value : ratio_value (ratio_digits n) ≡ n = omega arith in
    let hundreds : is_digit (48 + n / 100) ≡ true = digit_between (48 + n / 100) (omega arith) (omega arith) in
    let tens : is_digit (48 + n / 10 % 10) ≡ true = digit_between (48 + n / 10 % 10) (omega arith) (omega arith) in
    let ones : is_digit (48 + n % 10) ≡ true = digit_between (48 + n % 10) (omega arith) (omega arith) in
    let two : (is_digit (48 + n / 100) && is_digit (48 + n / 10 % 10)) ≡ true = true_both (is_digit (48 + n / 100)) (is_digit (48 + n / 10 % 10)) hundreds tens in
    let three : (is_digit (48 + n / 100) && is_digit (48 + n / 10 % 10) && is_digit (48 + n % 10)) ≡ true = true_both (is_digit (48 + n / 100) && is_digit (48 + n / 10 % 10)) (is_digit (48 + n % 10)) two ones in
    (value, true_both (is_digit (48 + n / 100) && is_digit (48 + n / 10 % 10) && is_digit (48 + n % 10)) (nat_le (ratio_value (ratio_digits n)) 100) three (not_over (ratio_value (ratio_digits n)) (omega (arith, value))))
  where
    not_over : (m : ℕ) → m ≤ 100 → nat_le m 100 ≡ true
    not_over m le = grind (arith, nat_tests)

digits_are_bytes : (n : ℕ) → n ≤ 100 → IsBytes (ratio_digits n)
unfolding ratio_digits
digits_are_bytes n small zero = omega arith
digits_are_bytes n small (suc zero) = omega arith
digits_are_bytes n small (suc (suc zero)) = omega arith
digits_are_bytes n small (suc (suc (suc i))) = omega arith

pub spelled-ratio : IsSpelledBy ratio ratio_fields (λ n. n ≤ 100)
unfolding ratio ratio_digits
spelled-ratio = record {
  to = λ before fields after value follows.
      let (offset, f1, o1, parts1, h1, (b, f2, o2, parts2, h2, (u, f3, o3, parts3, h3, last))) = follows in
      let r = (spelled-raw 3).to (before ++ concat f1) f2 (length (concat o2) + after) b h2 in
      let d = ratio_of_digits b r.1.0 h3.1 in
      let whole : fields ≡ b ∷ [] = rw (parts1, h1.0, parts2, parts3, h3.0, last.0, r.0) refl in
      subst (λ (v : ℕ). (fields ≡ ratio_digits v ∷ []) × (v ≤ 100)) last.1 (whole ∙ ap (λ (l : List ℕ). l ∷ []) d.0, d.1);
  from = λ before after value fits.
      let again = digits_of_ratio value fits in (
        before,
        [],
        ratio_digits value ∷ [],
        refl,
        (refl, refl),
        (
          ratio_digits value,
          ratio_digits value ∷ [],
          [],
          refl,
          (spelled-raw 3).from (before ++ []) (0 + after) (ratio_digits value) (refl, digits_are_bytes value fits),
          (tt, [], [], refl, (refl, again.1), (refl, again.0)),
        ),
      );
}

-- ---- lists

-- a count of N, and N members
pub spelled-counted_list : {A : Type 0} (item : Grammar FileFault A) (s : A → List (List ℕ)) (P : A → Type 0) → IsSpelledBy item s P
    → IsSpelledBy (counted item) (counted_fields s) (λ items. (length items < 2 ^ 16) × All P items)
unfolding counted_fields
spelled-counted_list item s P one = spelled-counted_all u16 item u16_fields s (λ n. n < 2 ^ 16) P spelled-u16 one
