-- Words that people read.
use Rattle.std.proofs.Common.{◌≡◌, ℕ, ◌<◌, ◌≤◌, ◌&&◌, Bool, true, false, nat_lt, nat_le, List, length, get_or, refl, arith}
use Rattle.std.specs.List.{list_all}
use Rattle.std.proofs.lemmas.Bool.{leb-true}
use Rattle.std.proofs.lemmas.Bool.Decides.{nat_tests}
use Rattle.std.proofs.lemmas.List.Folds.{list_all_at}
use Rattle.load_base.specs.PartText.{is_graphic}
use Rattle.load_base.specs.Text.{IsText, is_printable}
use Rattle.media_build.specs.Recipes.{is_graphic_word}

pub second_test : (a b : Bool) → (a && b) ≡ true → b ≡ true
second_test true b e = e
second_test false b e = absurd cc

pub first_test : (a b : Bool) → (a && b) ≡ true → a ≡ true
first_test true b e = refl
first_test false b e = absurd cc

pub graphic_is_printable : (byte : ℕ) → is_graphic byte ≡ true → is_printable byte ≡ true
graphic_is_printable byte e = grind (arith, nat_tests)

pub each_graphic : (word : List ℕ) (k : ℕ) → list_all is_graphic word ≡ true → k < length word → is_graphic (get_or word k 0) ≡ true
each_graphic word k all lt = by (is_graphic (get_or word k 0)) refl
  where
    by : (b : Bool) → is_graphic (get_or word k 0) ≡ b → is_graphic (get_or word k 0) ≡ true
    by true e = e
    by false e = absurd (let wrong = list_all_at is_graphic word k 0 lt e in cc)

-- such a word is a text
pub graphic_is_text : (most : ℕ) (word : List ℕ) → is_graphic_word most word ≡ true → most ≤ 255 → IsText word
graphic_is_text most word e small =
    let sizes = first_test (nat_lt 0 (length word) && nat_le (length word) most) (list_all is_graphic word) e in
    let short : length word ≤ most = leb-true _ _ (second_test (nat_lt 0 (length word)) _ sizes) in
    let all = second_test (nat_lt 0 (length word) && nat_le (length word) most) (list_all is_graphic word) e in
    record { size = omega arith; good = λ k lt. graphic_is_printable (get_or word k 0) (each_graphic word k all lt) }
