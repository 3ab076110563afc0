-- The characters of a text's maker and product, one by one.
use Rattle.std.proofs.Common.{◌≡◌, ℕ, ◌<◌, List, [], ◌∷◌, ◌++◌, length, take, slice_index, slice_range, true, ◌==◌, refl, arith}
use Rattle.std.specs.List.{list_all}
use Rattle.std.proofs.lemmas.List.Sums.{AllPass-from_list_all}
use Rattle.load_base.proofs.Cases.{of_each, at_each}
use Rattle.part_number.specs.PartNumber.{HasGoodCharacters, is_part_character, is_hexadecimal_digit, is_good_at, maker_of, product_of}

-- those that stand in a text
abbrev pub characters_in : List ℕ → List ℕ
characters_in text =
    slice_index text 0 ∷ slice_index text 1 ∷ slice_index text 2
    ∷ slice_index text 6 ∷ slice_index text 7 ∷ slice_index text 8 ∷ slice_index text 9
    ∷ slice_index text 11 ∷ slice_index text 12 ∷ slice_index text 13 ∷ slice_index text 14 ∷ []

pub characters_in_text : (text : List ℕ) → length text ≡ 15 → characters_in text ≡ maker_of text ++ product_of text
characters_in_text text size =
    of_each 15 (λ (t : List ℕ). characters_in t ≡ maker_of t ++ product_of t) (λ a b c d e f g h i j k l m n o. refl) text size

-- those of a maker and of both halves of a product
abbrev pub characters_from : (maker product : List ℕ) → List ℕ
characters_from maker product =
    slice_index maker 0 ∷ slice_index maker 1 ∷ slice_index maker 2
    ∷ slice_index product 0 ∷ slice_index product 1 ∷ slice_index product 2 ∷ slice_index product 3
    ∷ slice_index product 4 ∷ slice_index product 5 ∷ slice_index product 6 ∷ slice_index product 7 ∷ []

pub characters_in_pieces : (maker product : List ℕ) → length maker ≡ 3 → length product ≡ 8
    → characters_from maker product ≡ maker ++ take 4 product ++ slice_range product 4 8
characters_in_pieces maker product maker_size product_size =
    of_each 3 (λ (m : List ℕ). characters_from m product ≡ m ++ take 4 product ++ slice_range product 4 8) (
    λ a b c. of_each 8 (λ (p : List ℕ). characters_from (a ∷ b ∷ c ∷ []) p ≡ (a ∷ b ∷ c ∷ []) ++ take 4 p ++ slice_range p 4 8)
    (λ d e f g h i j k. refl) product product_size
    ) maker maker_size

-- a text is good where its check digits, its hyphens and its characters are
pub good_by_parts : (text : List ℕ) → length text ≡ 15
    → is_hexadecimal_digit (slice_index text 3) ≡ true → is_hexadecimal_digit (slice_index text 4) ≡ true
    → (slice_index text 5 == 45) ≡ true → (slice_index text 10 == 45) ≡ true
    → list_all is_part_character (maker_of text ++ product_of text) ≡ true → HasGoodCharacters text
unfolding is_good_at
good_by_parts text size =
    of_each 15
    (λ (t : List ℕ). is_hexadecimal_digit (slice_index t 3) ≡ true → is_hexadecimal_digit (slice_index t 4) ≡ true
    → (slice_index t 5 == 45) ≡ true → (slice_index t 10 == 45) ≡ true
    → list_all is_part_character (maker_of t ++ product_of t) ≡ true → HasGoodCharacters t)
    (λ m0 m1 m2 high low first p0 p1 p2 p3 second p4 p5 p6 p7 high_is low_is first_is second_is characters.
    let text : List ℕ = m0 ∷ m1 ∷ m2 ∷ high ∷ low ∷ first ∷ p0 ∷ p1 ∷ p2 ∷ p3 ∷ second ∷ p4 ∷ p5 ∷ p6 ∷ p7 ∷ [] in
    let each : List ℕ = m0 ∷ m1 ∷ m2 ∷ p0 ∷ p1 ∷ p2 ∷ p3 ∷ p4 ∷ p5 ∷ p6 ∷ p7 ∷ [] in
    let at : (k : ℕ) → k < 11 → is_part_character (slice_index each k) ≡ true = λ k within. AllPass-from_list_all is_part_character each characters k 0 within in
    let m0_is = at 0 (omega arith) in
    let m1_is = at 1 (omega arith) in
    let m2_is = at 2 (omega arith) in
    let p0_is = at 3 (omega arith) in
    let p1_is = at 4 (omega arith) in
    let p2_is = at 5 (omega arith) in
    let p3_is = at 6 (omega arith) in
    let p4_is = at 7 (omega arith) in
    let p5_is = at 8 (omega arith) in
    let p6_is = at 9 (omega arith) in
    let p7_is = at 10 (omega arith) in
    let good = at_each 15 (λ (k : ℕ). is_good_at k (slice_index text k) ≡ true) (m0_is, (m1_is, (m2_is, (high_is, (low_is, (first_is, (p0_is, (p1_is, (p2_is, (p3_is, (second_is, (p4_is, (p5_is, (p6_is, (p7_is, tt))))))))))))))) in
    record { size = refl; good = good })
    text size
