-- The register as sums without carries: what lets a table stand for eight single bits.
use Rattle.std.proofs.Common.{◌≡◌, ℕ, zero, suc, ◌+◌, ◌*◌, ◌/◌, ◌%◌, ◌^◌, ◌<◌, ◌≤◌, refl, sym, ◌∙◌, ap, subst, lit<, add_comm, arith, if◌then◌else◌}
use Rattle.std.specs.Prelude.{bit_xor, ◌==◌}
use Rattle.std.specs.Int.Bits.{xor_shifted, xor_assoc, xor_self, xor_zero_l, xor_zero_r}
use Rattle.std.proofs.lemmas.Nat.{xor_block, xor_comm, xor_lt, xor_shr, xor_mod, pow-add, pow_pos, div_below, mod_below, shl_below, shr_below, shr_split, mod-pow-add, div-mul-add, mod-mul-add}
use Rattle.std.proofs.Math.Nat.{zero-div, zero-mul, mul_comm, mul-le-mul_left, pow-suc, mod-one, div-eq_of_lt, mod-eq_of_lt}
use Rattle.crc_fields.specs.CheckSums.{lowest_bits, register_after_bit, register_after_bits}
use Rattle.crc_fields.proofs.WidthLemmas.{after_bit_fits}

-- the two middle ones of four change offsets
xor_middle : (a b c d : ℕ) → bit_xor (bit_xor a b) (bit_xor c d) ≡ bit_xor (bit_xor a c) (bit_xor b d)
xor_middle a b c d =
    xor_assoc a b (bit_xor c d)
    ∙ ap (λ (x : ℕ). bit_xor a x) (sym (xor_assoc b c d) ∙ ap (λ (x : ℕ). bit_xor x d) (xor_comm b c) ∙ xor_assoc c b d)
    ∙ sym (xor_assoc a c (bit_xor b d))

-- what was put in twice is out again
xor_twice : (a b : ℕ) → bit_xor (bit_xor a b) b ≡ a
xor_twice a b = xor_assoc a b b ∙ ap (λ (x : ℕ). bit_xor a x) (xor_self b) ∙ xor_zero_r a

xor_doubled : (a b : ℕ) → 2 * bit_xor a b ≡ bit_xor (2 * a) (2 * b)
xor_doubled a b =
    let shifted : bit_xor (a * 2 ^ 1 + 0) (b * 2 ^ 1 + 0) ≡ bit_xor a b * 2 ^ 1 + bit_xor 0 0 = xor_block 1 a b 0 0 (omega arith) (omega arith) in
    let first : a * 2 ^ 1 + 0 ≡ 2 * a = omega arith in
    let second : b * 2 ^ 1 + 0 ≡ 2 * b = omega arith in
    let both : 2 * bit_xor a b ≡ bit_xor a b * 2 ^ 1 + bit_xor 0 0 = omega arith in
    both ∙ sym shifted ∙ ap (λ (x : ℕ). bit_xor x (b * 2 ^ 1 + 0)) first ∙ ap (λ (x : ℕ). bit_xor (2 * a) x) second

-- a bit of a sum is the sum of the bits
bit-xor : (a b k : ℕ) → bit_xor a b / 2 ^ k % 2 ≡ bit_xor (a / 2 ^ k % 2) (b / 2 ^ k % 2)
bit-xor a b k = ap (λ (x : ℕ). x % 2) (xor_shr a b k) ∙ xor_mod (a / 2 ^ k) (b / 2 ^ k) 1

moved_up : (r m : ℕ) → 2 * r * m ≡ r * (m * 2)
moved_up r m = grind arith

no_less : (a m : ℕ) → 0 < m → a ≤ a * m
no_less a m positive = let more : a * 1 ≤ a * m = mul-le-mul_left a positive in omega (arith, more)

one_more : (n : ℕ) → suc n ≡ 1 + n
one_more n = omega arith

regrouped : (bit m j low : ℕ) → 2 * ((bit * m + low) * j) ≡ bit * (m * j * 2) + low * (j * 2)
regrouped bit m j low = grind arith

module _ (w p : ℕ) where
  leaving : ℕ → ℕ
  leaving r = 2 * r / 2 ^ w

  kept : ℕ → ℕ
  kept r = 2 * r % 2 ^ w

  -- what a bit that is 1 adds
  change : ℕ → ℕ
  change zero = 0
  change (suc n) = p

  leaving-lt : (r : ℕ) → r < 2 ^ w → leaving r < 2
  unfolding leaving
  leaving-lt r fits = div_below (2 * r) (2 ^ w) 2 (pow_pos w) (omega (arith, fits))

  kept-lt : (r : ℕ) → kept r < 2 ^ w
  unfolding kept
  kept-lt r = mod_below (2 * r) (2 ^ w) (pow_pos w)

  leaving-xor : (r s : ℕ) → leaving (bit_xor r s) ≡ bit_xor (leaving r) (leaving s)
  unfolding leaving
  leaving-xor r s = ap (λ (x : ℕ). x / 2 ^ w) (xor_doubled r s) ∙ xor_shr (2 * r) (2 * s) w

  kept-xor : (r s : ℕ) → kept (bit_xor r s) ≡ bit_xor (kept r) (kept s)
  unfolding kept
  kept-xor r s = ap (λ (x : ℕ). x % 2 ^ w) (xor_doubled r s) ∙ xor_mod (2 * r) (2 * s) w

  change-xor : (a b : ℕ) → a < 2 → b < 2 → change (bit_xor a b) ≡ bit_xor (change a) (change b)
  unfolding change
  change-xor zero b a_bit b_bit = ap change (xor_zero_l b) ∙ sym (xor_zero_l (change b))
  change-xor (suc zero) zero a_bit b_bit = sym (xor_zero_r p)
  change-xor (suc zero) (suc zero) a_bit b_bit = sym (xor_self p)
  change-xor (suc (suc a)) b a_bit b_bit = absurd (omega arith)
  change-xor (suc zero) (suc (suc b)) a_bit b_bit = absurd (omega arith)

  in_cases : (left bit n : ℕ) → left < 2 → bit < 2 → (if left == bit then n else bit_xor n p) ≡ bit_xor n (change (bit_xor left bit))
  unfolding change
  in_cases zero zero n l b = sym (xor_zero_r n)
  in_cases zero (suc zero) n l b = refl
  in_cases (suc zero) zero n l b = refl
  in_cases (suc zero) (suc zero) n l b = sym (xor_zero_r n)
  in_cases (suc (suc left)) bit n l b = absurd (omega arith)
  in_cases zero (suc (suc bit)) n l b = absurd (omega arith)
  in_cases (suc zero) (suc (suc bit)) n l b = absurd (omega arith)

  -- a step as one sum
  as_sum : (r bit : ℕ) → r < 2 ^ w → bit < 2 → register_after_bit w p r bit ≡ bit_xor (kept r) (change (bit_xor (leaving r) bit))
  unfolding register_after_bit leaving kept
  as_sum r bit fits is_bit = in_cases (2 * r / 2 ^ w) bit (2 * r % 2 ^ w) (leaving-lt r fits) is_bit

  -- a step takes sums to sums
  bit_linear : (r s a b : ℕ) → r < 2 ^ w → s < 2 ^ w → a < 2 → b < 2
      → register_after_bit w p (bit_xor r s) (bit_xor a b) ≡ bit_xor (register_after_bit w p r a) (register_after_bit w p s b)
  bit_linear r s a b r_fits s_fits a_bit b_bit =
      let l = leaving r in
      let m = leaving s in
      let l_bit : l < 2 = leaving-lt r r_fits in
      let m_bit : m < 2 = leaving-lt s s_fits in
      let sums : bit_xor (leaving (bit_xor r s)) (bit_xor a b) ≡ bit_xor (bit_xor l a) (bit_xor m b) =
      ap (λ (x : ℕ). bit_xor x (bit_xor a b)) (leaving-xor r s) ∙ xor_middle l m a b in
      let changes : change (bit_xor (leaving (bit_xor r s)) (bit_xor a b)) ≡ bit_xor (change (bit_xor l a)) (change (bit_xor m b)) =
      ap change sums ∙ change-xor (bit_xor l a) (bit_xor m b) (xor_lt 1 l a l_bit a_bit) (xor_lt 1 m b m_bit b_bit) in
      as_sum (bit_xor r s) (bit_xor a b) (xor_lt w r s r_fits s_fits) (xor_lt 1 a b a_bit b_bit)
      ∙ ap (λ (x : ℕ). bit_xor x (change (bit_xor (leaving (bit_xor r s)) (bit_xor a b)))) (kept-xor r s)
      ∙ ap (λ (x : ℕ). bit_xor (bit_xor (kept r) (kept s)) x) changes
      ∙ xor_middle (kept r) (kept s) (change (bit_xor l a)) (change (bit_xor m b))
      ∙ ap (λ (x : ℕ). bit_xor x (bit_xor (kept s) (change (bit_xor m b)))) (sym (as_sum r a r_fits a_bit))
      ∙ ap (λ (x : ℕ). bit_xor (register_after_bit w p r a) x) (sym (as_sum s b s_fits b_bit))

  -- a bit that is what leaves changes nothing else
  same_bit : (r bit : ℕ) → r < 2 ^ w → bit < 2 → leaving r ≡ bit → register_after_bit w p r bit ≡ kept r
  unfolding change
  same_bit r bit fits is_bit same =
      as_sum r bit fits is_bit
      ∙ ap (λ (x : ℕ). bit_xor (kept r) (change (bit_xor x bit))) same
      ∙ ap (λ (x : ℕ). bit_xor (kept r) (change x)) (xor_self bit)
      ∙ xor_zero_r (kept r)

  -- bits one after another take sums to sums
  pub bits_linear : p < 2 ^ w → (n r s a b : ℕ) → r < 2 ^ w → s < 2 ^ w
      → register_after_bits w p (bit_xor r s) (lowest_bits n (bit_xor a b)) ≡ bit_xor (register_after_bits w p r (lowest_bits n a)) (register_after_bits w p s (lowest_bits n b))
  unfolding register_after_bits lowest_bits
  bits_linear fits zero r s a b r_fits s_fits = refl
  bits_linear fits (suc n) r s a b r_fits s_fits =
      let x = a / 2 ^ n % 2 in
      let y = b / 2 ^ n % 2 in
      ap (λ (bit : ℕ). register_after_bits w p (register_after_bit w p (bit_xor r s) bit) (lowest_bits n (bit_xor a b))) (bit-xor a b n)
      ∙ ap (λ (register : ℕ). register_after_bits w p register (lowest_bits n (bit_xor a b))) (bit_linear r s x y r_fits s_fits (omega arith) (omega arith))
      ∙ bits_linear fits n (register_after_bit w p r x) (register_after_bit w p s y) a b (after_bit_fits w p r x fits) (after_bit_fits w p s y fits)

  zero_bit : (n r : ℕ) → 2 * r < 2 ^ w → register_after_bit w p r (0 / 2 ^ n % 2) ≡ 2 * r
  unfolding leaving kept
  zero_bit n r fits =
      let no_bit : 0 / 2 ^ n % 2 ≡ 0 = ap (λ (x : ℕ). x % 2) (zero-div (2 ^ n)) in
      let none_leaves : 2 * r / 2 ^ w ≡ 0 = div-eq_of_lt fits in
      let all_stays : 2 * r % 2 ^ w ≡ 2 * r = mod-eq_of_lt fits in
      let small : r < 2 ^ w = omega (arith, fits) in
      ap (λ (x : ℕ). register_after_bit w p r x) no_bit ∙ same_bit r 0 small (lit< tt) none_leaves ∙ all_stays

  -- zero bits move a small number up
  pub zero_bits : (n r : ℕ) → r * 2 ^ n < 2 ^ w → register_after_bits w p r (lowest_bits n 0) ≡ r * 2 ^ n
  unfolding register_after_bits lowest_bits
  zero_bits zero r fits = omega arith
  zero_bits (suc n) r fits =
      let moved : 2 * r * 2 ^ n ≡ r * 2 ^ suc n = moved_up r (2 ^ n) ∙ ap (λ (x : ℕ). r * x) (sym (pow-suc 2 n)) in
      let next_fits : 2 * r * 2 ^ n < 2 ^ w = omega (arith, moved, fits) in
      let doubled_fits : 2 * r < 2 ^ w = omega (arith, next_fits, no_less (2 * r) (2 ^ n) (pow_pos n)) in
      ap (λ (x : ℕ). register_after_bits w p x (lowest_bits n 0)) (zero_bit n r doubled_fits) ∙ zero_bits n (2 * r) next_fits ∙ moved

  own_bit : (n j t : ℕ) → suc n + j ≡ w → register_after_bit w p (t % 2 ^ suc n * 2 ^ j) (t / 2 ^ n % 2) ≡ t % 2 ^ n * 2 ^ suc j
  unfolding leaving kept
  own_bit n j t size =
      let bit = t / 2 ^ n % 2 in
      let low = t % 2 ^ n in
      let parts : t % 2 ^ suc n ≡ bit * 2 ^ n + low = ap (λ (x : ℕ). t % 2 ^ x) (one_more n) ∙ mod-pow-add t 1 n in
      let whole : w ≡ 1 + (n + j) = omega arith in
      let power : 2 ^ n * 2 ^ j * 2 ≡ 2 ^ w = sym (ap (λ (x : ℕ). 2 ^ x) whole ∙ pow-add 2 1 (n + j) ∙ ap (λ (x : ℕ). 2 * x) (pow-add 2 n j) ∙ mul_comm 2 (2 ^ n * 2 ^ j)) in
      let doubled : 2 * (t % 2 ^ suc n * 2 ^ j) ≡ bit * 2 ^ w + low * 2 ^ suc j =
      ap (λ (x : ℕ). 2 * (x * 2 ^ j)) parts ∙ regrouped bit (2 ^ n) (2 ^ j) low
      ∙ ap (λ (x : ℕ). bit * x + low * (2 ^ j * 2)) power ∙ ap (λ (x : ℕ). bit * 2 ^ w + low * x) (sym (pow-suc 2 j)) in
      let rest_fits : low * 2 ^ suc j < 2 ^ w = let e : n + suc j ≡ w = omega arith in
      subst (λ (x : ℕ). low * 2 ^ suc j < 2 ^ x) e (shl_below low n (suc j) (mod_below t (2 ^ n) (pow_pos n))) in
      let fits : t % 2 ^ suc n * 2 ^ j < 2 ^ w =
      subst (λ (x : ℕ). t % 2 ^ suc n * 2 ^ j < 2 ^ x) size (shl_below (t % 2 ^ suc n) (suc n) j (mod_below t (2 ^ suc n) (pow_pos (suc n)))) in
      let leaves : 2 * (t % 2 ^ suc n * 2 ^ j) / 2 ^ w ≡ bit = ap (λ (x : ℕ). x / 2 ^ w) doubled ∙ div-mul-add bit (2 ^ w) (low * 2 ^ suc j) rest_fits in
      let stays : 2 * (t % 2 ^ suc n * 2 ^ j) % 2 ^ w ≡ low * 2 ^ suc j = ap (λ (x : ℕ). x % 2 ^ w) doubled ∙ mod-mul-add bit (2 ^ w) (low * 2 ^ suc j) rest_fits in
      same_bit (t % 2 ^ suc n * 2 ^ j) bit fits (mod_below (t / 2 ^ n) 2 (lit< tt)) leaves ∙ stays

  -- a number at the register's top that meets its own bits is gone
  own_bits : (n j t : ℕ) → n + j ≡ w → register_after_bits w p (t % 2 ^ n * 2 ^ j) (lowest_bits n t) ≡ 0
  unfolding register_after_bits lowest_bits
  own_bits zero j t size = ap (λ (x : ℕ). x * 2 ^ j) (mod-one t) ∙ zero-mul (2 ^ j)
  own_bits (suc n) j t size =
      ap (λ (x : ℕ). register_after_bits w p x (lowest_bits n t)) (own_bit n j t size) ∙ own_bits n (suc j) t (omega arith)

  -- n bits at once: what their sum with the top of the register makes of an empty one, and the rest moved up
  pub at_once : (n k r b : ℕ) → n + k ≡ w → p < 2 ^ w → r < 2 ^ w
      → register_after_bits w p r (lowest_bits n b) ≡ bit_xor (r % 2 ^ k * 2 ^ n) (register_after_bits w p 0 (lowest_bits n (bit_xor (r / 2 ^ k) b)))
  at_once n k r b size p_fits r_fits =
      let top = r / 2 ^ k in
      let low = r % 2 ^ k in
      let entry = register_after_bits w p 0 (lowest_bits n (bit_xor top b)) in
      let low_below : low < 2 ^ k = mod_below r (2 ^ k) (pow_pos k) in
      let top_below : top < 2 ^ n = shr_below r n k (subst (λ (x : ℕ). r < 2 ^ x) (sym size) r_fits) in
      let top_fits : top * 2 ^ k < 2 ^ w = subst (λ (x : ℕ). top * 2 ^ k < 2 ^ x) size (shl_below top n k top_below) in
      let moved_fits : low * 2 ^ n < 2 ^ w = subst (λ (x : ℕ). low * 2 ^ n < 2 ^ x) (add_comm k n ∙ size) (shl_below low k n low_below) in
      let low_fits : low < 2 ^ w = omega (arith, moved_fits, no_less low (2 ^ n) (pow_pos n)) in
      let empty_fits : 0 < 2 ^ w = pow_pos w in
      let register : r ≡ bit_xor (bit_xor 0 (top * 2 ^ k)) low =
      sym (shr_split r k) ∙ sym (xor_shifted top k low low_below) ∙ ap (λ (x : ℕ). bit_xor x low) (sym (xor_zero_l (top * 2 ^ k))) in
      let bits : b ≡ bit_xor (bit_xor (bit_xor top b) top) 0 =
      sym (xor_zero_r (bit_xor (bit_xor top b) top) ∙ ap (λ (x : ℕ). bit_xor x top) (xor_comm top b) ∙ xor_twice b top) in
      let own : register_after_bits w p (top * 2 ^ k) (lowest_bits n top) ≡ 0 =
      ap (λ (x : ℕ). register_after_bits w p (x * 2 ^ k) (lowest_bits n top)) (sym (mod-eq_of_lt top_below)) ∙ own_bits n k top size in
      ap (λ (x : ℕ). register_after_bits w p x (lowest_bits n b)) register
      ∙ ap (λ (x : ℕ). register_after_bits w p (bit_xor (bit_xor 0 (top * 2 ^ k)) low) (lowest_bits n x)) bits
      ∙ bits_linear p_fits n (bit_xor 0 (top * 2 ^ k)) low (bit_xor (bit_xor top b) top) 0 (xor_lt w 0 (top * 2 ^ k) empty_fits top_fits) low_fits
      ∙ ap (λ (x : ℕ). bit_xor x (register_after_bits w p low (lowest_bits n 0))) (bits_linear p_fits n 0 (top * 2 ^ k) (bit_xor top b) top empty_fits top_fits)
      ∙ ap (λ (x : ℕ). bit_xor (bit_xor entry x) (register_after_bits w p low (lowest_bits n 0))) own
      ∙ ap (λ (x : ℕ). bit_xor x (register_after_bits w p low (lowest_bits n 0))) (xor_zero_r entry)
      ∙ ap (λ (x : ℕ). bit_xor entry x) (zero_bits n low moved_fits)
      ∙ xor_comm entry (low * 2 ^ n)
