-- A field that is refused doesn't fit, or has a bad pad.
use Rattle.std.proofs.Common.{◌≡◌, ℕ, zero, suc, ◌+◌, ◌-◌, ◌%◌, ◌<◌, ◌≤◌, Bool, ltb, eqb, true, false, List, length, take, drop, Ok, Err, refl, sym, ap, subst, ◌∙◌, append_assoc, arith, inl, inr, ◌⊎◌}
use Rattle.std.specs.Prelude.{slice_index}
use Rattle.std.proofs.lemmas.Bool.{ltb-true, ltb-false, eqb-false}
use Rattle.std.proofs.lemmas.List.{drop-drop, length-drop, get_or-take}
use Rattle.std.proofs.Math.Seq.{take-add}
use Rattle.byteorder.specs.Numbers.{big_from-take}
use Rattle.field_grammar.specs.Cursor.{Cursor, advanced}
use Rattle.field_grammar.specs.Grammar.{Grammar, read, check, give, ◌>>=◌, ◌>>◌, ◌then◌}
use Rattle.field_grammar.specs.Fields.{number, number_in, raw, pad, padded_parts, padded, short_parts, short, text_fault}
use Rattle.field_grammar.specs.declared.fault.FieldFault.{FieldFault}
use Rattle.field_grammar.specs.declared.fault.FieldFault.TheVariants.{Short, BadPad}
use Rattle.field_grammar.proofs.StepLemmas.{then_ok, then_err, guard_ok, guard_err, renamed_err, said}
use Rattle.field_codec.specs.Reader.{IsShort, IsBadPad, IsPadFault, IsPaddedFault, short_size, padded_size}

-- ---- one field

raw_ok : (n : ℕ) (c d : Cursor) (b : List ℕ) → read (raw n) c ≡ Ok (b, d) → (n ≤ length c.rest) × (b ≡ take n c.rest) × (d ≡ advanced n c)
unfolding raw
raw_ok n c d b e =
    let fits = guard_ok (ltb (length c.rest) n) (Short (length c.before)) (take n c.rest, advanced n c) (b, d) e in
    (ltb-false _ _ fits.0, ap (λ (p : List ℕ × Cursor). p.0) (sym fits.1), ap (λ (p : List ℕ × Cursor). p.1) (sym fits.1))

raw_err : (n : ℕ) (c : Cursor) (f : FieldFault) → read (raw n) c ≡ Err f → IsShort n c f
unfolding raw
raw_err n c f e =
    let few = guard_err (ltb (length c.rest) n) (Short (length c.before)) f (take n c.rest, advanced n c) e in
    (ltb-true _ _ few.0, sym few.1)

same_pair : (p q : ℕ × Cursor) → said {F = FieldFault} p ≡ said q → p ≡ q
same_pair p q e = cc

number_ok : (n : ℕ) (c d : Cursor) (v : ℕ) → read (number n) c ≡ Ok (v, d) → (n ≤ length c.rest) × (v ≡ number_in n c.rest) × (d ≡ advanced n c)
unfolding number number_in
number_ok n c d v e =
    let (x, taken, given) = then_ok (read (raw n) c) (λ x. Ok (number_in n x.0, x.1)) (v, d) e in
    let (fits, bytes, offset) = raw_ok n c x.1 x.0 taken in
    let whole = big_from-take 0 n n c.rest (omega arith) in
    let both = same_pair (number_in n x.0, x.1) (v, d) given in
    (fits, sym (ap (λ (p : ℕ × Cursor). p.0) both) ∙ (ap (number_in n) bytes ∙ whole), sym (ap (λ (p : ℕ × Cursor). p.1) both) ∙ offset)

number_err : (n : ℕ) (c : Cursor) (f : FieldFault) → read (number n) c ≡ Err f → IsShort n c f
unfolding number
number_err n c f e =
    elim (then_err (read (raw n) c) (λ x. Ok (number_in n x.0, x.1)) f e) [
      | inl refused ↦ raw_err n c f refused
      | inr later ↦ absurd (never later.2)
    ]
  where
    never : {x : ℕ × Cursor} → said x ≡ Err f → ⊥
    never e = cc

advanced-advanced : (m n : ℕ) (c : Cursor) → advanced n (advanced m c) ≡ advanced (m + n) c
advanced-advanced m n c = rw (take-add m n c.rest, drop-drop n m c.rest, append_assoc) refl

-- ---- the pad

test_err : (b : Bool) (f g : FieldFault) (d : Cursor) → read (check b f) d ≡ Err g → (b ≡ false) × (f ≡ g)
test_err true f g d e = absurd cc
test_err false f g d e = (refl, cc)

pub pad_err : (n : ℕ) (c : Cursor) (f : FieldFault) → read (pad n) c ≡ Err f → IsPadFault n c f
unfolding pad
pad_err n c f e =
    elim (then_err (read (raw (n % 2)) c) (λ x. read (check (eqb (slice_index x.0 0) 0) (BadPad (length c.before))) x.1) f e) [
      | inl refused ↦ inl (raw_err (n % 2) c f refused)
      | inr later ↦
          let (x, taken, failed) = later in
          let test = test_err (eqb (slice_index x.0 0) 0) (BadPad (length c.before)) f x.1 failed in
          let byte : slice_index x.0 0 ≡ slice_index (take (n % 2) c.rest) 0 = ap (λ (l : List ℕ). slice_index l 0) (raw_ok (n % 2) c x.1 x.0 taken).1 in
          let bad : 0 < slice_index (take (n % 2) c.rest) 0 = omega (arith, eqb-false _ _ test.0, byte) in
          let byte_is = taken_byte (n % 2) c.rest bad (omega arith) in
          inr (byte_is.0, byte_is.1, sym test.1)
    ]
  where
    size : (k : ℕ) (bytes : List ℕ) → 0 < slice_index (take k bytes) 0 → k < 2 → k ≡ 1
    size zero bytes bad small = absurd (omega arith)
    size (suc k) bytes bad small = omega arith

    taken_byte : (k : ℕ) (bytes : List ℕ) → 0 < slice_index (take k bytes) 0 → k < 2 → (k ≡ 1) × (0 < slice_index bytes 0)
    taken_byte k bytes bad small =
        let odd : k ≡ 1 = size k bytes bad small in
        (odd, rw (get_or-take 1 bytes 0 0 (omega arith)) at (subst (λ (m : ℕ). 0 < slice_index (take m bytes) 0) odd bad))

-- ---- texts

pub short_err : (c : Cursor) (f : FieldFault) → read short c ≡ Err f → IsShort (short_size c.rest) c f
unfolding short short_parts short_size
short_err c f e =
    let (inner, refused, same) = renamed_err (text_fault (length c.before)) (read short_parts c) f e in
    elim (then_err (read (number 1) c) (λ x. read (raw x.0) x.1) inner refused) [
      | inl first ↦ let few = number_err 1 c inner first in (omega (arith, few.0), sym same ∙ ap (text_fault (length c.before)) few.1)
      | inr later ↦
          let (x, taken, failed) = later in
          let (fits, size, offset) = number_ok 1 c x.1 x.0 taken in
          let few = raw_err x.0 x.1 inner failed in
          let left : length x.1.rest ≡ length c.rest - 1 = rw offset (length-drop 1 c.rest) in
          (omega (arith, few.0, left, size), sym same ∙ ap (text_fault (length c.before)) few.1)
    ]

-- the bytes of a padded text and its pad
abbrev text_and_pad : ℕ → Grammar FieldFault (List ℕ)
text_and_pad n = do
  text ← raw n
  pad n
  give text

text_and_pad_err : (n : ℕ) (c : Cursor) (f : FieldFault) → read (text_and_pad n) c ≡ Err f
    → IsShort n c f ⊎ ((n ≤ length c.rest) × IsPadFault n (advanced n c) f)
text_and_pad_err n c f e =
    elim (then_err (read (raw n) c) (λ x. read (pad n) x.1 then (λ y. Ok (x.0, y.1))) f e) [
      | inl refused ↦ inl (raw_err n c f refused)
      | inr later ↦
          let (x, taken, failed) = later in
          let (fits, bytes, offset) = raw_ok n c x.1 x.0 taken in
          elim (then_err (read (pad n) x.1) (λ y. Ok (x.0, y.1)) f failed) [
            | inl refused ↦ inr (fits, subst (λ (d : Cursor). IsPadFault n d f) offset (pad_err n x.1 f refused))
            | inr given ↦ absurd (never (x.0, given.0.1) f given.2)
          ]
    ]
  where
    never : (x : List ℕ × Cursor) (f : FieldFault) → said x ≡ Err f → ⊥
    never x f e = cc

-- a fault of the text's bytes or pad, as one of the whole text
part_is_whole : (c : Cursor) (f : FieldFault) → 2 ≤ length c.rest
    → IsShort (number_in 2 c.rest) (advanced 2 c) f ⊎ ((number_in 2 c.rest ≤ length (drop 2 c.rest)) × IsPadFault (number_in 2 c.rest) (advanced (number_in 2 c.rest) (advanced 2 c)) f)
    → IsPaddedFault c (text_fault (length c.before) f)
unfolding padded_size
part_is_whole c f fits fault =
    let n : ℕ = number_in 2 c.rest in
    let named = text_fault (length c.before) in
    let fewer : length (drop 2 c.rest) ≡ length c.rest - 2 = length-drop 2 c.rest in
    elim fault [
      | inl few ↦ inl (omega (arith, few.0, fewer), ap named few.1)
      | inr later ↦
          elim later.1 [
            | inl few ↦
                let left : length (drop n (drop 2 c.rest)) ≡ length (drop 2 c.rest) - n = length-drop n (drop 2 c.rest) in
                inl (omega (arith, few.0, left, fewer, later.0, fits), ap named few.1)
            | inr bad ↦ inr (subst (λ (d : Cursor). IsBadPad n d (named f)) (advanced-advanced 2 n c) (bad.0, bad.1, ap named bad.2))
          ]
    ]

pub padded_err : (c : Cursor) (f : FieldFault) → read padded c ≡ Err f → IsPaddedFault c f
unfolding padded padded_parts padded_size
padded_err c f e =
    let named = text_fault (length c.before) in
    let (inner, refused, same) = renamed_err named (read padded_parts c) f e in
    elim (then_err (read (number 2) c) (λ x. read (text_and_pad x.0) x.1) inner refused) [
      | inl first ↦ let few = number_err 2 c inner first in inl (omega (arith, few.0), sym same ∙ ap named few.1)
      | inr later ↦
          let (x, taken, failed) = later in
          let (fits, size, offset) = number_ok 2 c x.1 x.0 taken in
          let there : read (text_and_pad (number_in 2 c.rest)) (advanced 2 c) ≡ Err inner = subst (λ (d : Cursor). read (text_and_pad (number_in 2 c.rest)) d ≡ Err inner) offset (subst (λ (n : ℕ). read (text_and_pad n) x.1 ≡ Err inner) size failed) in
          subst (IsPaddedFault c) same (part_is_whole c inner fits (text_and_pad_err (number_in 2 c.rest) (advanced 2 c) inner there))
    ]
