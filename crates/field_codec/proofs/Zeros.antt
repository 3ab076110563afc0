-- Texts up to a zero.
use Rattle.std.proofs.Common.{◌≡◌, ℕ, zero, suc, ◌+◌, ◌-◌, ◌≤◌, false, List, [], ◌∷◌, length, take, drop, Option, Some, None, Ok, Err, refl, ap, sym, subst, ◌∙◌, arith, length-drop}
use Rattle.std.specs.Prelude.{option_map, ◌==◌}
use Rattle.std.specs.List.{position, position_from}
use Rattle.std.proofs.lemmas.Bool.{ne_eqb}
use Rattle.std.proofs.lemmas.Iterator.Adapters.{position_from-zero}
use Rattle.std.proofs.lemmas.List.{append-nil, length-take, length-take-le, take_all}
use Rattle.std.proofs.lemmas.List.Quantifiers.{position-Some}
use Rattle.field_grammar.specs.Cursor.{Cursor, cursor_at}
use Rattle.field_grammar.specs.Grammar.{IsBytes, HasNoZero, zero_ended, before_zero, zero_ended_at, read}
use Rattle.field_grammar.specs.Spelling.{IsSpelledBy}
use Rattle.field_grammar.proofs.StepLemmas.{advanced-cursor_at}
use Rattle.field_grammar.specs.declared.fault.FieldFault.TheVariants.{Short}
use Rattle.field_codec.specs.Reader.{zero_ended_text, PassesAt, IsUnended}
use Rattle.field_codec.proofs.Passing.{passes, fit_at}

further : (i : ℕ) (o : Option ℕ) → option_map (λ k. i + 1 + k) o ≡ option_map (λ k. i + k) (option_map suc o)
further i None = refl
further i (Some n) = let e : i + 1 + n ≡ i + suc n = omega arith in ap (λ (k : ℕ). Some k) e

placed : (i : ℕ) (xs : List ℕ) → position_from (λ b. b == 0) i xs ≡ option_map (λ k. i + k) (before_zero xs)
placed i [] = refl
placed i (zero ∷ xs) = let e : i ≡ i + 0 = omega arith in ap (λ (k : ℕ). Some k) e
placed i (suc b ∷ xs) =
    let other : suc b == 0 ≡ false = ne_eqb (suc b) 0 (λ e. omega arith) in
    rw other (placed (i + 1) xs ∙ further i (before_zero xs))

same : (o : Option ℕ) → option_map (λ k. 0 + k) o ≡ o
same None = refl
same (Some n) = let e : 0 + n ≡ n = omega arith in ap (λ (k : ℕ). Some k) e

-- the offset of the first zero, in a word of std
pub zero_offset : (xs : List ℕ) → position (λ b. b == 0) xs ≡ before_zero xs
zero_offset xs = position_from-zero (λ b. b == 0) xs ∙ (placed 0 xs ∙ same (before_zero xs))

-- ---- from an offset on

abbrev pub zero_from : ℕ → List ℕ → Option ℕ
zero_from offset bytes = position (λ b. b == 0) (take (length bytes - offset) (drop offset bytes))

from_there : (offset : ℕ) (bytes : List ℕ) → zero_from offset bytes ≡ before_zero (drop offset bytes)
from_there offset bytes =
    let all : take (length bytes - offset) (drop offset bytes) ≡ drop offset bytes = take_all (length bytes - offset) (drop offset bytes) (omega (arith, length-drop offset bytes)) in
    rw all (zero_offset (drop offset bytes))

-- a text that stands there is within the bytes
pub text_is_within : (bytes : List ℕ) (offset size : ℕ) → Some size ≡ zero_from offset bytes → offset + size + 1 ≤ length bytes
text_is_within bytes offset size e =
    let some = position-Some (λ b. b == 0) (take (length bytes - offset) (drop offset bytes)) size 0 (sym e) in
    omega (arith, some.0, length-take (length bytes - offset) (drop offset bytes), length-drop offset bytes)

-- and is read
pub text_is_read : {F : Type 0} (short : ℕ → F) (bytes : List ℕ) (offset size : ℕ) → Some size ≡ zero_from offset bytes
    → zero_ended_at short (cursor_at bytes offset) (before_zero (drop offset bytes)) ≡ Ok (take (offset + size - offset) (drop offset bytes), cursor_at bytes (offset + size + 1))
text_is_read short bytes offset size e =
    let n : offset + size - offset ≡ size = omega arith in
    let m : offset + suc size ≡ offset + size + 1 = omega arith in
    let found : before_zero (drop offset bytes) ≡ Some size = sym (e ∙ from_there offset bytes) in
    rw (found, n) (ap (λ (c : Cursor). Ok (take size (drop offset bytes), c)) (advanced-cursor_at (suc size) offset bytes ∙ ap (cursor_at bytes) m))

-- where no text stands, it is refused
pub text_is_refused : {F : Type 0} (short : ℕ → F) (bytes : List ℕ) (offset : ℕ) → offset ≤ length bytes → None ≡ zero_from offset bytes
    → zero_ended_at short (cursor_at bytes offset) (before_zero (drop offset bytes)) ≡ Err (short offset)
text_is_refused short bytes offset le e =
    let none : before_zero (drop offset bytes) ≡ None = sym (e ∙ from_there offset bytes) in
    rw none (ap (λ (n : ℕ). Err (short n)) (length-take-le offset bytes le))

-- ---- what was read is what is written

-- a text without a zero
abbrev IsText : List ℕ → Type 0
IsText text = HasNoZero text × IsBytes text

spelled-zero_ended : IsSpelledBy (zero_ended Short) (λ text. zero_ended_text text ∷ []) IsText
spelled-zero_ended = record {
  to = λ before fields after value follows. (follows.0, (follows.1, follows.2));
  from = λ before after value is. (refl, is.0, is.1);
}

pub text_passes : (bytes : List ℕ) (offset end : ℕ) (text : List ℕ) → IsBytes bytes
    → read (zero_ended Short) (cursor_at bytes offset) ≡ Ok (text, cursor_at bytes end) → PassesAt bytes offset end (zero_ended_text text)
text_passes bytes offset end text fit e =
    subst (PassesAt bytes offset end) (append-nil (zero_ended_text text))
    (passes (zero_ended Short) (λ t. zero_ended_text t ∷ []) IsText (cursor_at bytes offset) (cursor_at bytes end) text spelled-zero_ended (fit_at bytes offset fit) e)

pub no_zero_left : (bytes : List ℕ) (offset : ℕ) → offset ≤ length bytes → None ≡ zero_from offset bytes → IsUnended (cursor_at bytes offset) (Short offset)
no_zero_left bytes offset le e = (sym (e ∙ from_there offset bytes), ap Short (sym (length-take-le offset bytes le)))
