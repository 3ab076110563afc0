-- Lemmas on bytes, positions and single steps of reading.
use Rattle.std.proofs.Common.{◌≡◌, ℕ, zero, suc, ◌+◌, Bool, true, false, cond, Option, Some, None, List, [], ◌∷◌, ◌++◌, length, take, drop, Result, Ok, Err, refl, ap, subst, ◌∙◌, append_assoc, arith, inl, inr, ◌⊎◌}
use Rattle.std.specs.Prelude.{option_map}
use Rattle.std.specs.Result.{result_map_both}
use Rattle.std.proofs.lemmas.Bool.{cases_lt, le-ltb}
use Rattle.std.proofs.Math.Seq.{take-add}
use Rattle.std.proofs.lemmas.List.{drop-drop, take_at, drop_at, length-append, length-take, get_or-drop, get_or-take, get_or_past}
use Rattle.field_grammar.specs.Cursor.{advanced, cursor_at}
use Rattle.field_grammar.specs.Grammar.{IsBytes, HasNoZero, before_zero, field_at, zero_ended_at, ◌then◌}

-- ---- lists of bytes

pub IsBytes-drop : (n : ℕ) (bytes : List ℕ) → IsBytes bytes → IsBytes (drop n bytes)
IsBytes-drop n bytes fit i = rw get_or-drop (fit (n + i))

pub IsBytes-take : (n : ℕ) (bytes : List ℕ) → IsBytes bytes → IsBytes (take n bytes)
IsBytes-take n bytes fit i =
    elim (cases_lt i n) [
      | inl inside ↦ rw (get_or-take n bytes i 0 inside) (fit i)
      | inr past ↦ rw (get_or_past (take n bytes) i 0 (omega (arith, length-take n bytes))) (omega arith)
    ]

-- what stands after a part of bytes is bytes
pub IsBytes-after : (prefix rest : List ℕ) → IsBytes (prefix ++ rest) → IsBytes rest
IsBytes-after prefix rest fit = subst IsBytes (drop_at prefix rest (length prefix) refl) (IsBytes-drop (length prefix) (prefix ++ rest) fit)

-- n bytes further on in the same bytes
pub advanced-cursor_at : (n offset : ℕ) (bytes : List ℕ) → advanced n (cursor_at bytes offset) ≡ cursor_at bytes (offset + n)
advanced-cursor_at n offset bytes = rw (take-add offset n bytes, drop-drop n offset bytes) refl

-- ---- one step after another

abbrev pub said : {A F : Type 0} → A → Result A F
said x = Ok x

pub same_value : {A F : Type 0} (x y : A) → said {F = F} x ≡ said y → x ≡ y
same_value x y e = cc

-- where two steps have a value, both have
pub then_ok : {F A B : Type 0} (r : Result A F) (k : A → Result B F) (y : B) → (r then k) ≡ Ok y → (x : A) × (r ≡ Ok x) × (k x ≡ Ok y)
then_ok (Ok x) k y e = (x, refl, e)
then_ok (Err f) k y e = absurd cc

-- where two steps are refused, the first is, or the second after it
pub then_err : {F A B : Type 0} (r : Result A F) (k : A → Result B F) (f : F) → (r then k) ≡ Err f → (r ≡ Err f) ⊎ ((x : A) × (r ≡ Ok x) × (k x ≡ Err f))
then_err (Ok x) k f e = inr (x, refl, e)
then_err (Err d) k f e = inl cc

pub guard_ok : {A F : Type 0} (b : Bool) (f : F) (x y : A) → cond b (Err f) (Ok x) ≡ Ok y → (b ≡ false) × (x ≡ y)
guard_ok true f x y e = absurd cc
guard_ok false f x y e = (refl, cc)

pub guard_err : {A F : Type 0} (b : Bool) (f g : F) (x : A) → cond b (Err f) (Ok x) ≡ Err g → (b ≡ true) × (f ≡ g)
guard_err true f g x e = (refl, cc)
guard_err false f g x e = absurd cc

pub renamed_ok : {E F A : Type 0} (m : E → F) (r : Result A E) (x : A) → result_map_both (λ y. y) m r ≡ Ok x → r ≡ Ok x
renamed_ok m (Ok y) x e = cc
renamed_ok m (Err f) x e = absurd cc

pub renamed_err : {E F A : Type 0} (m : E → F) (r : Result A E) (f : F) → result_map_both (λ y. y) m r ≡ Err f → (e : E) × (r ≡ Err e) × (m e ≡ f)
renamed_err m (Ok y) f e = absurd cc
renamed_err m (Err d) f e = (d, refl, cc)

-- ---- a field that stands there is read

pub field_at-append : {F : Type 0} (short : ℕ → F) (n : ℕ) (before value rest : List ℕ) → length value ≡ n
    → field_at short n (record { before = before; rest = value ++ rest }) ≡ Ok (value, record { before = before ++ value; rest = rest })
field_at-append short n before value rest wide =
    let fits = le-ltb (length (value ++ rest)) n (omega (arith, length-append value rest)) in
    rw (fits, take_at value rest n wide, drop_at value rest n wide) refl

one_less : (o : Option ℕ) → option_map suc o ≡ None → o ≡ None
one_less None e = refl
one_less (Some n) e = absurd cc

before_zero-append : (value rest : List ℕ) → HasNoZero value → before_zero (value ++ 0 ∷ rest) ≡ Some (length value)
before_zero-append [] rest none = refl
before_zero-append (zero ∷ value) rest none = absurd (never none)
  where
    never : {x : ℕ} → Some x ≡ None → ⊥
    never e = cc
before_zero-append (suc b ∷ value) rest none = ap (option_map suc) (before_zero-append value rest (one_less (before_zero value) none))

pub zero_ended_at-append : {F : Type 0} (short : ℕ → F) (before value rest : List ℕ) → HasNoZero value
    → zero_ended_at short (record { before = before; rest = (value ++ 0 ∷ []) ++ rest }) (before_zero ((value ++ 0 ∷ []) ++ rest))
    ≡ Ok (value, record { before = before ++ (value ++ 0 ∷ []); rest = rest })
zero_ended_at-append short before value rest none =
    let same = append_assoc value (0 ∷ []) rest in
    let size : before_zero ((value ++ 0 ∷ []) ++ rest) ≡ Some (length value) = ap before_zero same ∙ before_zero-append value rest none in
    let text : take (length value) ((value ++ 0 ∷ []) ++ rest) ≡ value = ap (take (length value)) same ∙ take_at value (0 ∷ rest) (length value) refl in
    let wide : length (value ++ 0 ∷ []) ≡ suc (length value) = omega (arith, length-append value (0 ∷ [])) in
    rw (size, text, take_at (value ++ 0 ∷ []) rest (suc (length value)) wide, drop_at (value ++ 0 ∷ []) rest (suc (length value)) wide) refl

-- ---- bytes up to a zero

one_more : (o : Option ℕ) (n : ℕ) → option_map suc o ≡ Some n → (m : ℕ) × (o ≡ Some m) × (suc m ≡ n)
one_more None n e = absurd cc
one_more (Some m) n e = (m, refl, cc)

-- what stands before the first zero, the zero, and the bytes after it
abbrev pub IsSplitAtZero : List ℕ → ℕ → Type 0
IsSplitAtZero bytes n =
    (bytes ≡ (take n bytes ++ 0 ∷ []) ++ drop (suc n) bytes) × (take (suc n) bytes ≡ take n bytes ++ 0 ∷ []) × HasNoZero (take n bytes)

pub split_at_zero : (bytes : List ℕ) (n : ℕ) → before_zero bytes ≡ Some n → IsSplitAtZero bytes n
split_at_zero [] n e = absurd cc
split_at_zero (zero ∷ bytes) n e =
    let is : 0 ≡ n = cc in
    subst (IsSplitAtZero (0 ∷ bytes)) is (refl, refl, refl)
split_at_zero (suc b ∷ bytes) n e =
    let (m, found, is) = one_more (before_zero bytes) n e in
    let (parts, taken, none) = split_at_zero bytes m found in
    subst (IsSplitAtZero (suc b ∷ bytes)) is (ap (λ (l : List ℕ). suc b ∷ l) parts, ap (λ (l : List ℕ). suc b ∷ l) taken, rw none refl)
