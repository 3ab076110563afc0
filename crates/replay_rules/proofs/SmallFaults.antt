-- What holds of all faults of a format, where it reads no more bytes than this many.
use Rattle.std.proofs.Common.{◌≡◌, ℕ, zero, suc, ◌+◌, ◌<◌, ◌≤◌, Bool, true, false, cond, List, [], ◌∷◌, ◌++◌, length, length-append, take, drop, Result, Ok, Err, ap, subst, arith}
use Rattle.std.specs.Prelude.{nat_lt}
use Rattle.std.specs.Result.{result_map_both}
use Rattle.std.proofs.lemmas.List.{take-append-drop}
use Rattle.field_grammar.specs.Answers.{answer}
use Rattle.field_grammar.specs.Cursor.{Cursor, advanced, start}
use Rattle.field_grammar.specs.Grammar.{Grammar, IsBytes, check, field, give, judge, left, listed, prefix, read, renamed, seq, stays, times, ◌then◌}

-- ---- bytes

no_bytes : IsBytes []
no_bytes i = omega arith

pub append_bytes : (xs ys : List ℕ) → IsBytes xs → IsBytes ys → IsBytes (xs ++ ys)
append_bytes [] ys a b i = b i
append_bytes (x ∷ xs) ys a b zero = a 0
append_bytes (x ∷ xs) ys a b (suc i) = append_bytes xs ys (λ k. a (suc k)) b i

pub take_bytes : (n : ℕ) (xs : List ℕ) → IsBytes xs → IsBytes (take n xs)
take_bytes zero xs a i = omega arith
take_bytes (suc n) [] a i = omega arith
take_bytes (suc n) (x ∷ xs) a zero = a 0
take_bytes (suc n) (x ∷ xs) a (suc i) = take_bytes n xs (λ k. a (suc k)) i

pub drop_bytes : (n : ℕ) (xs : List ℕ) → IsBytes xs → IsBytes (drop n xs)
drop_bytes zero xs a i = a i
drop_bytes (suc n) [] a i = omega arith
drop_bytes (suc n) (x ∷ xs) a i = drop_bytes n xs (λ k. a (suc k)) i

-- ---- what is read within this many bytes

pub record Within (most : ℕ) (c : Cursor) : Type 0 where
  pub room : length c.before + length c.rest ≤ most
  pub before : IsBytes c.before
  pub rest : IsBytes c.rest

within_start : (most : ℕ) (bytes : List ℕ) → length bytes ≤ most → IsBytes bytes → Within most (start bytes)
within_start most bytes le fit = record { room = omega (arith, le); before = no_bytes; rest = fit }

within_next : (most n : ℕ) (c : Cursor) → Within most c → Within most (advanced n c)
within_next most n c w =
    let whole : length (take n c.rest ++ drop n c.rest) ≡ length c.rest = ap length (take-append-drop n c.rest) in
    let room = w.room in
    record {
      room = omega (arith, room, whole, length-append (take n c.rest) (drop n c.rest), length-append c.before (take n c.rest));
      before = append_bytes c.before (take n c.rest) w.before (take_bytes n c.rest w.rest);
      rest = drop_bytes n c.rest w.rest;
    }

-- a value is such, and a fault is such
abbrev pub IsSo : {F A : Type 0} → ℕ → (F → Type 0) → (A → Type 0) → Result (A × Cursor) F → Type 0
IsSo most P Q (Ok x) = Q x.0 × Within most x.1
IsSo most P Q (Err fault) = P fault

-- What the format reads within this many bytes is such a value, or such a fault.
pub record ReadsSo {F A : Type 0} (most : ℕ) (P : F → Type 0) (Q : A → Type 0) (g : Grammar F A) : Type 0 where
  pub reads : (c : Cursor) → Within most c → IsSo most P Q (read g c)

pub answered_so : {F A : Type 0} (most : ℕ) (P : F → Type 0) (Q : A → Type 0) (g : Grammar F A) (bytes : List ℕ) (fault : F) → ReadsSo most P Q g → length bytes ≤ most → IsBytes bytes → answer g bytes ≡ Err fault → P fault
answered_so {F = F} {A = A} most P Q g bytes fault h le fit e = by (read g (start bytes)) (h.reads (start bytes) (within_start most bytes le fit)) e
  where
    by : (r : Result (A × Cursor) F) → IsSo most P Q r → (r then (λ (x : A × Cursor). Ok x.0)) ≡ Err fault → P fault
    by (Ok x) so f = absurd cc
    by (Err other) so f = let same : other ≡ fault = cc in subst P same so

-- ---- the formats one by one

module _ {F : Type 0} (most : ℕ) (P : F → Type 0) where
  pub so_give : {A : Type 0} (Q : A → Type 0) (x : A) → Q x → ReadsSo most P Q (give x)
  so_give Q x q = record { reads = λ c w. (q, w) }

  abbrev pub JudgedSo : {A : Type 0} → (A → Type 0) → Result A F → Type 0
  JudgedSo Q (Ok x) = Q x
  JudgedSo Q (Err fault) = P fault

  pub so_judge : {A : Type 0} (Q : A → Type 0) (r : Result A F) → JudgedSo Q r → ReadsSo most P Q (judge r)
  so_judge {A = A} Q r h = record { reads = λ c w. by r h c w }
    where
      by : (r : Result A F) → JudgedSo Q r → (c : Cursor) → Within most c → IsSo most P Q (stays c r)
      by (Ok x) q c w = (q, w)
      by (Err fault) p c w = p

  pub so_check : (b : Bool) (fault : F) → P fault → ReadsSo most P (λ (u : Unit {0}). Unit {0}) (check b fault)
  so_check b fault p = record { reads = λ c w. by b c w }
    where
      by : (b : Bool) (c : Cursor) → Within most c → IsSo {F = F} {A = Unit {0}} most P (λ (u : Unit {0}). Unit {0}) (cond b (Ok (tt, c)) (Err fault))
      by true c w = (tt, w)
      by false c w = p

  pub so_field : (short : ℕ → F) (n : ℕ) → ((offset : ℕ) → offset ≤ most → P (short offset)) → ReadsSo most P (λ (v : List ℕ). IsBytes v × (length v ≤ most)) (field short n)
  so_field short n p = record { reads = λ c w. by (nat_lt (length c.rest) n) c w }
    where
      size : (c : Cursor) → Within most c → length (take n c.rest) ≤ most
      size c w =
          let whole : length (take n c.rest ++ drop n c.rest) ≡ length c.rest = ap length (take-append-drop n c.rest) in
          let room = w.room in
          omega (arith, room, whole, length-append (take n c.rest) (drop n c.rest))

      by : (b : Bool) (c : Cursor) → Within most c → IsSo {F = F} {A = List ℕ} most P (λ (v : List ℕ). IsBytes v × (length v ≤ most)) (cond b (Err (short (length c.before))) (Ok (take n c.rest, advanced n c)))
      by true c w = let room = w.room in p (length c.before) (omega (arith, room))
      by false c w = ((take_bytes n c.rest w.rest, size c w), within_next most n c w)

  pub so_prefix : ReadsSo most P (λ (v : List ℕ). IsBytes v × (length v ≤ most)) prefix
  so_prefix = record { reads = λ c w. ((w.before, (let room = w.room in omega (arith, room))), w) }

  pub so_left : ReadsSo most P (λ (n : ℕ). n ≤ most) left
  so_left = record { reads = λ c w. ((let room = w.room in omega (arith, room)), w) }

  pub so_seq : {A B : Type 0} (Q : A → Type 0) (R : B → Type 0) (g : Grammar F A) (k : A → Grammar F B) → ReadsSo most P Q g → ((x : A) → Q x → ReadsSo most P R (k x)) → ReadsSo most P R (seq g k)
  so_seq {A = A} {B = B} Q R g k first next = record { reads = λ c w. by (read g c) (first.reads c w) }
    where
      by : (r : Result (A × Cursor) F) → IsSo most P Q r → IsSo most P R (r then (λ (x : A × Cursor). read (k x.0) x.1))
      by (Ok x) so = (next x.0 so.0).reads x.1 so.1
      by (Err fault) so = so

  pub so_weaker : {A : Type 0} (Q R : A → Type 0) (g : Grammar F A) → ((x : A) → Q x → R x) → ReadsSo most P Q g → ReadsSo most P R g
  so_weaker {A = A} Q R g f h = record { reads = λ c w. by (read g c) (h.reads c w) }
    where
      by : (r : Result (A × Cursor) F) → IsSo most P Q r → IsSo most P R r
      by (Ok x) so = (f x.0 so.0, so.1)
      by (Err fault) so = so

  pub so_times : {A : Type 0} (Q : A → Type 0) (n : ℕ) (g : Grammar F A) → ReadsSo most P Q g → ReadsSo most P (λ (xs : List A). Unit {0}) (times n g)
  unfolding times
  so_times Q zero g h = so_give (λ (xs : List _). Unit {0}) [] tt
  so_times Q (suc n) g h = so_seq Q (λ (xs : List _). Unit {0}) g _ h (λ x q. so_seq (λ (xs : List _). Unit {0}) (λ (xs : List _). Unit {0}) (times n g) _ (so_times Q n g h) (λ xs u. so_give (λ (ys : List _). Unit {0}) (x ∷ xs) tt))

  -- this many values, each after those so far
  pub so_listed : {A : Type 0} (count n : ℕ) (item : List A → Grammar F A) (so_far : List A) → ((xs : List A) → length xs < count → ReadsSo most P (λ (x : A). Unit {0}) (item xs)) → length so_far + n ≡ count → ReadsSo most P (λ (xs : List A). length xs ≡ count) (listed n item so_far)
  unfolding listed
  so_listed count zero item so_far each e = so_give (λ (xs : List _). length xs ≡ count) so_far (omega (arith, e))
  so_listed count (suc n) item so_far each e =
      so_seq (λ (x : _). Unit {0}) (λ (xs : List _). length xs ≡ count) (item so_far) _ (each so_far (omega (arith, e)))
      (λ x u. so_listed count n item (so_far ++ x ∷ []) each (let one = length-append so_far (x ∷ []) in omega (arith, one, e)))

pub so_renamed : {E F A : Type 0} (most : ℕ) (P : E → Type 0) (R : F → Type 0) (Q : A → Type 0) (m : E → F) (g : Grammar E A) → ReadsSo most P Q g → ((fault : E) → P fault → R (m fault)) → ReadsSo most R Q (renamed m g)
so_renamed {E = E} {F = F} {A = A} most P R Q m g h f = record { reads = λ c w. by (read g c) (h.reads c w) }
  where
    by : (r : Result (A × Cursor) E) → IsSo most P Q r → IsSo most R Q (result_map_both (λ (x : A × Cursor). x) m r)
    by (Ok x) so = so
    by (Err fault) so = f fault so
