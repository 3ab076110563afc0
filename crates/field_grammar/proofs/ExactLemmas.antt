-- Bytes say one value in a format or fail it with one fault, and never both.
use Rattle.std.specs.List.{concat}
use Rattle.std.proofs.Common.{◌++◌, ◌≡◌, ℕ, List, [], length, Result, Ok, Err, refl, sym, subst, ◌∙◌, inl, inr, ◌⊎◌, ◌+◌, arith}
use Rattle.std.proofs.lemmas.Bool.{eqb-true}
use Rattle.std.proofs.lemmas.List.{append-nil, nil_from_length}
use Rattle.field_grammar.specs.Cursor.{Cursor, start}
use Rattle.field_grammar.specs.Grammar.{Grammar, seq, renamed, ended, Took, read, IsBytes, Spelled, SpelledAtStart, Fault, EndsTheBytes, IsDecided, IsDecidedAtStart}
use Rattle.field_grammar.specs.Answers.{answer}
use Rattle.field_grammar.proofs.StepLemmas.{then_ok, then_err}
use Rattle.field_grammar.proofs.GrammarLemmas.{what_follows_is_read, what_stops_is_refused, what_is_read_follows, what_is_refused_stops}

abbrev refusal : {A F : Type 0} → F → Result A F
refusal f = Err f

value_or_fault : {F A : Type 0} (x : A) (f : F) → Ok x ≡ refusal f → ⊥
value_or_fault x f e = cc

value_is : {F A : Type 0} (x y : A) (r : Result A F) → r ≡ Ok x → r ≡ Ok y → x ≡ y
value_is x y r e d = cc

fault_is : {F A : Type 0} (e f : F) (r : Result A F) → r ≡ Err e → r ≡ Err f → e ≡ f
fault_is e f r x y = cc

-- ---- the start of bytes

-- what is spelled at the start is the answer
pub answer-spelled : {F A : Type 0} (g : Grammar F A) (bytes : List ℕ) (value : A) → SpelledAtStart g bytes value → answer g bytes ≡ Ok value
answer-spelled g bytes value spelled =
    let (fields, rest, parts, follows) = spelled in
    rw (parts, what_follows_is_read g [] fields rest value follows) refl

-- a fault is the answer
pub answer-fault : {F A : Type 0} (g : Grammar F A) (bytes : List ℕ) (fault : F) → Fault g bytes fault → answer g bytes ≡ Err fault
answer-fault g bytes fault faulty =
    let (fields, rest, parts, stops) = faulty in
    rw (parts, what_stops_is_refused g [] fields rest fault stops) refl

-- the fields that the answer's value has taken
pub answer_took : {F A : Type 0} (g : Grammar F A) (bytes : List ℕ) (value : A) → IsBytes bytes → answer g bytes ≡ Ok value → (c : Cursor) × Took g (start bytes) c value
answer_took {F = F} {A = A} g bytes value fit e =
    let (x, was, is) = then_ok (read g (start bytes)) (λ x. Ok x.0) value e in
    let same : x.0 ≡ value = value_is {F = F} x.0 value (Ok x.0) refl is in
    (x.1, subst (λ (v : A). Took g (start bytes) x.1 v) same (what_is_read_follows g (start bytes) x.1 x.0 fit was))

-- a value that is the answer is spelled at the start
pub answer_is_spelled : {F A : Type 0} (g : Grammar F A) (bytes : List ℕ) (value : A) → IsBytes bytes → answer g bytes ≡ Ok value → SpelledAtStart g bytes value
answer_is_spelled g bytes value fit e =
    let (c, took) = answer_took g bytes value fit e in
    (took.fields, c.rest, took.parts, took.follows)

-- a refusal that is the answer is the fault
pub answer_is_fault : {F A : Type 0} (g : Grammar F A) (bytes : List ℕ) (fault : F) → IsBytes bytes → answer g bytes ≡ Err fault → Fault g bytes fault
answer_is_fault {F = F} g bytes fault fit e =
    elim (then_err (read g (start bytes)) (λ x. Ok x.0) fault e) [
      | inl refused ↦
          let s = what_is_refused_stops g (start bytes) fault fit refused in
          (s.fields, s.rest, s.parts, s.stops)
      | inr later ↦ absurd (value_or_fault {F = F} later.0.0 fault later.2)
    ]

abbrev SpelledOrFaulty : {F A : Type 0} → Grammar F A → List ℕ → Type 0
SpelledOrFaulty {F} {A} g bytes = ((value : A) × SpelledAtStart g bytes value) ⊎ ((fault : F) × Fault g bytes fault)

one_of_both : {F A : Type 0} (g : Grammar F A) (bytes : List ℕ) (r : Result A F) → IsBytes bytes → answer g bytes ≡ r → SpelledOrFaulty g bytes
one_of_both g bytes (Ok value) fit e = inl (value, answer_is_spelled g bytes value fit e)
one_of_both g bytes (Err fault) fit e = inr (fault, answer_is_fault g bytes fault fit e)

-- bytes begin with a spelling of some value, or fail with some fault
pub one_or_other : {F A : Type 0} (g : Grammar F A) (bytes : List ℕ) → IsBytes bytes → ((value : A) × SpelledAtStart g bytes value) ⊎ ((fault : F) × Fault g bytes fault)
one_or_other g bytes fit = one_of_both g bytes (answer g bytes) fit refl

-- and never both
pub not_both : {F A : Type 0} (g : Grammar F A) (bytes : List ℕ) (value : A) (fault : F) → SpelledAtStart g bytes value → Fault g bytes fault → ⊥
not_both g bytes value fault spelled faulty =
    value_or_fault value fault (sym (answer-spelled g bytes value spelled) ∙ answer-fault g bytes fault faulty)

-- the value is one
pub one_value : {F A : Type 0} (g : Grammar F A) (bytes : List ℕ) (x y : A) → SpelledAtStart g bytes x → SpelledAtStart g bytes y → x ≡ y
one_value g bytes x y one two = value_is x y (answer g bytes) (answer-spelled g bytes x one) (answer-spelled g bytes y two)

-- the fault is one
pub one_fault : {F A : Type 0} (g : Grammar F A) (bytes : List ℕ) (e f : F) → Fault g bytes e → Fault g bytes f → e ≡ f
one_fault g bytes e f one two = fault_is e f (answer g bytes) (answer-fault g bytes e one) (answer-fault g bytes f two)

-- each list of bytes is decided by each format
pub decided_at_start : {F A : Type 0} (g : Grammar F A) (bytes : List ℕ) → IsBytes bytes → IsDecidedAtStart g bytes
decided_at_start g bytes fit = record {
  one_or_other = one_or_other g bytes fit;
  not_both = not_both g bytes;
  one_value = one_value g bytes;
  one_fault = one_fault g bytes;
}

-- ---- formats that end the bytes

-- the test that nothing is left
pub ends_at_end : {F : Type 0} (more : ℕ → F) → EndsTheBytes (ended more)
ends_at_end more = record {
  at_end = λ before fields after value follows.
      let (offset, f1, o1, parts1, h1, (size, f2, o2, parts2, h2, h3)) = follows in
      let none : length (concat o2) ≡ 0 = rw h3.0 refl in
      omega (arith, eqb-true _ _ h3.1, h2.1, none);
}

-- a format whose last part ends the bytes
pub ends_last : {F A B : Type 0} (g : Grammar F A) (k : A → Grammar F B) → ((x : A) → EndsTheBytes (k x)) → EndsTheBytes (seq g k)
ends_last g k ends = record {
  at_end = λ before fields after value follows.
      let (x, first, others, parts, fx, fy) = follows in
      (ends x).at_end (before ++ concat first) others after value fy;
}

-- a format with a part that ends the bytes, after which no field stands
pub ends_before : {F A B : Type 0} (g : Grammar F A) (k : A → Grammar F B) → EndsTheBytes g → EndsTheBytes (seq g k)
ends_before g k ends = record {
  at_end = λ before fields after value follows.
      let (x, first, others, parts, fx, fy) = follows in
      omega (arith, ends.at_end before first (length (concat others) + after) x fx);
}

-- other faults
pub ends_renamed : {E F A : Type 0} (m : E → F) (g : Grammar E A) → EndsTheBytes g → EndsTheBytes (renamed m g)
ends_renamed m g ends = record { at_end = λ before fields after value follows. ends.at_end before fields after value follows }

-- ---- whole bytes

-- whole bytes are a prefix with nothing after it
pub spelled_at_start : {F A : Type 0} (g : Grammar F A) (bytes : List ℕ) (value : A) → Spelled g bytes value → SpelledAtStart g bytes value
spelled_at_start g bytes value spelled =
    let (fields, parts, follows) = spelled in
    (fields, [], rw append-nil parts, follows)

-- where a format ends the bytes, what it spells at the start is the whole
pub spelled_whole : {F A : Type 0} (g : Grammar F A) (bytes : List ℕ) (value : A) → EndsTheBytes g → SpelledAtStart g bytes value → Spelled g bytes value
spelled_whole g bytes value ends spelled =
    let (fields, rest, parts, follows) = spelled in
    let size : length rest ≡ 0 = ends.at_end [] fields (length rest) value follows in
    let none : rest ≡ [] = nil_from_length rest size in
    (fields, rw (none, append-nil) at parts, rw size at follows)

-- bytes spell some value, or fail with some fault
pub whole_one_or_other : {F A : Type 0} (g : Grammar F A) (bytes : List ℕ) → EndsTheBytes g → IsBytes bytes → ((value : A) × Spelled g bytes value) ⊎ ((fault : F) × Fault g bytes fault)
whole_one_or_other g bytes ends fit =
    elim (one_or_other g bytes fit) [
      | inl spelled ↦ inl (spelled.0, spelled_whole g bytes spelled.0 ends spelled.1)
      | inr faulty ↦ inr faulty
    ]

-- and never both
pub whole_not_both : {F A : Type 0} (g : Grammar F A) (bytes : List ℕ) (value : A) (fault : F) → Spelled g bytes value → Fault g bytes fault → ⊥
whole_not_both g bytes value fault spelled faulty = not_both g bytes value fault (spelled_at_start g bytes value spelled) faulty

-- the value is one
pub whole_one_value : {F A : Type 0} (g : Grammar F A) (bytes : List ℕ) (x y : A) → Spelled g bytes x → Spelled g bytes y → x ≡ y
whole_one_value g bytes x y one two = one_value g bytes x y (spelled_at_start g bytes x one) (spelled_at_start g bytes y two)

-- each list of bytes is decided by each format that ends the bytes
pub decided : {F A : Type 0} (g : Grammar F A) (bytes : List ℕ) → EndsTheBytes g → IsBytes bytes → IsDecided g bytes
decided g bytes ends fit = record {
  one_or_other = whole_one_or_other g bytes ends fit;
  not_both = whole_not_both g bytes;
  one_value = whole_one_value g bytes;
  one_fault = one_fault g bytes;
}
