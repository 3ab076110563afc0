-- How formats made of others spell their values.
use Rattle.std.proofs.Common.{◌≡◌, ℕ, zero, suc, ◌+◌, List, [], ◌∷◌, ◌++◌, length, Result, Ok, refl, sym, ap, subst, ◌∙◌, ◌-◌, arith}
use Rattle.std.specs.List.{concat, flat_map, All, AllByRecursion}
use Rattle.std.proofs.lemmas.Bool.{eqb-true, eq-eqb}
use Rattle.std.proofs.lemmas.List.{append-nil, length-append}
use Rattle.std.proofs.lemmas.List.Concat.{flat_map-cons}
use Rattle.std.proofs.lemmas.List.Elements.{All-from_recursion, recursion_from_All}
use Rattle.field_grammar.specs.Grammar.{Grammar, seq, renamed, read, Follows, pair, mapped, expected, judged, measured, times}
use Rattle.field_grammar.specs.Spelling.{IsSpelledBy, IsReadBack}
use Rattle.field_grammar.proofs.GrammarLemmas.{what_follows_is_read}

-- a value that fits is read back from its spelling
pub read_back : {F A : Type 0} (g : Grammar F A) (s : A → List (List ℕ)) (P : A → Type 0) (bytes : List ℕ) (value : A)
    → IsSpelledBy g s P → concat (s value) ≡ bytes → P value → IsReadBack g bytes value
read_back g s P bytes value one is fits before rest =
    subst (λ (b : List ℕ). read g (record { before = before; rest = b ++ rest }) ≡ Ok (value, record { before = before ++ b; rest = rest })) is (what_follows_is_read g before (s value) rest value (one.from before (length rest) value fits))

-- the same spelling, with other words for the values that fit
pub spelled-as : {F A : Type 0} (g : Grammar F A) (s : A → List (List ℕ)) (P Q : A → Type 0) → ((x : A) → P x → Q x) → ((x : A) → Q x → P x)
    → IsSpelledBy g s P → IsSpelledBy g s Q
spelled-as g s P Q there back one = record {
  to = λ before fields after value follows.
      let a = one.to before fields after value follows in
      (a.0, there value a.1);
  from = λ before after value fits. one.from before after value (back value fits);
}

-- one value and then another
pub spelled-pair : {F A B : Type 0} (g : Grammar F A) (h : Grammar F B) (s : A → List (List ℕ)) (t : B → List (List ℕ)) (P : A → Type 0) (Q : B → Type 0)
    → IsSpelledBy g s P → IsSpelledBy h t Q → IsSpelledBy (pair g h) (λ p. s p.0 ++ t p.1) (λ p. P p.0 × Q p.1)
spelled-pair {A = A} {B = B} g h s t P Q one two = record {
  to = λ before fields after value follows.
      let (x, first, others, parts, fx, later) = follows in
      let (y, second, none, parts2, fy, last) = later in
      let a = one.to before first (length (concat others) + after) x fx in
      let b = two.to (before ++ concat first) second (length (concat none) + after) y fy in
      let whole : fields ≡ s x ++ t y = rw (parts, parts2, last.0, a.0, b.0, append-nil) refl in
      subst (λ (p : A × B). (fields ≡ s p.0 ++ t p.1) × (P p.0 × Q p.1)) last.1 (whole, (a.1, b.1));
  from = λ before after value fits. (
    value.0,
    s value.0,
    t value.1,
    refl,
    one.from before (length (concat (t value.1)) + after) value.0 fits.0,
    (value.1, t value.1, [], sym (append-nil (t value.1)), two.from (before ++ concat (s value.0)) (0 + after) value.1 fits.1, (refl, refl)),
  );
}

-- the same value in another form, from which it can be computed
pub spelled-mapped : {F A B : Type 0} (f : A → B) (back : B → A) (g : Grammar F A) (s : A → List (List ℕ)) (P : A → Type 0)
    → ((x : A) → back (f x) ≡ x) → ((y : B) → f (back y) ≡ y) → IsSpelledBy g s P → IsSpelledBy (mapped f g) (λ y. s (back y)) (λ y. P (back y))
spelled-mapped {A = A} {B = B} f back g s P there again one = record {
  to = λ before fields after value follows.
      let (x, first, none, parts, fx, last) = follows in
      let a = one.to before first (length (concat none) + after) x fx in
      let is : x ≡ back value = sym (there x) ∙ ap back last.1 in
      let whole : fields ≡ s x = rw (parts, last.0, a.0, append-nil) refl in
      subst (λ (v : A). (fields ≡ s v) × P v) is (whole, a.1);
  from = λ before after value fits.
      (back value, s (back value), [], sym (append-nil (s (back value))), one.from before (0 + after) (back value) fits, (refl, again value));
}

-- other faults
pub spelled-renamed : {E F A : Type 0} (m : E → F) (g : Grammar E A) (s : A → List (List ℕ)) (P : A → Type 0) → IsSpelledBy g s P → IsSpelledBy (renamed m g) s P
spelled-renamed m g s P one = record {
  to = λ before fields after value follows. one.to before fields after value follows;
  from = λ before after value fits. one.from before after value fits;
}

-- this number
pub spelled-expected : {F : Type 0} (g : Grammar F ℕ) (wanted : ℕ) (wrong : ℕ → F) (s : ℕ → List (List ℕ)) (P : ℕ → Type 0)
    → IsSpelledBy g s P → P wanted → IsSpelledBy (expected g wanted wrong) (λ u. s wanted) (λ u. Unit {0})
spelled-expected g wanted wrong s P one fits = record {
  to = λ before fields after value follows.
      let (x, first, others, parts, fx, fu) = follows in
      let a = one.to before first (length (concat others) + after) x fx in
      let is : x ≡ wanted = eqb-true _ _ fu.1 in
      (rw (parts, fu.0, a.0, is, append-nil) refl, tt);
  from = λ before after value u. (wanted, s wanted, [], sym (append-nil (s wanted)), one.from before (0 + after) wanted fits, (refl, eq-eqb wanted wanted refl));
}

-- a value that a verdict makes of another, which determines it
pub spelled-judged : {F A B : Type 0} (g : Grammar F A) (verdict : ℕ → A → Result B F) (back : B → A) (s : A → List (List ℕ)) (P : A → Type 0) (Q : B → Type 0)
    → IsSpelledBy g s P
    → ((offset : ℕ) (x : A) (y : B) → P x → verdict offset x ≡ Ok y → (x ≡ back y) × Q y)
    → ((offset : ℕ) (y : B) → Q y → P (back y) × (verdict offset (back y) ≡ Ok y))
    → IsSpelledBy (judged g verdict) (λ y. s (back y)) Q
spelled-judged g verdict back s P Q one there again = record {
  to = λ before fields after value follows.
      let (b, f1, o1, parts1, h1, (x, f2, o2, parts2, fx, last)) = follows in
      let a = one.to (before ++ concat f1) f2 (length (concat o2) + after) x fx in
      let t = there (length b) x value a.1 last.1 in
      (rw (parts1, h1.0, parts2, last.0, a.0, t.0, append-nil) refl, t.1);
  from = λ before after value fits.
      let t = again (length before) value fits in
      (before, [], s (back value), refl, (refl, refl), (back value, s (back value), [], sym (append-nil (s (back value))), one.from (before ++ []) (0 + after) (back value) t.0, (refl, t.1)));
}

-- from the first byte of two parts to the end
size_behind : (before one two : List ℕ) → length ((before ++ one) ++ two) - length before ≡ length one + length two
size_behind before one two = omega (arith, length-append (before ++ one) two, length-append before one)

-- a value after a number of one width that is due to how many bytes the two take
pub spelled-measured : {F A : Type 0} (g : Grammar F ℕ) (due : ℕ → ℕ) (wrong : F) (item : Grammar F A) (width : ℕ) (s : ℕ → List (List ℕ)) (t : A → List (List ℕ)) (P : ℕ → Type 0) (Q : A → Type 0)
    → ((n : ℕ) → length (concat (s n)) ≡ width) → IsSpelledBy g s P → IsSpelledBy item t Q
    → IsSpelledBy (measured g due wrong item) (λ x. s (due (width + length (concat (t x)))) ++ t x) (λ x. P (due (width + length (concat (t x)))) × Q x)
spelled-measured {A = A} g due wrong item width s t P Q wide one two = record {
  to = λ before fields after value follows.
      let (start, f1, o1, parts1, h1, (said, f2, o2, parts2, h2, (x, f3, o3, parts3, h3, (stop, f4, o4, parts4, h4, (u, f5, o5, parts5, h5, last))))) = follows in
      let a = one.to (before ++ concat f1) f2 (length (concat o2) + after) said h2 in
      let b = two.to ((before ++ concat f1) ++ concat f2) f3 (length (concat o3) + after) x h3 in
      let here : before ++ concat f1 ≡ before = ap (λ (f : List (List ℕ)). before ++ concat f) h1.0 ∙ append-nil before in
      let there : ((before ++ concat f1) ++ concat f2) ++ concat f3 ≡ (before ++ concat (s said)) ++ concat (t x) = ap (λ (l : List ℕ). (l ++ concat f2) ++ concat f3) here ∙ (ap (λ (f : List (List ℕ)). (before ++ concat f) ++ concat f3) a.0 ∙ ap (λ (f : List (List ℕ)). (before ++ concat (s said)) ++ concat f) b.0) in
      let size : length stop - length start ≡ width + length (concat (t x)) = ap (λ (l : List ℕ). length l - length start) (sym h4.1 ∙ there) ∙ (ap (λ (l : List ℕ). length ((before ++ concat (s said)) ++ concat (t x)) - length l) (sym h1.1) ∙ (size_behind before (concat (s said)) (concat (t x)) ∙ ap (λ (n : ℕ). n + length (concat (t x))) (wide said))) in
      let is : said ≡ due (width + length (concat (t x))) = eqb-true _ _ h5.1 ∙ ap due size in
      let whole : fields ≡ s said ++ t x = rw (parts1, h1.0, parts2, parts3, parts4, parts5, h4.0, h5.0, last.0, a.0, b.0, append-nil) refl in
      let due_fields : (fields ≡ s (due (width + length (concat (t x)))) ++ t x) × P (due (width + length (concat (t x)))) = subst (λ (n : ℕ). (fields ≡ s n ++ t x) × P n) is (whole, a.1) in
      subst (λ (v : A). (fields ≡ s (due (width + length (concat (t v)))) ++ t v) × (P (due (width + length (concat (t v)))) × Q v)) last.1 (due_fields.0, (due_fields.1, b.1));
  from = λ before after value fits.
      let n : ℕ = due (width + length (concat (t value))) in
      let first : List ℕ = before ++ [] in
      let size : length (first ++ concat (s n) ++ concat (t value)) - length before ≡ width + length (concat (t value)) = ap (λ (l : List ℕ). length (l ++ concat (s n) ++ concat (t value)) - length before) (append-nil before) ∙ (size_behind before (concat (s n)) (concat (t value)) ∙ ap (λ (m : ℕ). m + length (concat (t value))) (wide n)) in (
        before,
        [],
        s n ++ t value,
        refl,
        (refl, refl),
        (
          n,
          s n,
          t value,
          refl,
          one.from first (length (concat (t value)) + after) n fits.0,
          (
            value,
            t value,
            [],
            sym (append-nil (t value)),
            two.from (first ++ concat (s n)) (0 + after) value fits.1,
            (first ++ concat (s n) ++ concat (t value), [], [], refl, (refl, refl), (tt, [], [], refl, (refl, eq-eqb _ _ (ap due (sym size))), (refl, refl))),
          ),
        ),
      );
}

-- N values of one kind are spelled back to back
pub times_to : {F A : Type 0} (g : Grammar F A) (s : A → List (List ℕ)) (P : A → Type 0) → IsSpelledBy g s P → (n : ℕ) (before : List ℕ) (fields : List (List ℕ)) (after : ℕ) (value : List A)
    → Follows (times n g) before fields after value → (fields ≡ flat_map s value) × AllByRecursion P value × (length value ≡ n)
unfolding times
times_to {A = A} g s P one zero before fields after value follows =
    subst (λ (v : List A). (fields ≡ flat_map s v) × AllByRecursion P v × (length v ≡ 0)) follows.1 (follows.0, tt, refl)
times_to {A = A} g s P one (suc n) before fields after value follows =
    let (x, first, others, parts, fx, later) = follows in
    let (xs, second, none, parts2, fxs, last) = later in
    let a = one.to before first (length (concat others) + after) x fx in
    let b = times_to g s P one n (before ++ concat first) second (length (concat none) + after) xs fxs in
    let whole : fields ≡ flat_map s (x ∷ xs) = rw (parts, parts2, last.0, a.0, b.0, append-nil, flat_map-cons) refl in
    subst (λ (v : List A). (fields ≡ flat_map s v) × AllByRecursion P v × (length v ≡ suc n)) last.1 (whole, (a.1, b.1), ap suc b.2)

pub times_from : {F A : Type 0} (g : Grammar F A) (s : A → List (List ℕ)) (P : A → Type 0) → IsSpelledBy g s P → (before : List ℕ) (after : ℕ) (value : List A)
    → AllByRecursion P value → Follows (times (length value) g) before (flat_map s value) after value
unfolding times
times_from g s P one before after [] fits = (refl, refl)
times_from g s P one before after (x ∷ xs) fits = (
  x,
  s x,
  flat_map s xs,
  flat_map-cons s x xs,
  one.from before (length (concat (flat_map s xs)) + after) x fits.0,
  (xs, flat_map s xs, [], sym (append-nil (flat_map s xs)), times_from g s P one (before ++ concat (s x)) (0 + after) xs fits.1, (refl, refl)),
)

-- a count, and that many values of one kind
pub spelled-counted : {F A : Type 0} (count : Grammar F ℕ) (g : Grammar F A) (c : ℕ → List (List ℕ)) (s : A → List (List ℕ)) (C : ℕ → Type 0) (P : A → Type 0)
    → IsSpelledBy count c C → IsSpelledBy g s P → IsSpelledBy (seq count (λ n. times n g)) (λ xs. c (length xs) ++ flat_map s xs) (λ xs. C (length xs) × AllByRecursion P xs)
spelled-counted count g c s C P one two = record {
  to = λ before fields after value follows.
      let (n, first, others, parts, fn, ft) = follows in
      let a = one.to before first (length (concat others) + after) n fn in
      let b = times_to g s P two n (before ++ concat first) others after value ft in
      (rw (parts, a.0, b.0, b.2) refl, (rw b.2 a.1, b.1));
  from = λ before after value fits. (
    length value,
    c (length value),
    flat_map s value,
    refl,
    one.from before (length (concat (flat_map s value)) + after) (length value) fits.0,
    times_from g s P two (before ++ concat (c (length value))) after value fits.1,
  );
}

-- the same, with each value of the list in a word of std
pub spelled-counted_all : {F A : Type 0} (count : Grammar F ℕ) (g : Grammar F A) (c : ℕ → List (List ℕ)) (s : A → List (List ℕ)) (C : ℕ → Type 0) (P : A → Type 0)
    → IsSpelledBy count c C → IsSpelledBy g s P → IsSpelledBy (seq count (λ n. times n g)) (λ xs. c (length xs) ++ flat_map s xs) (λ xs. C (length xs) × All P xs)
spelled-counted_all count g c s C P one two =
    spelled-as (seq count (λ n. times n g)) (λ xs. c (length xs) ++ flat_map s xs) (λ xs. C (length xs) × AllByRecursion P xs) (λ xs. C (length xs) × All P xs)
    (λ xs both. (both.0, All-from_recursion P xs both.1)) (λ xs both. (both.0, recursion_from_All P xs both.1)) (spelled-counted count g c s C P one two)
