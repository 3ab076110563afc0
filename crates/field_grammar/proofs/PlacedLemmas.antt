-- How formats spell their values where a test looks at the offset, at the bytes before or at how many are
-- left.
use Rattle.std.proofs.Common.{◌≡◌, ℕ, ◌+◌, List, [], ◌++◌, length, refl, sym, ap, subst, ◌∙◌, arith}
use Rattle.std.specs.List.{concat}
use Rattle.std.proofs.lemmas.Bool.{eqb-true, eq-eqb}
use Rattle.std.proofs.lemmas.List.{append-nil}
use Rattle.field_grammar.specs.Grammar.{Grammar, give, seq, prefix, left, renamed, ◌>>◌, sized, ended, Follows}
use Rattle.field_grammar.specs.Spelling.{IsPlacedBy, IsSpelledBy}

-- ---- to and from formats that don't look

-- a format that doesn't look
pub placed : {F A : Type 0} (g : Grammar F A) (s : A → List (List ℕ)) (P : A → Type 0) → IsSpelledBy g s P → IsPlacedBy g (λ before. s) (λ before after x. P x)
placed g s P one = record {
  to = λ before fields after value follows. one.to before fields after value follows;
  from = λ before after value fits. one.from before after value fits;
}

-- a format that looks, but where this tells nothing of its values
pub spelled : {F A : Type 0} (g : Grammar F A) (s : A → List (List ℕ)) (P : A → Type 0) → IsPlacedBy g (λ before. s) (λ before after x. P x) → IsSpelledBy g s P
spelled g s P one = record {
  to = λ before fields after value follows. one.to before fields after value follows;
  from = λ before after value fits. one.from before after value fits;
}

-- another way to say which fields spell a value and which values fit
pub placed-as : {F A : Type 0} (g : Grammar F A) (s t : List ℕ → A → List (List ℕ)) (P Q : List ℕ → ℕ → A → Type 0)
    → ((before : List ℕ) (after : ℕ) (x : A) → P before after x → (s before x ≡ t before x) × Q before after x)
    → ((before : List ℕ) (after : ℕ) (x : A) → Q before after x → (s before x ≡ t before x) × P before after x)
    → IsPlacedBy g s P → IsPlacedBy g t Q
placed-as g s t P Q there back one = record {
  to = λ before fields after value follows.
      let a = one.to before fields after value follows in
      let b = there before after value a.1 in
      (a.0 ∙ b.0, b.1);
  from = λ before after value fits.
      let b = back before after value fits in
      subst (λ (f : List (List ℕ)). Follows g before f after value) b.0 (one.from before after value b.1);
}

-- ---- one format after another

-- what stands after the last part is what stands after the whole
none_behind : (others : List (List ℕ)) (after : ℕ) → others ≡ [] → length (concat others) + after ≡ after
none_behind others after none = rw none (omega arith)

-- the value, and then fields that say nothing more of it
pub placed-before : {F A : Type 0} (g : Grammar F A) (h : A → Grammar F (Unit {0})) (s : List ℕ → A → List (List ℕ)) (t : A → List ℕ → Unit {0} → List (List ℕ)) (P : List ℕ → ℕ → A → Type 0) (Q : A → List ℕ → ℕ → Unit {0} → Type 0)
    → IsPlacedBy g s P → ((x : A) → IsPlacedBy (h x) (t x) (Q x))
    → IsPlacedBy (seq g (λ x. h x >> give x)) (λ before x. s before x ++ t x (before ++ concat (s before x)) tt)
    (λ before after x. P before (length (concat (t x (before ++ concat (s before x)) tt)) + after) x × Q x (before ++ concat (s before x)) after tt)
placed-before {A = A} g h s t P Q one two = record {
  to = λ before fields after value follows.
      let (x, first, others, parts, fx, (u, second, none, parts2, fu, last)) = follows in
      let a = one.to before first (length (concat others) + after) x fx in
      let b = (two x).to (before ++ concat first) second (length (concat none) + after) tt fu in
      let there : List ℕ = before ++ concat (s before x) in
      let same : before ++ concat first ≡ there = ap (λ (f : List (List ℕ)). before ++ concat f) a.0 in
      let others_are : others ≡ t x there tt = parts2 ∙ (ap (λ (n : List (List ℕ)). second ++ n) last.0 ∙ (append-nil second ∙ (b.0 ∙ ap (λ (l : List ℕ). t x l tt) same))) in
      let whole : fields ≡ s before x ++ t x there tt = parts ∙ (ap (λ (f : List (List ℕ)). f ++ others) a.0 ∙ ap (λ (o : List (List ℕ)). s before x ++ o) others_are) in
      let p : P before (length (concat (t x there tt)) + after) x = subst (λ (o : List (List ℕ)). P before (length (concat o) + after) x) others_are a.1 in
      let q : Q x there after tt = subst (λ (n : ℕ). Q x there n tt) (none_behind none after last.0) (subst (λ (l : List ℕ). Q x l (length (concat none) + after) tt) same b.1) in
      subst (λ (v : A). (fields ≡ s before v ++ t v (before ++ concat (s before v)) tt)
      × (P before (length (concat (t v (before ++ concat (s before v)) tt)) + after) v × Q v (before ++ concat (s before v)) after tt)) last.1 (whole, (p, q));
  from = λ before after value fits.
      let there : List ℕ = before ++ concat (s before value) in
      let later : Q value there (0 + after) tt = subst (λ (n : ℕ). Q value there n tt) (sym (none_behind [] after refl)) fits.1 in (
        value,
        s before value,
        t value there tt,
        refl,
        one.from before (length (concat (t value there tt)) + after) value fits.0,
        (tt, t value there tt, [], sym (append-nil (t value there tt)), (two value).from there (0 + after) tt later, (refl, refl)),
      );
}

-- other faults
pub placed-renamed : {E F A : Type 0} (m : E → F) (g : Grammar E A) (s : List ℕ → A → List (List ℕ)) (P : List ℕ → ℕ → A → Type 0) → IsPlacedBy g s P → IsPlacedBy (renamed m g) s P
placed-renamed m g s P one = record {
  to = λ before fields after value follows. one.to before fields after value follows;
  from = λ before after value fits. one.from before after value fits;
}

-- ---- tests of the offset, of the bytes before and of how many are left

-- what was read so far
pub placed-prefix : {F A : Type 0} (k : List ℕ → Grammar F A) (t : List ℕ → List ℕ → A → List (List ℕ)) (Q : List ℕ → List ℕ → ℕ → A → Type 0)
    → ((b : List ℕ) → IsPlacedBy (k b) (t b) (Q b)) → IsPlacedBy (seq prefix k) (λ before y. t before before y) (λ before after y. Q before before after y)
placed-prefix k t Q two = record {
  to = λ before fields after value follows.
      let (b, first, others, parts, fb, fy) = follows in
      let a = (two b).to (before ++ concat first) others after value fy in
      let here : before ++ concat first ≡ before = ap (λ (f : List (List ℕ)). before ++ concat f) fb.0 ∙ append-nil before in
      let none : fields ≡ others = parts ∙ ap (λ (f : List (List ℕ)). f ++ others) fb.0 in
      let same : others ≡ t before before value = subst (λ (x : List ℕ). others ≡ t x before value) (sym fb.1) (subst (λ (l : List ℕ). others ≡ t b l value) here a.0) in
      (none ∙ same, subst (λ (x : List ℕ). Q x before after value) (sym fb.1) (subst (λ (l : List ℕ). Q b l after value) here a.1));
  from = λ before after value fits.
      let here : before ≡ before ++ [] = sym (append-nil before) in
      let fields : List (List ℕ) = t before before value in
      let later : Follows (k before) (before ++ []) fields after value = subst (λ (l : List ℕ). Follows (k before) l fields after value) here ((two before).from before after value fits) in
      (before, [], fields, refl, (refl, refl), later);
}

-- how many bytes are left
pub placed-left : {F A : Type 0} (k : ℕ → Grammar F A) (t : List ℕ → A → List (List ℕ)) (Q : ℕ → List ℕ → ℕ → A → Type 0)
    → ((n : ℕ) → IsPlacedBy (k n) t (Q n)) → IsPlacedBy (seq left k) t (λ before after y. Q (length (concat (t before y)) + after) before after y)
placed-left k t Q two = record {
  to = λ before fields after value follows.
      let (n, first, others, parts, fn, fy) = follows in
      let a = (two n).to (before ++ concat first) others after value fy in
      let here : before ++ concat first ≡ before = ap (λ (f : List (List ℕ)). before ++ concat f) fn.0 ∙ append-nil before in
      let same : others ≡ t before value = a.0 ∙ ap (λ (l : List ℕ). t l value) here in
      let none : fields ≡ others = parts ∙ ap (λ (f : List (List ℕ)). f ++ others) fn.0 in
      let counted : n ≡ length (concat (t before value)) + after = sym fn.1 ∙ ap (λ (o : List (List ℕ)). length (concat o) + after) same in
      (none ∙ same, subst (λ (m : ℕ). Q m before after value) counted (subst (λ (l : List ℕ). Q n l after value) here a.1));
  from = λ before after value fits.
      let n : ℕ = length (concat (t before value)) + after in
      let here : before ≡ before ++ [] = sym (append-nil before) in
      let later : Follows (k n) (before ++ []) (t before value) after value = subst (λ (l : List ℕ). Follows (k n) l (t before value) after value) here ((two n).from before after value fits) in
      (n, [], t before value, refl, (refl, refl), later);
}

-- the end of the bytes
pub placed-ended : {F : Type 0} (more : ℕ → F) → IsPlacedBy (ended more) (λ before u. []) (λ before after u. after ≡ 0)
placed-ended more = record {
  to = λ before fields after value follows.
      let (b, f1, o1, parts1, fb, (size, f2, o2, parts2, fs, fu)) = follows in
      let none : length (concat o2) ≡ 0 = rw fu.0 refl in
      (rw (parts1, fb.0, parts2, fs.0, fu.0) refl, omega (arith, eqb-true _ _ fu.1, fs.1, none));
  from = λ before after value fits.
      let size : 0 + after ≡ 0 = omega (arith, fits) in
      (before, [], [], refl, (refl, refl), (0, [], [], refl, (refl, size), (refl, refl)));
}

-- a number that says how many bytes there are from its own first byte on
pub placed-sized : {F : Type 0} (g : Grammar F ℕ) (bytes_of : ℕ → ℕ) (wrong : ℕ → ℕ → F) (s : ℕ → List (List ℕ)) (P : ℕ → Type 0)
    → IsSpelledBy g s P → IsPlacedBy (sized g bytes_of wrong) (λ before. s) (λ before after said. P said × (bytes_of said ≡ length (concat (s said)) + after))
placed-sized g bytes_of wrong s P one = record {
  to = λ before fields after value follows.
      let (size, f1, o1, parts1, h1, (said, f2, o2, parts2, h2, (u, f3, o3, parts3, h3, last))) = follows in
      let a = one.to (before ++ concat f1) f2 (length (concat o2) + after) said h2 in
      let others_are : o1 ≡ s said = rw (parts2, parts3, h3.0, last.0, a.0, append-nil) refl in
      let whole : fields ≡ s said = rw (parts1, h1.0, others_are) refl in
      let counted : length (concat (s said)) + after ≡ size = subst (λ (o : List (List ℕ)). length (concat o) + after ≡ size) others_are h1.1 in
      let says : bytes_of said ≡ length (concat (s said)) + after = eqb-true _ _ h3.1 ∙ sym counted in
      subst (λ (v : ℕ). (fields ≡ s v) × (P v × (bytes_of v ≡ length (concat (s v)) + after))) last.1 (whole, (a.1, says));
  from = λ before after value fits. (
    length (concat (s value)) + after,
    [],
    s value,
    refl,
    (refl, refl),
    (value, s value, [], sym (append-nil (s value)), one.from (before ++ []) (0 + after) value fits.0, (tt, [], [], refl, (refl, eq-eqb _ _ fits.1), (refl, refl))),
  );
}
