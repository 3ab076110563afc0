-- Padded and short texts as fields, each tested as soon as it was read.
use Rattle.std.proofs.Common.{◌≡◌, ℕ, zero, suc, ◌+◌, ◌%◌, ◌<◌, ◌^◌, List, [], ◌∷◌, ◌++◌, length, replicate, Result, Ok, refl, sym, ap, subst, ◌∙◌, append_assoc, arith}
use Rattle.std.specs.Prelude.{slice_index}
use Rattle.std.specs.List.{concat}
use Rattle.std.proofs.lemmas.Bool.{eqb-true, eq-eqb}
use Rattle.std.proofs.lemmas.List.{append-nil, length-append, length-replicate}
use Rattle.field_grammar.specs.Grammar.{Grammar, renamed, judged, IsBytes}
use Rattle.field_grammar.specs.Spelling.{IsSpelledBy}
use Rattle.field_grammar.specs.Fields.{number_bytes, raw, pad, padded_parts, short_parts, padded, short, as_one, number_fields, short_fields, padded_fields, pad_bytes, short_text, padded_text, judged_short, judged_padded}
use Rattle.field_grammar.specs.declared.fault.FieldFault.{FieldFault}
use Rattle.field_grammar.proofs.CombinedLemmas.{spelled-renamed, spelled-judged}
use Rattle.field_grammar.proofs.NumberLemmas.{wide1, wide2, spelled-number, spelled-raw, length_number_bytes}

-- ---- the pad

zeros : (b : List ℕ) (n : ℕ) → length b ≡ n % 2 → slice_index b 0 ≡ 0 → b ≡ replicate (n % 2) 0
zeros [] n size is = rw (← size) refl
zeros (x ∷ []) n size is = rw (← size, is) refl
zeros (x ∷ y ∷ ys) n size is = absurd (omega arith)

zeros_fit : (n : ℕ) → IsBytes (replicate n 0)
zeros_fit zero i = omega arith
zeros_fit (suc n) zero = omega arith
zeros_fit (suc n) (suc i) = zeros_fit n i

first_zero : (n : ℕ) → slice_index (replicate n 0) 0 ≡ 0
first_zero zero = refl
first_zero (suc n) = refl

pub length_pad_bytes : (n : ℕ) → length (pad_bytes n) ≡ n % 2
unfolding pad_bytes
length_pad_bytes n = length-replicate (n % 2) 0

-- a pad is spelled by as many zeros as the text wants
pub spelled-pad : (n : ℕ) → IsSpelledBy (pad n) (λ u. pad_bytes n ∷ []) (λ u. Unit {0})
unfolding pad raw pad_bytes
spelled-pad n = record {
  to = λ before fields after value follows.
      let (offset, f1, o1, parts, h1, (b, f2, o2, parts2, h2, h3)) = follows in
      let is : b ≡ replicate (n % 2) 0 = zeros b n h2.1 (eqb-true _ _ h3.1) in
      (rw (parts, parts2, h1.0, h2.0, h3.0, is) refl, tt);
  from = λ before after value fits. (
    before,
    [],
    pad_bytes n ∷ [],
    refl,
    (refl, refl),
    (replicate (n % 2) 0, pad_bytes n ∷ [], [], refl, (refl, length-replicate (n % 2) 0, zeros_fit (n % 2)), (refl, eq-eqb _ _ (first_zero (n % 2)))),
  );
}

-- ---- texts

-- a padded text that fits its length
abbrev pub IsPaddedText : List ℕ → Type 0
IsPaddedText text = (length text < 2 ^ 16) × IsBytes text

-- a short text that fits its length
abbrev pub IsShortText : List ℕ → Type 0
IsShortText text = (length text < 2 ^ 8) × IsBytes text

pub spelled-padded_parts : IsSpelledBy padded_parts padded_fields IsPaddedText
unfolding padded_parts
spelled-padded_parts = record {
  to = λ before fields after value follows.
      let (n, f1, o1, parts, h1, (b, f2, o2, parts2, h2, (u, f3, o3, parts3, h3, h4))) = follows in
      let a = (spelled-number 2 wide2).to _ f1 _ n h1 in
      let r = (spelled-raw n).to _ f2 _ b h2 in
      let p = (spelled-pad n).to _ f3 _ u h3 in
      let whole : fields ≡ padded_fields b = rw (parts, parts2, parts3, h4.0, a.0, r.0, p.0, r.1.0) refl in
      subst (λ (v : List ℕ). (fields ≡ padded_fields v) × IsPaddedText v) h4.1 (whole, (rw r.1.0 a.1, r.1.1));
  from = λ before after value fits. (
    length value,
    number_fields 2 (length value),
    value ∷ pad_bytes (length value) ∷ [],
    refl,
    (spelled-number 2 wide2).from _ _ (length value) fits.0,
    (
      value,
      value ∷ [],
      pad_bytes (length value) ∷ [],
      refl,
      (spelled-raw (length value)).from _ _ value (refl, fits.1),
      (tt, pad_bytes (length value) ∷ [], [], refl, (spelled-pad (length value)).from _ _ tt tt, (refl, refl)),
    ),
  );
}

pub spelled-short_parts : IsSpelledBy short_parts short_fields IsShortText
unfolding short_parts
spelled-short_parts = record {
  to = λ before fields after value follows.
      let (n, f1, o1, parts, h1, h2) = follows in
      let a = (spelled-number 1 wide1).to _ f1 _ n h1 in
      let r = (spelled-raw n).to _ o1 _ value h2 in
      (rw (parts, a.0, r.0, r.1.0) refl, (rw r.1.0 a.1, r.1.1));
  from = λ before after value fits. (
    length value,
    number_fields 1 (length value),
    value ∷ [],
    refl,
    (spelled-number 1 wide1).from _ _ (length value) fits.0,
    (spelled-raw (length value)).from _ _ value (refl, fits.1),
  );
}

-- another position of its fault changes no spelling
spelled-as_one : (g : Grammar _ (List ℕ)) (s : List ℕ → List (List ℕ)) (P : List ℕ → Type 0) → IsSpelledBy g s P → IsSpelledBy (as_one g) s P
spelled-as_one g s P one = record {
  to = λ before fields after value follows.
      let (offset, first, others, parts, h1, h2) = follows in
      let a = one.to (before ++ concat first) others after value h2 in
      (rw (parts, h1.0) a.0, a.1);
  from = λ before after value fits. (before, [], s value, refl, (refl, refl), one.from (before ++ []) after value fits);
}

-- a padded text is spelled by its length, its bytes and its pad
pub spelled-padded : IsSpelledBy padded padded_fields IsPaddedText
unfolding padded
spelled-padded = spelled-as_one padded_parts padded_fields IsPaddedText spelled-padded_parts

-- a short text is spelled by its length and its bytes
pub spelled-short : IsSpelledBy short short_fields IsShortText
unfolding short
spelled-short = spelled-as_one short_parts short_fields IsShortText spelled-short_parts

-- ---- texts whose bytes a verdict judges

-- The verdict accepts the bytes of the values that fit and no others, wherever they stand.
pub record Judges {F B : Type 0} (verdict : ℕ → List ℕ → Result B F) (back : B → List ℕ) (Q : B → Type 0) : Type 0 where
  pub there : (offset : ℕ) (bytes : List ℕ) (value : B) → IsBytes bytes → verdict offset bytes ≡ Ok value → (bytes ≡ back value) × Q value
  pub again : (offset : ℕ) (value : B) → Q value → IsBytes (back value) × (verdict offset (back value) ≡ Ok value)

spelled-judged_raw : {F B : Type 0} (named : FieldFault → F) (verdict : ℕ → List ℕ → Result B F) (back : B → List ℕ) (Q : B → Type 0) (n : ℕ)
    → Judges verdict back Q → IsSpelledBy (judged (renamed named (raw n)) verdict) (λ y. back y ∷ []) (λ y. (length (back y) ≡ n) × Q y)
spelled-judged_raw named verdict back Q n judges =
    spelled-judged (renamed named (raw n)) verdict back (λ b. b ∷ []) (λ b. (length b ≡ n) × IsBytes b) (λ y. (length (back y) ≡ n) × Q y) (spelled-renamed named (raw n) (λ b. b ∷ []) (λ b. (length b ≡ n) × IsBytes b) (spelled-raw n))
    (λ offset b y fits e.
    let t = judges.there offset b y fits.1 e in
    (t.0, (sym (ap length t.0) ∙ fits.0, t.1)))
    (λ offset y fits.
    let t = judges.again offset y fits.1 in
    ((fits.0, t.0), t.1))

-- a judged short text is spelled by its length and its bytes
pub spelled-judged_short : {F B : Type 0} (named : FieldFault → F) (verdict : ℕ → List ℕ → Result B F) (back : B → List ℕ) (Q : B → Type 0)
    → Judges verdict back Q → IsSpelledBy (judged_short named verdict) (λ y. short_fields (back y)) (λ y. (length (back y) < 2 ^ 8) × Q y)
spelled-judged_short named verdict back Q judges = record {
  to = λ before fields after value follows.
      let (n, f1, o1, parts, h1, h2) = follows in
      let a = (spelled-number 1 wide1).to before f1 (length (concat o1) + after) n h1 in
      let r = (spelled-judged_raw named verdict back Q n judges).to (before ++ concat f1) o1 after value h2 in
      (rw (parts, a.0, r.0, r.1.0) refl, (rw r.1.0 a.1, r.1.1));
  from = λ before after value fits. (
    length (back value),
    number_fields 1 (length (back value)),
    back value ∷ [],
    refl,
    (spelled-number 1 wide1).from before (length (concat (back value ∷ [])) + after) (length (back value)) fits.0,
    (spelled-judged_raw named verdict back Q (length (back value)) judges).from (before ++ concat (number_fields 1 (length (back value)))) after value (refl, fits.1),
  );
}

-- a judged padded text is spelled by its length, its bytes and its pad
pub spelled-judged_padded : {F B : Type 0} (named : FieldFault → F) (verdict : ℕ → List ℕ → Result B F) (back : B → List ℕ) (Q : B → Type 0)
    → Judges verdict back Q → IsSpelledBy (judged_padded named verdict) (λ y. padded_fields (back y)) (λ y. (length (back y) < 2 ^ 16) × Q y)
spelled-judged_padded {B = B} named verdict back Q judges = record {
  to = λ before fields after value follows.
      let (n, f1, o1, parts, h1, (y, f2, o2, parts2, h2, (u, f3, o3, parts3, h3, last))) = follows in
      let a = (spelled-number 2 wide2).to before f1 (length (concat o1) + after) n h1 in
      let r = (spelled-judged_raw named verdict back Q n judges).to (before ++ concat f1) f2 (length (concat o2) + after) y h2 in
      let p = (spelled-pad n).to ((before ++ concat f1) ++ concat f2) f3 (length (concat o3) + after) u h3 in
      let whole : fields ≡ padded_fields (back y) = rw (parts, parts2, parts3, last.0, a.0, r.0, p.0, r.1.0) refl in
      subst (λ (v : B). (fields ≡ padded_fields (back v)) × ((length (back v) < 2 ^ 16) × Q v)) last.1 (whole, (rw r.1.0 a.1, r.1.1));
  from = λ before after value fits.
      let n : ℕ = length (back value) in (
        n,
        number_fields 2 n,
        back value ∷ pad_bytes n ∷ [],
        refl,
        (spelled-number 2 wide2).from before (length (concat (back value ∷ pad_bytes n ∷ [])) + after) n fits.0,
        (
          value,
          back value ∷ [],
          pad_bytes n ∷ [],
          refl,
          (spelled-judged_raw named verdict back Q n judges).from (before ++ concat (number_fields 2 n)) (length (concat (pad_bytes n ∷ [])) + after) value (refl, fits.1),
          (tt, pad_bytes n ∷ [], [], refl, (spelled-pad n).from ((before ++ concat (number_fields 2 n)) ++ concat (back value ∷ [])) (0 + after) tt tt, (refl, refl)),
        ),
      );
}

-- ---- such fields joined

pub concat_number_fields : (n value : ℕ) → concat (number_fields n value) ≡ number_bytes n value
concat_number_fields n value = append-nil (number_bytes n value)

pub concat_short_fields : (text : List ℕ) → concat (short_fields text) ≡ short_text text
concat_short_fields text = ap (λ (t : List ℕ). number_bytes 1 (length text) ++ t) (append-nil text)

pub concat_padded_fields : (text : List ℕ) → concat (padded_fields text) ≡ padded_text text
concat_padded_fields text =
    ap (λ (p : List ℕ). number_bytes 2 (length text) ++ (text ++ p)) (append-nil (pad_bytes (length text))) ∙ sym (append_assoc (number_bytes 2 (length text)) text (pad_bytes (length text)))

-- ---- how long they are

pub length_short_text : (text : List ℕ) → length (short_text text) ≡ 1 + length text
length_short_text text = omega (arith, length-append (number_bytes 1 (length text)) text, length_number_bytes 1 (length text))
