-- How the pieces are spelled.
use Rattle.std.proofs.Common.{◌≡◌, ℕ, ◌+◌, ◌*◌, ◌/◌, ◌<◌, ◌^◌, [], ◌∷◌, ◌++◌, length, refl, sym, subst, arith}
use Rattle.std.specs.List.{concat, flat_map, AllByRecursion}
use Rattle.std.proofs.lemmas.Bool.{eqb-true, eq-eqb}
use Rattle.std.proofs.lemmas.List.{append-nil}
use Rattle.load_base.specs.Name.{IsName, IsNameFault}
use Rattle.load_base.specs.Text.{IsText}
use Rattle.load_base.specs.Verdicts.{name_fault_of, text_fault_of}
use Rattle.load_base.proofs.VerdictLemmas.{name_faults, text_faults}
use Rattle.part_number.specs.PartNumber.{IsPartNumberText, IsPartFault}
use Rattle.part_number.specs.Verdicts.{part_fault_of}
use Rattle.part_number.proofs.VerdictLemmas.{part_faults, part_size}
use Rattle.field_grammar.specs.Grammar.{Grammar, IsBytes, EndsTheBytes, renamed, seq, expected}
use Rattle.field_grammar.specs.Spelling.{IsSpelledBy, IsPlacedBy}
use Rattle.field_grammar.specs.Fields.{raw, number, number_fields, padded_fields}
use Rattle.field_grammar.proofs.CombinedLemmas.{spelled-renamed, spelled-expected, times_to, times_from}
use Rattle.field_grammar.proofs.ExactLemmas.{ends_at_end, ends_before}
use Rattle.field_grammar.proofs.NumberLemmas.{wide2, wide4, spelled-number, spelled-raw}
use Rattle.field_grammar.proofs.JudgedLemmas.{spelled-right_padded}
use Rattle.field_grammar.proofs.PlacedLemmas.{placed-sized, placed-ended}
use Rattle.field_grammar.proofs.SectionLemmas.{size_number, placed-section}
use Rattle.header_sections.specs.Sections.{named, u16, u32, text, name, part, texts, start, section_at, user_data, end}
use Rattle.header_sections.specs.SectionFields.{texts_fields, user_fields, IsUserData}
use Rattle.header_sections.specs.declared.fault.SectionFault.{SectionFault}
use Rattle.header_sections.specs.declared.fault.SectionFault.TheVariants as faults

-- ---- numbers

pub spelled-u16 : IsSpelledBy u16 (number_fields 2) (λ n. n < 2 ^ 16)
spelled-u16 = spelled-renamed named (number 2) (number_fields 2) (λ n. n < 2 ^ 16) (spelled-number 2 wide2)

pub spelled-u32 : IsSpelledBy u32 (number_fields 4) (λ n. n < 2 ^ 32)
spelled-u32 = spelled-renamed named (number 4) (number_fields 4) (λ n. n < 2 ^ 32) (spelled-number 4 wide4)

spelled-bytes : (n : ℕ) → IsSpelledBy (renamed named (raw n)) (λ b. b ∷ []) (λ b. (length b ≡ n) × IsBytes b)
spelled-bytes n = spelled-renamed named (raw n) (λ b. b ∷ []) (λ b. (length b ≡ n) × IsBytes b) (spelled-raw n)

-- ---- texts

pub spelled-text : IsSpelledBy text padded_fields IsText
unfolding text
spelled-text = spelled-right_padded named faults.Text text_fault_of IsText _ text_faults (λ t is. omega (arith, is.size))

pub spelled-name : IsSpelledBy name padded_fields IsName
unfolding name
spelled-name = spelled-right_padded named faults.Name name_fault_of IsName IsNameFault name_faults (λ t is. omega (arith, is.size.1))

pub spelled-part : IsSpelledBy part padded_fields IsPartNumberText
unfolding part
spelled-part = spelled-right_padded named faults.Part part_fault_of IsPartNumberText IsPartFault part_faults (λ t is. omega (arith, part_size t is))

-- a count in two bytes, and the texts, in a format that has its own names for the faults of a piece
pub spelled-texts : {F : Type 0} (wrong : SectionFault → F) (count : Grammar F ℕ) (C : ℕ → Type 0) → IsSpelledBy count (number_fields 2) C
    → IsSpelledBy (seq count (λ n. renamed wrong (texts n))) texts_fields (λ t. C (length t) × AllByRecursion IsText t)
unfolding texts_fields
spelled-texts wrong count C one = record {
  to = λ before fields after value follows.
      let (n, first, others, parts, fn, ft) = follows in
      let a = one.to before first (length (concat others) + after) n fn in
      let b = times_to text padded_fields IsText spelled-text n (before ++ concat first) others after value ft in
      (rw (parts, a.0, b.0, b.2) refl, (rw b.2 a.1, b.1));
  from = λ before after value fits. (
    length value,
    number_fields 2 (length value),
    flat_map padded_fields value,
    refl,
    one.from before (length (concat (flat_map padded_fields value)) + after) (length value) fits.0,
    times_from text padded_fields IsText spelled-text (before ++ concat (number_fields 2 (length value))) after value fits.1,
  );
}

-- ---- the start

spelled-version : (version : ℕ) → version < 2 ^ 16 → IsSpelledBy (expected u16 version faults.Version) (λ u. number_fields 2 version) (λ u. Unit {0})
spelled-version version fits = spelled-expected u16 version faults.Version (number_fields 2) (λ n. n < 2 ^ 16) spelled-u16 fits

-- the number of words is half of the bytes from its own first byte on
pub placed-start : (version : ℕ) → version < 2 ^ 16 → IsPlacedBy (start version) (λ before words. number_fields 4 words ++ number_fields 2 version) (λ before after words. (words < 2 ^ 32) × (2 * words ≡ 6 + after))
unfolding start
placed-start version small = record {
  to = λ before fields after value follows.
      let (words, f1, o1, e1, h1, (u, f2, o2, e2, h2, last)) = follows in
      let p1 = (placed-sized u32 (λ words. 2 * words) faults.Length (number_fields 4) (λ n. n < 2 ^ 32) spelled-u32).to before f1 (length (concat o1) + after) words h1 in
      let p2 = (spelled-version version small).to (before ++ concat f1) f2 (length (concat o2) + after) u h2 in
      let others : o1 ≡ number_fields 2 version = rw (e2, last.0, p2.0, append-nil) refl in
      let two : length (concat o1) ≡ 2 = rw others (size_number 2 version) in
      let twice : 2 * words ≡ 6 + after = omega (arith, p1.1.1, two, size_number 4 words) in
      let whole : fields ≡ number_fields 4 words ++ number_fields 2 version = rw (e1, p1.0, others) refl in
      subst (λ (n : ℕ). (fields ≡ number_fields 4 n ++ number_fields 2 version) × ((n < 2 ^ 32) × (2 * n ≡ 6 + after))) last.1 (whole, (p1.1.0, twice));
  from = λ before after value fits. (
    value,
    number_fields 4 value,
    number_fields 2 version,
    refl,
    (placed-sized u32 (λ words. 2 * words) faults.Length (number_fields 4) (λ n. n < 2 ^ 32) spelled-u32).from before _ value (fits.0, omega (arith, fits.1, size_number 4 value, size_number 2 version)),
    (tt, number_fields 2 version, [], sym (append-nil (number_fields 2 version)), (spelled-version version small).from _ _ tt tt, (refl, refl)),
  );
}

-- ---- sections

pub placed-section_at : (which said : ℕ) → IsPlacedBy (section_at which said) (λ before u. []) (λ before after u. said ≡ length before / 2)
unfolding section_at
placed-section_at which said = placed-section (faults.Pointer which said) said

pub placed-user_data : (which said : ℕ) → IsPlacedBy (user_data which said) (λ before. user_fields) (λ before after user. (said ≡ length before / 2) × IsUserData user)
unfolding user_data user_fields
placed-user_data which said = record {
  to = λ before fields after value follows.
      let (u0, f0, o0, e0, h0, (words, f1, o1, e1, h1, h2)) = follows in
      let a0 = (placed-section_at which said).to before f0 (length (concat o0) + after) u0 h0 in
      let a1 = spelled-u16.to (before ++ concat f0) f1 (length (concat o1) + after) words h1 in
      let a2 = (spelled-bytes (2 * words)).to ((before ++ concat f0) ++ concat f1) o1 after value h2 in
      let half : words ≡ length value / 2 = omega (arith, a2.1.0) in
      let is : fields ≡ number_fields 2 words ++ value ∷ [] = rw (e0, e1, a0.0, a1.0, a2.0) refl in
      let whole : fields ≡ user_fields value = subst (λ (n : ℕ). fields ≡ number_fields 2 n ++ value ∷ []) half is in
      (whole, (a0.1, record { bytes = a2.1.1; even = omega (arith, a2.1.0); size = omega (arith, half, a1.1) }));
  from = λ before after value fits.
      let words : ℕ = length value / 2 in (
        tt,
        [],
        user_fields value,
        refl,
        (placed-section_at which said).from before _ tt fits.0,
        (
          words,
          number_fields 2 words,
          value ∷ [],
          refl,
          spelled-u16.from _ _ words fits.1.size,
          (spelled-bytes (2 * words)).from _ _ value (omega (arith, fits.1.even), fits.1.bytes),
        ),
      );
}

-- ---- the end

pub placed-end : (said found : ℕ) → IsPlacedBy (end said found) (λ before u. []) (λ before after u. (after ≡ 0) × (said ≡ found))
unfolding end
placed-end said found = record {
  to = λ before fields after value follows.
      let (u, f1, o1, e1, h1, h2) = follows in
      let a1 = (placed-ended faults.Rest).to before f1 (length (concat o1) + after) u h1 in
      let none : length (concat o1) ≡ 0 = rw h2.0 refl in
      (rw (e1, a1.0, h2.0) refl, (omega (arith, a1.1, none), eqb-true said found h2.1));
  from = λ before after value fits. (tt, [], [], refl, (placed-ended faults.Rest).from _ _ tt (omega (arith, fits.0)), (refl, eq-eqb said found fits.1));
}

-- nothing follows
pub ends-end : (said found : ℕ) → EndsTheBytes (end said found)
unfolding end
ends-end said found = ends_before _ _ (ends_at_end faults.Rest)
