-- How the head of a header is spelled.
use Rattle.std.proofs.Common.{◌≡◌, ℕ, ◌+◌, ◌*◌, ◌/◌, ◌<◌, ◌^◌, List, [], ◌++◌, length, refl, sym, ap, subst, ◌∙◌, arith, length-append}
use Rattle.std.specs.List.{concat}
use Rattle.std.proofs.lemmas.List.{append-nil}
use Rattle.field_grammar.specs.Grammar.{Follows}
use Rattle.field_grammar.specs.Spelling.{spelled_length, IsSpelledBy, IsPlacedBy}
use Rattle.field_grammar.specs.Fields.{number_fields}
use Rattle.field_grammar.proofs.PlacedLemmas.{placed-renamed}
use Rattle.field_grammar.proofs.NumberLemmas.{length_number_bytes}
use Rattle.header_sections.specs.Sections.{start}
use Rattle.header_sections.proofs.SectionLemmas.{placed-start}
use Rattle.load_header.specs.Header.{refused, shared, four, pointers, head}
use Rattle.load_header.specs.HeaderFields.{pointers_fields, head_fields}
use Rattle.load_header.specs.declared.reading.Pointers.{Pointers}
use Rattle.load_header.proofs.Pieces.{spelled-u16, spelled-u32}

abbrev Four : Type 0
Four = ℕ × ℕ × ℕ × ℕ

abbrev four_parts : Four → List (List ℕ)
four_parts v = number_fields 4 v.0 ++ (number_fields 4 v.1 ++ (number_fields 4 v.2 ++ number_fields 4 v.3))

abbrev AreFour : Four → Type 0
AreFour v = (v.0 < 2 ^ 32) × (v.1 < 2 ^ 32) × (v.2 < 2 ^ 32) × (v.3 < 2 ^ 32)

spelled-four : IsSpelledBy four four_parts AreFour
unfolding four
spelled-four = record {
  to = λ before fields after value follows.
      let (a, f1, o1, e1, h1, (b, f2, o2, e2, h2, (c, f3, o3, e3, h3, (d, f4, o4, e4, h4, last)))) = follows in
      let p1 = spelled-u32.to before f1 (length (concat o1) + after) a h1 in
      let p2 = spelled-u32.to (before ++ concat f1) f2 (length (concat o2) + after) b h2 in
      let p3 = spelled-u32.to ((before ++ concat f1) ++ concat f2) f3 (length (concat o3) + after) c h3 in
      let p4 = spelled-u32.to (((before ++ concat f1) ++ concat f2) ++ concat f3) f4 (length (concat o4) + after) d h4 in
      let is : Four = (a, b, c, d) in
      let whole : fields ≡ four_parts is = rw (e1, e2, e3, e4, last.0, p1.0, p2.0, p3.0, p4.0) refl in
      subst (λ (v : Four). (fields ≡ four_parts v) × AreFour v) last.1 (whole, (p1.1, p2.1, p3.1, p4.1));
  from = λ before after value fits. (
    value.0,
    number_fields 4 value.0,
    number_fields 4 value.1 ++ (number_fields 4 value.2 ++ number_fields 4 value.3),
    refl,
    spelled-u32.from _ _ value.0 fits.0,
    (
      value.1,
      number_fields 4 value.1,
      number_fields 4 value.2 ++ number_fields 4 value.3,
      refl,
      spelled-u32.from _ _ value.1 fits.1,
      (
        value.2,
        number_fields 4 value.2,
        number_fields 4 value.3,
        refl,
        spelled-u32.from _ _ value.2 fits.2,
        (value.3, number_fields 4 value.3, [], refl, spelled-u32.from _ _ value.3 fits.3, (refl, refl)),
      ),
    ),
  );
}

-- each pointer fits four bytes
pub record ArePointers (p : Pointers) : Type 0 where
  pub part : p.part < 2 ^ 32
  pub type_name : p.type_name < 2 ^ 32
  pub hardware : p.hardware < 2 ^ 32
  pub positions : p.positions < 2 ^ 32
  pub data_files : p.data_files < 2 ^ 32
  pub support_files : p.support_files < 2 ^ 32
  pub user : p.user < 2 ^ 32
  pub check_value : p.check_value < 2 ^ 32

spelled-pointers : IsSpelledBy pointers pointers_fields ArePointers
unfolding pointers pointers_fields
spelled-pointers = record {
  to = λ before fields after value follows.
      let (a, f1, o1, e1, h1, (b, f2, o2, e2, h2, last)) = follows in
      let p1 = spelled-four.to before f1 (length (concat o1) + after) a h1 in
      let p2 = spelled-four.to (before ++ concat f1) f2 (length (concat o2) + after) b h2 in
      let is : Pointers = record { part = a.0; type_name = a.1; hardware = a.2; positions = a.3; data_files = b.0; support_files = b.1; user = b.2; check_value = b.3 } in
      let whole : fields ≡ four_parts a ++ four_parts b = rw (e1, e2, last.0, p1.0, p2.0) refl in
      let fit : ArePointers is = record { part = p1.1.0; type_name = p1.1.1; hardware = p1.1.2; positions = p1.1.3; data_files = p2.1.0; support_files = p2.1.1; user = p2.1.2; check_value = p2.1.3 } in
      subst (λ (v : Pointers). (fields ≡ four_parts (v.part, v.type_name, v.hardware, v.positions) ++ four_parts (v.data_files, v.support_files, v.user, v.check_value)) × ArePointers v) last.1 (whole, fit);
  from = λ before after value fits.
      let a : Four = (value.part, value.type_name, value.hardware, value.positions) in
      let b : Four = (value.data_files, value.support_files, value.user, value.check_value) in (
        a,
        four_parts a,
        four_parts b,
        refl,
        spelled-four.from before _ a (fits.part, fits.type_name, fits.hardware, fits.positions),
        (b, four_parts b, [], refl, spelled-four.from _ _ b (fits.data_files, fits.support_files, fits.user, fits.check_value), (refl, refl)),
      );
}

pub size_head : (size flags : ℕ) (p : Pointers) → spelled_length (head_fields size flags p) ≡ 40
unfolding head_fields pointers_fields
size_head size flags p = simp (length-append, length_number_bytes) refl

size_behind : (flags : ℕ) (p : Pointers) → spelled_length (number_fields 2 flags ++ pointers_fields p) ≡ 34
unfolding pointers_fields
size_behind flags p = simp (length-append, length_number_bytes) refl

abbrev pub Head : Type 0
Head = ℕ × Pointers

pub record IsHead (after : ℕ) (h : Head) : Type 0 where
  pub size : (40 + after) / 2 < 2 ^ 32
  pub whole : 2 * ((40 + after) / 2) ≡ 40 + after
  pub flags : h.0 < 2 ^ 16
  pub pointers : ArePointers h.1

placed-beginning : IsPlacedBy (shared (start 0x8004)) (λ before words. number_fields 4 words ++ number_fields 2 0x8004) (λ before after words. (words < 2 ^ 32) × (2 * words ≡ 6 + after))
placed-beginning =
    placed-renamed refused (start 0x8004) (λ before words. number_fields 4 words ++ number_fields 2 0x8004) (λ before after words. (words < 2 ^ 32) × (2 * words ≡ 6 + after)) (placed-start 0x8004 (omega arith))

-- a head says how many bytes there are from its own first on
pub head_to : (before : List ℕ) (fields : List (List ℕ)) (after : ℕ) (value : Head) → Follows head before fields after value → (fields ≡ head_fields (40 + after) value.0 value.1) × IsHead after value
unfolding head head_fields
head_to before fields after value follows =
    let (said, f1, o1, e1, h1, (flags, f3, o3, e3, h3, (offsets, f4, o4, e4, h4, last))) = follows in
    let p1 = placed-beginning.to before f1 (length (concat o1) + after) said h1 in
    let p3 = spelled-u16.to (before ++ concat f1) f3 (length (concat o3) + after) flags h3 in
    let p4 = spelled-pointers.to ((before ++ concat f1) ++ concat f3) f4 (length (concat o4) + after) offsets h4 in
    let others : o1 ≡ number_fields 2 flags ++ pointers_fields offsets = rw (e3, e4, last.0, p3.0, p4.0, append-nil) refl in
    let more : length (concat o1) ≡ 34 = ap (λ (o : List (List ℕ)). length (concat o)) others ∙ size_behind flags offsets in
    let twice : 2 * said ≡ 40 + after = omega (arith, p1.1.1, more) in
    let half : said ≡ (40 + after) / 2 = omega (arith, twice) in
    let is : Head = (flags, offsets) in
    let parts : fields ≡ number_fields 4 said ++ (number_fields 2 0x8004 ++ (number_fields 2 flags ++ pointers_fields offsets)) = rw (e1, p1.0, others) refl in
    let whole : fields ≡ number_fields 4 ((40 + after) / 2) ++ (number_fields 2 0x8004 ++ (number_fields 2 flags ++ pointers_fields offsets)) =
    subst (λ (n : ℕ). fields ≡ number_fields 4 n ++ (number_fields 2 0x8004 ++ (number_fields 2 flags ++ pointers_fields offsets))) half parts in
    let fits : IsHead after is = record { size = omega (arith, half, p1.1.0); whole = omega (arith, half, twice); flags = p3.1; pointers = p4.1 } in
    subst (λ (v : Head). (fields ≡ number_fields 4 ((40 + after) / 2) ++ (number_fields 2 0x8004 ++ (number_fields 2 v.0 ++ pointers_fields v.1))) × IsHead after v) last.1 (whole, fits)

pub head_from : (before : List ℕ) (after : ℕ) (value : Head) → IsHead after value → Follows head before (head_fields (40 + after) value.0 value.1) after value
unfolding head head_fields
head_from before after value fits =
    let said : ℕ = (40 + after) / 2 in
    let rest : List (List ℕ) = number_fields 2 value.0 ++ pointers_fields value.1 in
    let more : length (concat rest) ≡ 34 = size_behind value.0 value.1 in (
      said,
      number_fields 4 said ++ number_fields 2 0x8004,
      rest,
      refl,
      placed-beginning.from before (length (concat rest) + after) said (fits.size, omega (arith, fits.whole, more)),
      (
        value.0,
        number_fields 2 value.0,
        pointers_fields value.1,
        refl,
        spelled-u16.from _ _ value.0 fits.flags,
        (value.1, pointers_fields value.1, [], sym (append-nil (pointers_fields value.1)), spelled-pointers.from _ _ value.1 fits.pointers, (refl, refl)),
      ),
    )
