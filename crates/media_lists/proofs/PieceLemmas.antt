-- How the pieces of a list are spelled that stand anywhere.
use Rattle.std.proofs.Common.{◌≡◌, ℕ, ◌+◌, ◌/◌, ◌<◌, ◌≤◌, ◌^◌, [], ◌++◌, length, Bool, true, false, refl, subst, arith, leb, ◌&&◌}
use Rattle.std.specs.List.{concat}
use Rattle.std.proofs.lemmas.Bool.{leb-true, le-leb, and_from}
use Rattle.load_base.specs.Name.{IsName}
use Rattle.part_number.specs.PartNumber.{IsPartNumberText}
use Rattle.field_grammar.specs.Spelling.{IsSpelledBy, IsPlacedBy}
use Rattle.field_grammar.specs.Fields.{number, number_fields, padded_fields}
use Rattle.field_grammar.proofs.CombinedLemmas.{spelled-renamed}
use Rattle.field_grammar.proofs.NumberLemmas.{wide1, wide2, wide4, spelled-number}
use Rattle.field_grammar.proofs.PlacedLemmas.{placed-renamed}
use Rattle.header_sections.specs.Sections.{name, part, section_at}
use Rattle.header_sections.proofs.SectionLemmas as texts
use Rattle.header_sections.proofs.SectionLemmas.{placed-section_at}
use Rattle.media_lists.specs.Lists.{named, refused, shared, u8, u16, u32, counted, member_of}
use Rattle.media_lists.specs.ListFields.{IsMember}

-- ---- numbers

pub spelled-u8 : IsSpelledBy u8 (number_fields 1) (λ n. n < 2 ^ 8)
spelled-u8 = spelled-renamed named (number 1) (number_fields 1) (λ n. n < 2 ^ 8) (spelled-number 1 wide1)

pub spelled-u16 : IsSpelledBy u16 (number_fields 2) (λ n. n < 2 ^ 16)
spelled-u16 = spelled-renamed named (number 2) (number_fields 2) (λ n. n < 2 ^ 16) (spelled-number 2 wide2)

pub spelled-u32 : IsSpelledBy u32 (number_fields 4) (λ n. n < 2 ^ 32)
spelled-u32 = spelled-renamed named (number 4) (number_fields 4) (λ n. n < 2 ^ 32) (spelled-number 4 wide4)

-- ---- members

pub both : (a b : Bool) → (a && b) ≡ true → (a ≡ true) × (b ≡ true)
both true b e = (refl, e)
both false b e = absurd cc

pub spelled-member_of : (members : ℕ) → IsSpelledBy (member_of members) (number_fields 2) (IsMember members)
unfolding member_of
spelled-member_of members = record {
  to = λ before fields after value follows.
      let (b, f0, o0, e0, h0, (member, f1, o1, e1, h1, (u, f2, o2, e2, h2, last))) = follows in
      let a1 = spelled-u16.to (before ++ concat f0) f1 (length (concat o1) + after) member h1 in
      let is = both (leb 1 member) (leb member members) h2.1 in
      let parts : fields ≡ number_fields 2 member = rw (e0, h0.0, e1, e2, h2.0, last.0, a1.0) refl in
      subst (λ (n : ℕ). (fields ≡ number_fields 2 n) × IsMember members n) last.1 (parts, (leb-true 1 member is.0, leb-true member members is.1, a1.1));
  from = λ before after value fits. (
    before,
    [],
    number_fields 2 value,
    refl,
    (refl, refl),
    (value, number_fields 2 value, [], refl, spelled-u16.from _ _ value fits.2, (tt, [], [], refl, (refl, and_from (leb 1 value) (leb value members) (le-leb 1 value fits.0) (le-leb value members fits.1)), (refl, refl))),
  );
}

-- ---- texts

pub spelled-counted_few : IsSpelledBy counted (number_fields 2) (λ n. n ≤ 1024)
unfolding counted
spelled-counted_few = record {
  to = λ before fields after value follows.
      let (count, f1, o1, e1, h1, (u, f2, o2, e2, h2, last)) = follows in
      let a1 = spelled-u16.to before f1 (length (concat o1) + after) count h1 in
      let parts : fields ≡ number_fields 2 count = rw (e1, e2, h2.0, last.0, a1.0) refl in
      subst (λ (n : ℕ). (fields ≡ number_fields 2 n) × (n ≤ 1024)) last.1 (parts, leb-true count 1024 h2.1);
  from = λ before after value fits.
      (value, number_fields 2 value, [], refl, spelled-u16.from _ _ value (omega (arith, fits)), (tt, [], [], refl, (refl, le-leb value 1024 fits), (refl, refl)));
}

pub spelled-name : IsSpelledBy (shared name) padded_fields IsName
spelled-name = spelled-renamed refused name padded_fields IsName texts.spelled-name

pub spelled-part : IsSpelledBy (shared part) padded_fields IsPartNumberText
spelled-part = spelled-renamed refused part padded_fields IsPartNumberText texts.spelled-part

-- a section begins where its pointer says
pub placed-section : (which said : ℕ) → IsPlacedBy (shared (section_at which said)) (λ before u. []) (λ before after u. said ≡ length before / 2)
placed-section which said = placed-renamed refused (section_at which said) (λ before u. []) (λ before after u. said ≡ length before / 2) (placed-section_at which said)
