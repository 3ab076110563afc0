-- How the head, the set and the end of a list are spelled, at their offsets.
use Rattle.std.proofs.Common.{◌≡◌, ℕ, ◌+◌, ◌/◌, ◌<◌, ◌≤◌, ◌^◌, List, [], ◌++◌, length, refl, sym, ap, subst, ◌∙◌, arith, leb}
use Rattle.std.specs.List.{concat}
use Rattle.std.proofs.lemmas.Bool.{leb-true, le-leb, and_from}
use Rattle.crc_fields.specs.CheckSums.{crc16_of}
use Rattle.crc_fields.proofs.WidthLemmas.{crc16_fits}
use Rattle.field_grammar.specs.Spelling.{IsSpelledBy, IsPlacedBy}
use Rattle.field_grammar.specs.Fields.{number_fields}
use Rattle.field_grammar.proofs.PlacedLemmas.{placed-renamed}
use Rattle.header_sections.specs.Sections.{user_data}
use Rattle.header_sections.specs.SectionFields.{user_fields, IsUserData}
use Rattle.header_sections.proofs.SectionLemmas.{placed-user_data, placed-end}
use Rattle.media_lists.specs.Lists.{refused, shared, pointers, membership, check_sum, limit}
use Rattle.media_lists.specs.ListFields.{IsMember}
use Rattle.media_lists.specs.declared.reading.Pointers.{Pointers}
use Rattle.media_lists.proofs.PieceLemmas.{both, spelled-u8, spelled-u16, spelled-u32}

pub placed-limit : IsPlacedBy limit (λ before u. []) (λ before after u. after ≤ 1048576)
unfolding limit
placed-limit = record {
  to = λ before fields after value follows.
      let (size, f1, o1, e1, h1, h2) = follows in
      let few : size ≤ 1048576 = leb-true size 1048576 h2.1 in
      let none : length (concat o1) ≡ 0 = rw h2.0 refl in
      (rw (e1, h1.0, h2.0) refl, omega (arith, few, h1.1, none));
  from = λ before after value fits. (after, [], [], refl, (refl, omega arith), (refl, le-leb after 1048576 fits));
}

-- ---- the pointers

abbrev pub pointers_parts : Pointers → List (List ℕ)
pointers_parts p = number_fields 4 p.set ++ (number_fields 4 p.entries ++ number_fields 4 p.user)

pub record ArePointers (p : Pointers) : Type 0 where
  pub set : p.set < 2 ^ 32
  pub entries : p.entries < 2 ^ 32
  pub user : p.user < 2 ^ 32

pub spelled-pointers : IsSpelledBy pointers pointers_parts ArePointers
unfolding pointers
spelled-pointers = record {
  to = λ before fields after value follows.
      let (a, f1, o1, e1, h1, (b, f2, o2, e2, h2, (c, f3, o3, e3, h3, last))) = follows in
      let p1 = spelled-u32.to before f1 (length (concat o1) + after) a h1 in
      let p2 = spelled-u32.to (before ++ concat f1) f2 (length (concat o2) + after) b h2 in
      let p3 = spelled-u32.to ((before ++ concat f1) ++ concat f2) f3 (length (concat o3) + after) c h3 in
      let is : Pointers = record { set = a; entries = b; user = c } in
      let whole : fields ≡ pointers_parts is = rw (e1, e2, e3, last.0, p1.0, p2.0, p3.0) refl in
      subst (λ (v : Pointers). (fields ≡ pointers_parts v) × ArePointers v) last.1 (whole, record { set = p1.1; entries = p2.1; user = p3.1 });
  from = λ before after value fits. (
    value.set,
    number_fields 4 value.set,
    number_fields 4 value.entries ++ number_fields 4 value.user,
    refl,
    spelled-u32.from _ _ value.set fits.set,
    (
      value.entries,
      number_fields 4 value.entries,
      number_fields 4 value.user,
      refl,
      spelled-u32.from _ _ value.entries fits.entries,
      (value.user, number_fields 4 value.user, [], refl, spelled-u32.from _ _ value.user fits.user, (refl, refl)),
    ),
  );
}

-- ---- the set

abbrev pub membership_parts : ℕ × ℕ → List (List ℕ)
membership_parts v = number_fields 1 v.0 ++ number_fields 1 v.1

abbrev pub IsMembership : ℕ × ℕ → Type 0
IsMembership v = IsMember v.1 v.0 × (v.1 < 2 ^ 8)

pub spelled-membership : IsSpelledBy membership membership_parts IsMembership
unfolding membership
spelled-membership = record {
  to = λ before fields after value follows.
      let (b, f0, o0, e0, h0, (member, f1, o1, e1, h1, (b2, f2, o2, e2, h2, (members, f3, o3, e3, h3, (u4, f4, o4, e4, h4, (u5, f5, o5, e5, h5, last)))))) = follows in
      let a1 = spelled-u8.to (before ++ concat f0) f1 (length (concat o1) + after) member h1 in
      let a3 = spelled-u8.to (((before ++ concat f0) ++ concat f1) ++ concat f2) f3 (length (concat o3) + after) members h3 in
      let is = both (leb 1 member) (leb member members) h5.1 in
      let parts : fields ≡ membership_parts (member, members) = rw (e0, h0.0, e1, e2, h2.0, e3, e4, h4.0, e5, h5.0, last.0, a1.0, a3.0) refl in
      subst (λ (v : ℕ × ℕ). (fields ≡ membership_parts v) × IsMembership v) last.1 (parts, ((leb-true 1 member is.0, leb-true member members is.1, omega (arith, a1.1)), a3.1));
  from = λ before after value fits. (
    before,
    [],
    membership_parts value,
    refl,
    (refl, refl),
    (
      value.0,
      number_fields 1 value.0,
      number_fields 1 value.1,
      refl,
      spelled-u8.from _ _ value.0 (omega (arith, fits.0.1, fits.1)),
      (
        (before ++ []) ++ concat (number_fields 1 value.0),
        [],
        number_fields 1 value.1,
        refl,
        (refl, refl),
        (
          value.1,
          number_fields 1 value.1,
          [],
          refl,
          spelled-u8.from _ _ value.1 fits.1,
          (
            tt,
            [],
            [],
            refl,
            (refl, le-leb 1 value.1 (omega (arith, fits.0.0, fits.0.1))),
            (tt, [], [], refl, (refl, and_from (leb 1 value.0) (leb value.0 value.1) (le-leb 1 value.0 fits.0.0) (le-leb value.0 value.1 fits.0.1)), (refl, refl)),
          ),
        ),
      ),
    ),
  );
}

-- ---- the end

pub placed-user : (said : ℕ) → IsPlacedBy (shared (user_data 3 said)) (λ before. user_fields) (λ before after v. (said ≡ length before / 2) × IsUserData v)
placed-user said = placed-renamed refused (user_data 3 said) (λ before. user_fields) (λ before after v. (said ≡ length before / 2) × IsUserData v) (placed-user_data 3 said)

pub placed-check_sum : IsPlacedBy check_sum (λ before u. number_fields 2 (crc16_of before)) (λ before after u. after ≡ 0)
unfolding check_sum
placed-check_sum = record {
  to = λ before fields after value follows.
      let (b, f0, o0, e0, h0, (said, f1, o1, e1, h1, h2)) = follows in
      let a1 = spelled-u16.to (before ++ concat f0) f1 (length (concat o1) + after) said h1 in
      let a2 = (placed-end said (crc16_of b)).to ((before ++ concat f0) ++ concat f1) o1 after value h2 in
      let is : said ≡ crc16_of before = a2.1.1 ∙ ap crc16_of (sym h0.1) in
      let parts : fields ≡ number_fields 2 said = rw (e0, h0.0, e1, a2.0, a1.0) refl in
      (subst (λ (n : ℕ). fields ≡ number_fields 2 n) is parts, a2.1.0);
  from = λ before after value fits.
      let said : ℕ = crc16_of before in
      (before, [], number_fields 2 said, refl, (refl, refl), (said, number_fields 2 said, [], refl, spelled-u16.from _ _ said (crc16_fits before), (placed-end said said).from _ _ tt (fits, refl)));
}
