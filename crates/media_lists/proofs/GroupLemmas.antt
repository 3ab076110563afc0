-- How the head, the set and the end of a list are spelled, group by group.
use Rattle.std.proofs.Common.{◌≡◌, ℕ, ◌+◌, ◌*◌, ◌/◌, ◌<◌, ◌^◌, List, [], ◌++◌, length, refl, ap, subst, ◌∙◌, arith, length-append}
use Rattle.std.specs.List.{concat}
use Rattle.crc_fields.specs.CheckSums.{crc16_of}
use Rattle.part_number.specs.PartNumber.{IsPartNumberText}
use Rattle.field_grammar.specs.Grammar.{Follows, expected}
use Rattle.field_grammar.specs.Spelling.{IsSpelledBy, IsPlacedBy, spelled_length}
use Rattle.field_grammar.specs.Fields.{number_fields, padded_fields}
use Rattle.field_grammar.proofs.CombinedLemmas.{spelled-expected}
use Rattle.field_grammar.proofs.PlacedLemmas.{placed-renamed}
use Rattle.header_sections.specs.Sections.{start}
use Rattle.header_sections.specs.SectionFields.{user_fields, IsUserData}
use Rattle.header_sections.proofs.SectionLemmas.{placed-start}
use Rattle.field_grammar.proofs.NumberLemmas.{length_number_bytes}
use Rattle.media_lists.specs.Lists.{refused, shared, u16, head, identity, tail}
use Rattle.media_lists.specs.ListFields.{head_fields, identity_fields}
use Rattle.media_lists.specs.declared.fault.ListFault.{ListFault}
use Rattle.media_lists.specs.declared.fault.ListFault.TheVariants as faults
use Rattle.media_lists.specs.declared.reading.Pointers.{Pointers}
use Rattle.media_lists.proofs.PieceLemmas.{spelled-u16, spelled-part, placed-section}
use Rattle.media_lists.proofs.HeadLemmas.{pointers_parts, ArePointers, spelled-pointers, membership_parts, IsMembership, spelled-membership, placed-user, placed-check_sum}

-- ---- the head

spelled-word : (wanted : ℕ) (wrong : ℕ → ListFault) → wanted < 2 ^ 16 → IsSpelledBy (expected u16 wanted wrong) (λ u. number_fields 2 wanted) (λ u. Unit {0})
spelled-word wanted wrong fits = spelled-expected u16 wanted wrong (number_fields 2) (λ n. n < 2 ^ 16) spelled-u16 fits

placed-beginning : (version : ℕ) → version < 2 ^ 16 → IsPlacedBy (shared (start version)) (λ before words. number_fields 4 words ++ number_fields 2 version) (λ before after words. (words < 2 ^ 32) × (2 * words ≡ 6 + after))
placed-beginning version small =
    placed-renamed refused (start version) (λ before words. number_fields 4 words ++ number_fields 2 version) (λ before after words. (words < 2 ^ 32) × (2 * words ≡ 6 + after)) (placed-start version small)

abbrev behind_parts : Pointers → List (List ℕ)
behind_parts p = number_fields 2 0 ++ pointers_parts p

size_behind : (p : Pointers) → spelled_length (behind_parts p) ≡ 14
size_behind p = simp (length-append, length_number_bytes) refl

pub record IsHead (after : ℕ) (p : Pointers) : Type 0 where
  pub size : (20 + after) / 2 < 2 ^ 32
  pub whole : 2 * ((20 + after) / 2) ≡ 20 + after
  pub pointers : ArePointers p

pub head_to : (version : ℕ) → version < 2 ^ 16 → (before : List ℕ) (fields : List (List ℕ)) (after : ℕ) (value : Pointers) → Follows (head version) before fields after value
    → (fields ≡ head_fields version (20 + after) value) × IsHead after value
unfolding head head_fields
head_to version small before fields after value follows =
    let (said, f1, o1, e1, h1, (u3, f3, o3, e3, h3, h4)) = follows in
    let p1 = (placed-beginning version small).to before f1 (length (concat o1) + after) said h1 in
    let p3 = (spelled-word 0 faults.Spare (omega arith)).to (before ++ concat f1) f3 (length (concat o3) + after) u3 h3 in
    let p4 = spelled-pointers.to ((before ++ concat f1) ++ concat f3) o3 after value h4 in
    let others : o1 ≡ behind_parts value = rw (e3, p3.0, p4.0) refl in
    let more : length (concat o1) ≡ 14 = ap (λ (o : List (List ℕ)). length (concat o)) others ∙ size_behind value in
    let twice : 2 * said ≡ 20 + after = omega (arith, p1.1.1, more) in
    let half : said ≡ (20 + after) / 2 = omega (arith, twice) in
    let parts : fields ≡ number_fields 4 said ++ (number_fields 2 version ++ behind_parts value) = rw (e1, p1.0, others) refl in
    (subst (λ (n : ℕ). fields ≡ number_fields 4 n ++ (number_fields 2 version ++ behind_parts value)) half parts, record { size = omega (arith, half, p1.1.0); whole = omega (arith, half, twice); pointers = p4.1 })

pub head_from : (version : ℕ) → version < 2 ^ 16 → (before : List ℕ) (after : ℕ) (value : Pointers) → IsHead after value → Follows (head version) before (head_fields version (20 + after) value) after value
unfolding head head_fields
head_from version small before after value fits =
    let said : ℕ = (20 + after) / 2 in
    let rest : List (List ℕ) = behind_parts value in
    let more : length (concat rest) ≡ 14 = size_behind value in (
      said,
      number_fields 4 said ++ number_fields 2 version,
      rest,
      refl,
      (placed-beginning version small).from before (length (concat rest) + after) said (fits.size, omega (arith, fits.whole, more)),
      (tt, number_fields 2 0, pointers_parts value, refl, (spelled-word 0 faults.Spare (omega arith)).from _ _ tt tt, spelled-pointers.from _ _ value fits.pointers),
    )

-- ---- the set

abbrev pub Identity : Type 0
Identity = List ℕ × ℕ × ℕ

abbrev pub identity_parts : Identity → List (List ℕ)
identity_parts v = identity_fields v.0 v.1 v.2

pub record IsIdentity (said : ℕ) (before : List ℕ) (v : Identity) : Type 0 where
  pub offset : said ≡ length before / 2
  pub set : IsPartNumberText v.0
  pub member : IsMembership (v.1, v.2)

pub placed-identity : (said : ℕ) → IsPlacedBy (identity said) (λ before. identity_parts) (λ before after v. IsIdentity said before v)
unfolding identity identity_fields
placed-identity said = record {
  to = λ before fields after value follows.
      let (u0, f0, o0, e0, h0, (set, f1, o1, e1, h1, (which, f2, o2, e2, h2, last))) = follows in
      let a0 = (placed-section 1 said).to before f0 (length (concat o0) + after) u0 h0 in
      let a1 = spelled-part.to (before ++ concat f0) f1 (length (concat o1) + after) set h1 in
      let a2 = spelled-membership.to ((before ++ concat f0) ++ concat f1) f2 (length (concat o2) + after) which h2 in
      let is : Identity = (set, which.0, which.1) in
      let whole : fields ≡ identity_parts is = rw (e0, e1, e2, last.0, a0.0, a1.0, a2.0) refl in
      subst (λ (v : Identity). (fields ≡ identity_parts v) × IsIdentity said before v) last.1 (whole, record { offset = a0.1; set = a1.1; member = a2.1 });
  from = λ before after value fits. (
    tt,
    [],
    identity_parts value,
    refl,
    (placed-section 1 said).from before _ tt fits.offset,
    (
      value.0,
      padded_fields value.0,
      membership_parts (value.1, value.2),
      refl,
      spelled-part.from _ _ value.0 fits.set,
      ((value.1, value.2), membership_parts (value.1, value.2), [], refl, spelled-membership.from _ _ (value.1, value.2) fits.member, (refl, refl)),
    ),
  );
}

-- ---- the end

pub placed-tail : (said : ℕ) → IsPlacedBy (tail said) (λ before v. user_fields v ++ number_fields 2 (crc16_of (before ++ concat (user_fields v)))) (λ before after v. ((said ≡ length before / 2) × IsUserData v) × (after ≡ 0))
unfolding tail
placed-tail said = record {
  to = λ before fields after value follows.
      let (user, f1, o1, e1, h1, (u, f2, o2, e2, h2, last)) = follows in
      let a1 = (placed-user said).to before f1 (length (concat o1) + after) user h1 in
      let a2 = placed-check_sum.to (before ++ concat f1) f2 (length (concat o2) + after) u h2 in
      let none : length (concat o2) ≡ 0 = rw last.0 refl in
      let parts : fields ≡ user_fields user ++ number_fields 2 (crc16_of (before ++ concat (user_fields user))) = rw (e1, e2, last.0, a2.0, a1.0) refl in
      subst (λ (v : List ℕ). (fields ≡ user_fields v ++ number_fields 2 (crc16_of (before ++ concat (user_fields v)))) × (((said ≡ length before / 2) × IsUserData v) × (after ≡ 0))) last.1 (parts, (a1.1, omega (arith, a2.1, none)));
  from = λ before after value fits.
      let there : List ℕ = before ++ concat (user_fields value) in
      let sum : List (List ℕ) = number_fields 2 (crc16_of there) in
      (value, user_fields value, sum, refl, (placed-user said).from before _ value fits.0, (tt, sum, [], refl, placed-check_sum.from there _ tt (omega (arith, fits.1)), (refl, refl)));
}
