-- How the groups of sections of a header are spelled, at their offsets.
use Rattle.std.proofs.Common.{◌≡◌, ℕ, ◌+◌, ◌/◌, ◌<◌, ◌≤◌, ◌^◌, List, [], ◌++◌, length, refl, sym, ap, subst, ◌∙◌, arith}
use Rattle.std.specs.List.{concat, AllByRecursion}
use Rattle.std.proofs.lemmas.Bool.{eqb-true}
use Rattle.std.proofs.lemmas.List.{append-nil}
use Rattle.crc_fields.specs.CheckSums.{crc16_of}
use Rattle.crc_fields.proofs.WidthLemmas.{crc16_fits}
use Rattle.load_base.specs.Text.{IsText}
use Rattle.part_number.specs.PartNumber.{IsPartNumberText}
use Rattle.field_grammar.specs.Spelling.{spelled_length, IsPlacedBy}
use Rattle.field_grammar.specs.Fields.{number_fields, padded_fields}
use Rattle.field_grammar.proofs.PlacedLemmas.{placed-renamed}
use Rattle.field_grammar.proofs.SectionLemmas.{offset_after}
use Rattle.header_sections.specs.Sections.{user_data}
use Rattle.header_sections.specs.SectionFields.{texts_fields, user_fields, IsUserData}
use Rattle.header_sections.proofs.SectionLemmas.{placed-user_data, placed-end}
use Rattle.load_header.specs.Header.{HardwareAtView, refused, shared, identity, targets, all_files, no_check_value, check_sums, tail}
use Rattle.load_header.specs.HeaderFields.{positions_fields, files_fields, AreTexts, IsHardwareAt, IsHeaderFile}
use Rattle.load_header.specs.declared.header.FileEntry.{FileEntry}
use Rattle.load_header.specs.declared.reading.Pointers.{Pointers}
use Rattle.load_header.proofs.Pieces.{spelled-u16, spelled-u32, spelled-text, spelled-part, spelled-texts, spelled-positions, placed-section, placed-files}

-- ---- what the load is

abbrev pub Identity : Type 0
Identity = List ℕ × List ℕ × ℕ

abbrev pub identity_parts : Identity → List (List ℕ)
identity_parts v = padded_fields v.0 ++ (padded_fields v.1 ++ number_fields 2 v.2)

pub record IsIdentity (offsets : Pointers) (before : List ℕ) (v : Identity) : Type 0 where
  pub part_offset : offsets.part ≡ length before / 2
  pub part : IsPartNumberText v.0
  pub type_offset : offsets.type_name ≡ (length before + spelled_length (padded_fields v.0)) / 2
  pub type_name : IsText v.1
  pub type_id : v.2 < 2 ^ 16

pub placed-identity : (offsets : Pointers) → IsPlacedBy (identity offsets) (λ before. identity_parts) (λ before after v. IsIdentity offsets before v)
unfolding identity
placed-identity offsets = record {
  to = λ before fields after value follows.
      let (u0, f0, o0, e0, h0, (number, f1, o1, e1, h1, (u2, f2, o2, e2, h2, (title, f3, o3, e3, h3, (id, f4, o4, e4, h4, last))))) = follows in
      let b1 : List ℕ = before ++ concat f0 in
      let b2 : List ℕ = b1 ++ concat f1 in
      let a0 = (placed-section 1 offsets.part).to before f0 (length (concat o0) + after) u0 h0 in
      let a1 = spelled-part.to b1 f1 (length (concat o1) + after) number h1 in
      let a2 = (placed-section 2 offsets.type_name).to b2 f2 (length (concat o2) + after) u2 h2 in
      let a3 = spelled-text.to (b2 ++ concat f2) f3 (length (concat o3) + after) title h3 in
      let a4 = spelled-u16.to ((b2 ++ concat f2) ++ concat f3) f4 (length (concat o4) + after) id h4 in
      let size : length b2 ≡ length before + spelled_length (padded_fields number) = omega (arith, offset_after before f0 [] a0.0, offset_after b1 f1 (padded_fields number) a1.0) in
      let is : Identity = (number, title, id) in
      let whole : fields ≡ identity_parts is = rw (e0, e1, e2, e3, e4, last.0, a0.0, a1.0, a2.0, a3.0, a4.0) refl in
      let fits : IsIdentity offsets before is = record { part_offset = a0.1; part = a1.1; type_offset = a2.1 ∙ ap (λ (n : ℕ). n / 2) size; type_name = a3.1; type_id = a4.1 } in
      subst (λ (v : Identity). (fields ≡ identity_parts v) × IsIdentity offsets before v) last.1 (whole, fits);
  from = λ before after value fits.
      let b2 : List ℕ = (before ++ []) ++ concat (padded_fields value.0) in
      let size : length b2 ≡ length before + spelled_length (padded_fields value.0) = omega (arith, offset_after before [] [] refl, offset_after (before ++ []) (padded_fields value.0) (padded_fields value.0) refl) in
      let type_part : List (List ℕ) = padded_fields value.1 ++ number_fields 2 value.2 in (
        tt,
        [],
        identity_parts value,
        refl,
        (placed-section 1 offsets.part).from before _ tt fits.part_offset,
        (
          value.0,
          padded_fields value.0,
          type_part,
          refl,
          spelled-part.from _ _ value.0 fits.part,
          (
            tt,
            [],
            type_part,
            refl,
            (placed-section 2 offsets.type_name).from b2 _ tt (fits.type_offset ∙ ap (λ (n : ℕ). n / 2) (sym size)),
            (
              value.1,
              padded_fields value.1,
              number_fields 2 value.2,
              refl,
              spelled-text.from _ _ value.1 fits.type_name,
              (value.2, number_fields 2 value.2, [], refl, spelled-u16.from _ _ value.2 fits.type_id, (refl, refl)),
            ),
          ),
        ),
      );
}

-- ---- what it is for

abbrev pub Targets : Type 0
Targets = List (List ℕ) × List HardwareAtView

abbrev pub targets_parts : Targets → List (List ℕ)
targets_parts v = texts_fields v.0 ++ positions_fields v.1

pub record AreTargets (offsets : Pointers) (before : List ℕ) (v : Targets) : Type 0 where
  pub hardware_offset : offsets.hardware ≡ length before / 2
  pub hardware : AreTexts v.0
  pub positions_offset : offsets.positions ≡ (length before + spelled_length (texts_fields v.0)) / 2
  pub positions : (length v.1 < 2 ^ 16) × AllByRecursion IsHardwareAt v.1

pub placed-targets : (offsets : Pointers) → IsPlacedBy (targets offsets) (λ before. targets_parts) (λ before after v. AreTargets offsets before v)
unfolding targets
placed-targets offsets = record {
  to = λ before fields after value follows.
      let (u0, f0, o0, e0, h0, (hardware, f1, o1, e1, h1, (u2, f2, o2, e2, h2, (list, f3, o3, e3, h3, last)))) = follows in
      let b1 : List ℕ = before ++ concat f0 in
      let b2 : List ℕ = b1 ++ concat f1 in
      let a0 = (placed-section 3 offsets.hardware).to before f0 (length (concat o0) + after) u0 h0 in
      let a1 = spelled-texts.to b1 f1 (length (concat o1) + after) hardware h1 in
      let a2 = (placed-section 4 offsets.positions).to b2 f2 (length (concat o2) + after) u2 h2 in
      let a3 = spelled-positions.to (b2 ++ concat f2) f3 (length (concat o3) + after) list h3 in
      let size : length b2 ≡ length before + spelled_length (texts_fields hardware) = omega (arith, offset_after before f0 [] a0.0, offset_after b1 f1 (texts_fields hardware) a1.0) in
      let is : Targets = (hardware, list) in
      let whole : fields ≡ targets_parts is = rw (e0, e1, e2, e3, last.0, a0.0, a1.0, a2.0, a3.0, append-nil) refl in
      let fits : AreTargets offsets before is = record { hardware_offset = a0.1; hardware = a1.1; positions_offset = a2.1 ∙ ap (λ (n : ℕ). n / 2) size; positions = a3.1 } in
      subst (λ (v : Targets). (fields ≡ targets_parts v) × AreTargets offsets before v) last.1 (whole, fits);
  from = λ before after value fits.
      let b2 : List ℕ = (before ++ []) ++ concat (texts_fields value.0) in
      let size : length b2 ≡ length before + spelled_length (texts_fields value.0) = omega (arith, offset_after before [] [] refl, offset_after (before ++ []) (texts_fields value.0) (texts_fields value.0) refl) in (
        tt,
        [],
        targets_parts value,
        refl,
        (placed-section 3 offsets.hardware).from before _ tt fits.hardware_offset,
        (
          value.0,
          texts_fields value.0,
          positions_fields value.1,
          refl,
          spelled-texts.from _ _ value.0 fits.hardware,
          (
            tt,
            [],
            positions_fields value.1,
            refl,
            (placed-section 4 offsets.positions).from b2 _ tt (fits.positions_offset ∙ ap (λ (n : ℕ). n / 2) (sym size)),
            (value.1, positions_fields value.1, [], sym (append-nil (positions_fields value.1)), spelled-positions.from _ _ value.1 fits.positions, (refl, refl)),
          ),
        ),
      );
}

-- ---- files

abbrev pub AllFiles : Type 0
AllFiles = List FileEntry × List FileEntry

abbrev pub all_files_parts : AllFiles → List (List ℕ)
all_files_parts v = files_fields v.0 ++ files_fields v.1

pub record AreFiles (offsets : Pointers) (before : List ℕ) (v : AllFiles) : Type 0 where
  pub data_offset : offsets.data_files ≡ length before / 2
  pub data_files : AllByRecursion IsHeaderFile v.0
  pub support_offset : offsets.support_files ≡ (length before + spelled_length (files_fields v.0)) / 2
  pub support_files : AllByRecursion IsHeaderFile v.1
  pub few : length v.0 + length v.1 ≤ 255

pub placed-all_files : (offsets : Pointers) → IsPlacedBy (all_files offsets) (λ before. all_files_parts) (λ before after v. AreFiles offsets before v)
unfolding all_files
placed-all_files offsets = record {
  to = λ before fields after value follows.
      let (first, f1, o1, e1, h1, (support, f2, o2, e2, h2, last)) = follows in
      let a1 = (placed-files 5 offsets.data_files 0).to before f1 (length (concat o1) + after) first h1 in
      let a2 = (placed-files 6 offsets.support_files (length first)).to (before ++ concat f1) f2 (length (concat o2) + after) support h2 in
      let is : AllFiles = (first, support) in
      let whole : fields ≡ all_files_parts is = rw (e1, e2, last.0, a1.0, a2.0, append-nil) refl in
      let fits : AreFiles offsets before is = record {
        data_offset = a1.1.0;
        data_files = a1.1.2;
        support_offset = a2.1.0 ∙ ap (λ (n : ℕ). n / 2) (offset_after before f1 (files_fields first) a1.0);
        support_files = a2.1.2;
        few = a2.1.1;
      } in
      subst (λ (v : AllFiles). (fields ≡ all_files_parts v) × AreFiles offsets before v) last.1 (whole, fits);
  from = λ before after value fits.
      let size = offset_after before (files_fields value.0) (files_fields value.0) refl in (
        value.0,
        files_fields value.0,
        files_fields value.1,
        refl,
        (placed-files 5 offsets.data_files 0).from before _ value.0 (fits.data_offset, omega (arith, fits.few), fits.data_files),
        (
          value.1,
          files_fields value.1,
          [],
          sym (append-nil (files_fields value.1)),
          (placed-files 6 offsets.support_files (length value.0)).from (before ++ concat (files_fields value.0)) _ value.1 (fits.support_offset ∙ ap (λ (n : ℕ). n / 2) (sym size), fits.few, fits.support_files),
          (refl, refl),
        ),
      );
}

-- ---- the end

placed-user : (said : ℕ) → IsPlacedBy (shared (user_data 7 said)) (λ before. user_fields) (λ before after v. (said ≡ length before / 2) × IsUserData v)
placed-user said = placed-renamed refused (user_data 7 said) (λ before. user_fields) (λ before after v. (said ≡ length before / 2) × IsUserData v) (placed-user_data 7 said)

placed-no_check_value : (said : ℕ) → IsPlacedBy (no_check_value said) (λ before u. number_fields 2 0) (λ before after u. said ≡ length before / 2)
unfolding no_check_value
placed-no_check_value said = record {
  to = λ before fields after value follows.
      let (u0, f0, o0, e0, h0, (size, f1, o1, e1, h1, h2)) = follows in
      let a0 = (placed-section 8 said).to before f0 (length (concat o0) + after) u0 h0 in
      let a1 = spelled-u16.to (before ++ concat f0) f1 (length (concat o1) + after) size h1 in
      let none : size ≡ 0 = eqb-true size 0 h2.1 in
      let is : fields ≡ number_fields 2 size = rw (e0, e1, h2.0, a0.0, a1.0) refl in
      (subst (λ (n : ℕ). fields ≡ number_fields 2 n) none is, a0.1);
  from = λ before after value fits.
      (tt, [], number_fields 2 0, refl, (placed-section 8 said).from before _ tt fits, (0, number_fields 2 0, [], refl, spelled-u16.from _ _ 0 (omega arith), (refl, refl)));
}

abbrev pub sums_parts : List ℕ → ℕ → List (List ℕ)
sums_parts before v = number_fields 2 (crc16_of before) ++ number_fields 4 v

placed-check_sums : IsPlacedBy check_sums sums_parts (λ before after v. (v < 2 ^ 32) × (after ≡ 0))
unfolding check_sums
placed-check_sums = record {
  to = λ before fields after value follows.
      let (b, f0, o0, e0, h0, (said, f1, o1, e1, h1, (load, f2, o2, e2, h2, (u3, f3, o3, e3, h3, last)))) = follows in
      let a1 = spelled-u16.to (before ++ concat f0) f1 (length (concat o1) + after) said h1 in
      let a2 = spelled-u32.to ((before ++ concat f0) ++ concat f1) f2 (length (concat o2) + after) load h2 in
      let a3 = (placed-end said (crc16_of b)).to (((before ++ concat f0) ++ concat f1) ++ concat f2) f3 (length (concat o3) + after) u3 h3 in
      let is : said ≡ crc16_of before = a3.1.1 ∙ ap crc16_of (sym h0.1) in
      let parts : fields ≡ number_fields 2 said ++ number_fields 4 load = rw (e0, h0.0, e1, e2, e3, a3.0, last.0, a1.0, a2.0) refl in
      let whole : fields ≡ sums_parts before load = subst (λ (n : ℕ). fields ≡ number_fields 2 n ++ number_fields 4 load) is parts in
      subst (λ (v : ℕ). (fields ≡ sums_parts before v) × ((v < 2 ^ 32) × (after ≡ 0))) last.1 (whole, (a2.1, omega (arith, a3.1.0)));
  from = λ before after value fits.
      let said : ℕ = crc16_of before in (
        before,
        [],
        sums_parts before value,
        refl,
        (refl, refl),
        (
          said,
          number_fields 2 said,
          number_fields 4 value,
          refl,
          spelled-u16.from _ _ said (crc16_fits before),
          (
            value,
            number_fields 4 value,
            [],
            refl,
            spelled-u32.from _ _ value fits.0,
            (tt, [], [], refl, (placed-end said said).from _ _ tt (omega (arith, fits.1), refl), (refl, refl)),
          ),
        ),
      );
}

abbrev pub Tail : Type 0
Tail = List ℕ × ℕ

abbrev pub tail_parts : List ℕ → Tail → List (List ℕ)
tail_parts before v = user_fields v.0 ++ (number_fields 2 0 ++ sums_parts ((before ++ concat (user_fields v.0)) ++ concat (number_fields 2 0)) v.1)

pub record IsTail (offsets : Pointers) (before : List ℕ) (after : ℕ) (v : Tail) : Type 0 where
  pub user_offset : offsets.user ≡ length before / 2
  pub user : IsUserData v.0
  pub check_offset : offsets.check_value ≡ (length before + spelled_length (user_fields v.0)) / 2
  pub load_crc : v.1 < 2 ^ 32
  pub none : after ≡ 0

pub placed-tail : (offsets : Pointers) → IsPlacedBy (tail offsets) tail_parts (λ before after v. IsTail offsets before after v)
unfolding tail
placed-tail offsets = record {
  to = λ before fields after value follows.
      let (user, f1, o1, e1, h1, (u2, f2, o2, e2, h2, (load, f3, o3, e3, h3, last))) = follows in
      let a1 = (placed-user offsets.user).to before f1 (length (concat o1) + after) user h1 in
      let a2 = (placed-no_check_value offsets.check_value).to (before ++ concat f1) f2 (length (concat o2) + after) u2 h2 in
      let a3 = placed-check_sums.to ((before ++ concat f1) ++ concat f2) f3 (length (concat o3) + after) load h3 in
      let is : Tail = (user, load) in
      let whole : fields ≡ tail_parts before is = rw (e1, e2, e3, last.0, a3.0, a1.0, a2.0) refl in
      let none : after ≡ 0 = omega (arith, a3.1.1) in
      let fits : IsTail offsets before after is = record {
        user_offset = a1.1.0;
        user = a1.1.1;
        check_offset = a2.1 ∙ ap (λ (n : ℕ). n / 2) (offset_after before f1 (user_fields user) a1.0);
        load_crc = a3.1.0;
        none = none;
      } in
      subst (λ (v : Tail). (fields ≡ tail_parts before v) × IsTail offsets before after v) last.1 (whole, fits);
  from = λ before after value fits.
      let b1 : List ℕ = before ++ concat (user_fields value.0) in
      let b2 : List ℕ = b1 ++ concat (number_fields 2 0) in
      let size = offset_after before (user_fields value.0) (user_fields value.0) refl in (
        value.0,
        user_fields value.0,
        number_fields 2 0 ++ sums_parts b2 value.1,
        refl,
        (placed-user offsets.user).from before _ value.0 (fits.user_offset, fits.user),
        (
          tt,
          number_fields 2 0,
          sums_parts b2 value.1,
          refl,
          (placed-no_check_value offsets.check_value).from b1 _ tt (fits.check_offset ∙ ap (λ (n : ℕ). n / 2) (sym size)),
          (value.1, sums_parts b2 value.1, [], refl, placed-check_sums.from b2 _ value.1 (fits.load_crc, omega (arith, fits.none)), (refl, refl)),
        ),
      );
}
