-- How the entries of both lists are spelled, after their distances.
use Rattle.std.proofs.Common.{◌≡◌, ℕ, ◌+◌, ◌≤◌, [], ◌++◌, length, refl, sym, subst}
use Rattle.std.specs.List.{concat, AllByRecursion}
use Rattle.std.proofs.lemmas.List.{append-nil}
use Rattle.load_base.specs.Text.{IsText}
use Rattle.field_grammar.specs.Spelling.{IsSpelledBy}
use Rattle.field_grammar.specs.Fields.{number_fields, padded_fields}
use Rattle.header_sections.specs.SectionFields.{texts_fields}
use Rattle.header_sections.proofs.SectionLemmas as texts
use Rattle.media_lists.specs.Lists.{refused, counted}
use Rattle.media_lists.specs.Files.{file_body, file_body_fields, IsListedFile}
use Rattle.media_lists.specs.Loads.{counted_texts, load_body, load_body_fields, IsListedLoad, LoadEntryView}
use Rattle.media_lists.specs.declared.lists.ListedFile.{ListedFile}
use Rattle.media_lists.proofs.PieceLemmas.{spelled-u16, spelled-member_of, spelled-counted_few, spelled-name, spelled-part}
use Rattle.media_lists.proofs.Texts.{spelled-path}

spelled-texts : IsSpelledBy counted_texts texts_fields (λ t. (length t ≤ 1024) × AllByRecursion IsText t)
unfolding counted_texts
spelled-texts = texts.spelled-texts refused counted (λ n. n ≤ 1024) spelled-counted_few

-- ---- files

pub spelled-file_body : (members : ℕ) → IsSpelledBy (file_body members) file_body_fields (IsListedFile members)
unfolding file_body file_body_fields
spelled-file_body members = record {
  to = λ before fields after value follows.
      let (title, f1, o1, e1, h1, (offset, f2, o2, e2, h2, (member, f3, o3, e3, h3, (sum, f4, o4, e4, h4, last)))) = follows in
      let a = spelled-name.to before f1 (length (concat o1) + after) title h1 in
      let b = spelled-path.to (before ++ concat f1) f2 (length (concat o2) + after) offset h2 in
      let c = (spelled-member_of members).to ((before ++ concat f1) ++ concat f2) f3 (length (concat o3) + after) member h3 in
      let d = spelled-u16.to (((before ++ concat f1) ++ concat f2) ++ concat f3) f4 (length (concat o4) + after) sum h4 in
      let is : ListedFile = record { name = title; path = offset; member = member; crc16 = sum } in
      let whole : fields ≡ file_body_fields is = rw (e1, e2, e3, e4, last.0, a.0, b.0, c.0, d.0) refl in
      let fits : IsListedFile members is = record { name = a.1; path = b.1; member = c.1; sum = d.1 } in
      subst (λ (v : ListedFile). (fields ≡ file_body_fields v) × IsListedFile members v) last.1 (whole, fits);
  from = λ before after value fits. (
    value.name,
    padded_fields value.name,
    padded_fields value.path ++ (number_fields 2 value.member ++ number_fields 2 value.crc16),
    refl,
    spelled-name.from before (length (concat (padded_fields value.path ++ (number_fields 2 value.member ++ number_fields 2 value.crc16))) + after) value.name fits.name,
    (
      value.path,
      padded_fields value.path,
      number_fields 2 value.member ++ number_fields 2 value.crc16,
      refl,
      spelled-path.from _ _ value.path fits.path,
      (
        value.member,
        number_fields 2 value.member,
        number_fields 2 value.crc16,
        refl,
        (spelled-member_of members).from _ _ value.member fits.member,
        (value.crc16, number_fields 2 value.crc16, [], refl, spelled-u16.from _ _ value.crc16 fits.sum, (refl, refl)),
      ),
    ),
  );
}

-- ---- loads

pub spelled-load_body : (members : ℕ) → IsSpelledBy (load_body members) load_body_fields (IsListedLoad members)
unfolding load_body load_body_fields
spelled-load_body members = record {
  to = λ before fields after value follows.
      let (number, f1, o1, e1, h1, (title, f2, o2, e2, h2, (member, f3, o3, e3, h3, (hardware, f4, o4, e4, h4, last)))) = follows in
      let a = spelled-part.to before f1 (length (concat o1) + after) number h1 in
      let b = spelled-name.to (before ++ concat f1) f2 (length (concat o2) + after) title h2 in
      let c = (spelled-member_of members).to ((before ++ concat f1) ++ concat f2) f3 (length (concat o3) + after) member h3 in
      let d = spelled-texts.to (((before ++ concat f1) ++ concat f2) ++ concat f3) f4 (length (concat o4) + after) hardware h4 in
      let is : LoadEntryView = record { part = number; header_name = title; member = member; hardware = hardware } in
      let whole : fields ≡ load_body_fields is = rw (e1, e2, e3, e4, last.0, a.0, b.0, c.0, d.0, append-nil) refl in
      let fits : IsListedLoad members is = record { part = a.1; header_name = b.1; member = c.1; few = d.1.0; hardware = d.1.1 } in
      subst (λ (v : LoadEntryView). (fields ≡ load_body_fields v) × IsListedLoad members v) last.1 (whole, fits);
  from = λ before after value fits. (
    value.part,
    padded_fields value.part,
    padded_fields value.header_name ++ (number_fields 2 value.member ++ texts_fields value.hardware),
    refl,
    spelled-part.from _ _ value.part fits.part,
    (
      value.header_name,
      padded_fields value.header_name,
      number_fields 2 value.member ++ texts_fields value.hardware,
      refl,
      spelled-name.from _ _ value.header_name fits.header_name,
      (
        value.member,
        number_fields 2 value.member,
        texts_fields value.hardware,
        refl,
        (spelled-member_of members).from _ _ value.member fits.member,
        (value.hardware, texts_fields value.hardware, [], sym (append-nil (texts_fields value.hardware)), spelled-texts.from _ _ value.hardware (fits.few, fits.hardware), (refl, refl)),
      ),
    ),
  );
}
