-- How the pieces of a header are spelled that stand anywhere.
use Rattle.std.proofs.Common.{◌≡◌, ℕ, ◌+◌, ◌/◌, ◌<◌, ◌≤◌, ◌^◌, List, [], ◌∷◌, ◌++◌, length, Bool, true, false, refl, sym, subst, arith, ◌==◌, leb, ◌&&◌}
use Rattle.std.specs.List.{concat, AllByRecursion}
use Rattle.std.proofs.lemmas.Bool.{leb-true, le-leb, eqb-true, eq-eqb, and_from}
use Rattle.std.proofs.lemmas.List.{append-nil}
use Rattle.load_base.specs.Name.{IsName}
use Rattle.load_base.specs.Text.{IsText}
use Rattle.part_number.specs.PartNumber.{IsPartNumberText}
use Rattle.field_grammar.specs.Grammar.{renamed, listed}
use Rattle.field_grammar.specs.Spelling.{spelled_length, IsSpelledBy, IsPlacedBy, listed_fields, AllPlaced}
use Rattle.field_grammar.specs.Fields.{number, number_fields, padded_fields}
use Rattle.field_grammar.proofs.CombinedLemmas.{spelled-as, spelled-renamed, spelled-counted, spelled-measured}
use Rattle.field_grammar.proofs.ListedLemmas.{placed-listed}
use Rattle.field_grammar.proofs.PlacedLemmas.{placed, placed-renamed}
use Rattle.field_grammar.proofs.NumberLemmas.{wide2, wide4, wide8, spelled-number}
use Rattle.field_grammar.proofs.SectionLemmas.{size_number}
use Rattle.header_sections.specs.Sections.{text, name, part, section_at, distance_of}
use Rattle.header_sections.specs.SectionFields.{texts_fields, entry_size, entry_fields, entry_fields_after, entries_fields}
use Rattle.header_sections.proofs.SectionLemmas as texts
use Rattle.header_sections.proofs.SectionLemmas.{placed-section_at}
use Rattle.load_header.specs.Header.{named, refused, shared, u16, u32, counted_texts, hardware_at, positions, file_size, file_body, file_entry, entry_after, files, HardwareAtView}
use Rattle.load_header.specs.HeaderFields.{hardware_at_fields, positions_fields, file_body_fields, files_fields, AreTexts, IsHardwareAt, IsHeaderFile}
use Rattle.load_header.specs.declared.fault.HeaderFault.TheVariants as faults
use Rattle.load_header.specs.declared.header.FileEntry.{FileEntry}
use Rattle.load_header.proofs.Sizes.{size_body}

-- ---- numbers

pub spelled-u16 : IsSpelledBy u16 (number_fields 2) (λ n. n < 2 ^ 16)
spelled-u16 = spelled-renamed named (number 2) (number_fields 2) (λ n. n < 2 ^ 16) (spelled-number 2 wide2)

pub spelled-u32 : IsSpelledBy u32 (number_fields 4) (λ n. n < 2 ^ 32)
spelled-u32 = spelled-renamed named (number 4) (number_fields 4) (λ n. n < 2 ^ 32) (spelled-number 4 wide4)

spelled-u64 : IsSpelledBy (renamed named (number 8)) (number_fields 8) (λ n. n < 2 ^ 64)
spelled-u64 = spelled-renamed named (number 8) (number_fields 8) (λ n. n < 2 ^ 64) (spelled-number 8 wide8)

-- ---- texts and positions

pub spelled-text : IsSpelledBy (shared text) padded_fields IsText
spelled-text = spelled-renamed refused text padded_fields IsText texts.spelled-text

spelled-name : IsSpelledBy (shared name) padded_fields IsName
spelled-name = spelled-renamed refused name padded_fields IsName texts.spelled-name

pub spelled-part : IsSpelledBy (shared part) padded_fields IsPartNumberText
spelled-part = spelled-renamed refused part padded_fields IsPartNumberText texts.spelled-part

pub spelled-texts : IsSpelledBy counted_texts texts_fields AreTexts
unfolding counted_texts
spelled-texts = texts.spelled-texts refused u16 (λ n. n < 2 ^ 16) spelled-u16

-- a section begins where its pointer says
pub placed-section : (which said : ℕ) → IsPlacedBy (shared (section_at which said)) (λ before u. []) (λ before after u. said ≡ length before / 2)
placed-section which said = placed-renamed refused (section_at which said) (λ before u. []) (λ before after u. said ≡ length before / 2) (placed-section_at which said)

spelled-hardware_at : IsSpelledBy hardware_at hardware_at_fields IsHardwareAt
unfolding hardware_at
spelled-hardware_at = record {
  to = λ before fields after value follows.
      let (hardware, f1, o1, e1, h1, (list, f2, o2, e2, h2, last)) = follows in
      let a = spelled-text.to before f1 (length (concat o1) + after) hardware h1 in
      let b = spelled-texts.to (before ++ concat f1) f2 (length (concat o2) + after) list h2 in
      let whole : fields ≡ padded_fields hardware ++ texts_fields list = rw (e1, e2, last.0, a.0, b.0, append-nil) refl in
      subst (λ (v : HardwareAtView). (fields ≡ hardware_at_fields v) × IsHardwareAt v) last.1 (whole, (a.1, b.1));
  from = λ before after value fits. (
    value.hardware,
    padded_fields value.hardware,
    texts_fields value.positions,
    refl,
    spelled-text.from before (length (concat (texts_fields value.positions)) + after) value.hardware fits.0,
    (
      value.positions,
      texts_fields value.positions,
      [],
      sym (append-nil (texts_fields value.positions)),
      spelled-texts.from (before ++ concat (padded_fields value.hardware)) (0 + after) value.positions fits.1,
      (refl, refl),
    ),
  );
}

pub spelled-positions : IsSpelledBy positions positions_fields (λ list. (length list < 2 ^ 16) × AllByRecursion IsHardwareAt list)
unfolding positions positions_fields
spelled-positions = spelled-counted u16 hardware_at (number_fields 2) hardware_at_fields (λ n. n < 2 ^ 16) IsHardwareAt spelled-u16 spelled-hardware_at

-- ---- files

both : (a b : Bool) → (a && b) ≡ true → (a ≡ true) × (b ≡ true)
both true b e = (refl, e)
both false b e = absurd cc

abbrev size_fields : ℕ → List (List ℕ)
size_fields n = number_fields 4 ((n + 1) / 2) ++ number_fields 8 n

spelled-file_size : (file : ℕ) → IsSpelledBy (file_size file) size_fields (λ n. n ≤ 16777215)
unfolding file_size
spelled-file_size file = record {
  to = λ before fields after value follows.
      let (words, f1, o1, e1, h1, (bytes, f2, o2, e2, h2, (u, f3, o3, e3, h3, last))) = follows in
      let a = spelled-u32.to before f1 (length (concat o1) + after) words h1 in
      let b = spelled-u64.to (before ++ concat f1) f2 (length (concat o2) + after) bytes h2 in
      let t = both (leb bytes 16777215) (words == (bytes + 1) / 2) h3.1 in
      let is : words ≡ (bytes + 1) / 2 = eqb-true words ((bytes + 1) / 2) t.1 in
      let said : fields ≡ number_fields 4 words ++ number_fields 8 bytes = rw (e1, e2, e3, h3.0, last.0, a.0, b.0) refl in
      let whole : fields ≡ size_fields bytes = subst (λ (w : ℕ). fields ≡ number_fields 4 w ++ number_fields 8 bytes) is said in
      subst (λ (v : ℕ). (fields ≡ size_fields v) × (v ≤ 16777215)) last.1 (whole, leb-true bytes 16777215 t.0);
  from = λ before after value fits. (
    (value + 1) / 2,
    number_fields 4 ((value + 1) / 2),
    number_fields 8 value,
    refl,
    spelled-u32.from before (length (concat (number_fields 8 value)) + after) ((value + 1) / 2) (omega arith),
    (
      value,
      number_fields 8 value,
      [],
      refl,
      spelled-u64.from (before ++ concat (number_fields 4 ((value + 1) / 2))) (0 + after) value (omega (arith, fits)),
      (tt, [], [], refl, (refl, and_from (leb value 16777215) (((value + 1) / 2) == (value + 1) / 2) (le-leb value 16777215 fits) (eq-eqb ((value + 1) / 2) ((value + 1) / 2) refl)), (refl, refl)),
    ),
  );
}

spelled-file_body : (file : ℕ) → IsSpelledBy (file_body file) file_body_fields IsHeaderFile
unfolding file_body file_body_fields
spelled-file_body file = record {
  to = λ before fields after value follows.
      let (title, f1, o1, e1, h1, (number, f2, o2, e2, h2, (size, f3, o3, e3, h3, (sum, f4, o4, e4, h4, last)))) = follows in
      let a = spelled-name.to before f1 (length (concat o1) + after) title h1 in
      let b = spelled-text.to (before ++ concat f1) f2 (length (concat o2) + after) number h2 in
      let c = (spelled-file_size file).to ((before ++ concat f1) ++ concat f2) f3 (length (concat o3) + after) size h3 in
      let d = spelled-u16.to (((before ++ concat f1) ++ concat f2) ++ concat f3) f4 (length (concat o4) + after) sum h4 in
      let is : FileEntry = record { name = title; part = number; length = size; crc16 = sum } in
      let whole : fields ≡ file_body_fields is = rw (e1, e2, e3, e4, last.0, a.0, b.0, c.0, d.0) refl in
      let fits : IsHeaderFile is = record { name = a.1; part = b.1; size = c.1; sum = d.1 } in
      subst (λ (v : FileEntry). (fields ≡ file_body_fields v) × IsHeaderFile v) last.1 (whole, fits);
  from = λ before after value fits. (
    value.name,
    padded_fields value.name,
    padded_fields value.part ++ (size_fields value.length ++ number_fields 2 value.crc16),
    refl,
    spelled-name.from before (length (concat (padded_fields value.part ++ (size_fields value.length ++ number_fields 2 value.crc16))) + after) value.name fits.name,
    (
      value.part,
      padded_fields value.part,
      size_fields value.length ++ number_fields 2 value.crc16,
      refl,
      spelled-text.from _ _ value.part fits.part,
      (
        value.length,
        size_fields value.length,
        number_fields 2 value.crc16,
        refl,
        (spelled-file_size file).from _ _ value.length fits.size,
        (value.crc16, number_fields 2 value.crc16, [], refl, spelled-u16.from _ _ value.crc16 fits.sum, (refl, refl)),
      ),
    ),
  );
}

-- an entry's distance fits two bytes
distance_fits : (last : Bool) (n : ℕ) → n < 2 ^ 17 → distance_of last n < 2 ^ 16
distance_fits true n small = omega arith
distance_fits false n small = omega (arith, small)

body_small : (f : FileEntry) → IsHeaderFile f → 2 + spelled_length (file_body_fields f) < 2 ^ 17
body_small f is = omega (arith, size_body f, is.name.size.1, is.part.size)

spelled-file_entry : (file : ℕ) (last : Bool) → IsSpelledBy (file_entry file last) (entry_fields file_body_fields last) IsHeaderFile
unfolding file_entry
spelled-file_entry file last =
    spelled-as (file_entry file last) (entry_fields file_body_fields last) (λ f. (distance_of last (entry_size file_body_fields f) < 2 ^ 16) × IsHeaderFile f) IsHeaderFile (λ f is. is.1)
    (λ f is. (distance_fits last (entry_size file_body_fields f) (body_small f is), is))
    (spelled-measured u16 (distance_of last) (faults.Distance file) (file_body file) 2 (number_fields 2) file_body_fields (λ n. n < 2 ^ 16) IsHeaderFile (size_number 2) spelled-u16 (spelled-file_body file))

placed-entries : (others count : ℕ) → IsPlacedBy (listed count (entry_after others count) []) (λ before. listed_fields (entry_fields_after file_body_fields count) []) (λ before after xs. (length xs ≡ count) × AllPlaced (entry_fields_after file_body_fields count) (λ so_far b a x. IsHeaderFile x) [] before after xs)
placed-entries others count =
    placed-listed (entry_after others count) (entry_fields_after file_body_fields count) (λ so_far b a x. IsHeaderFile x) count
    (λ so_far. placed (file_entry (others + length so_far + 1) (length so_far + 1 == count)) (entry_fields_after file_body_fields count so_far) IsHeaderFile (spelled-file_entry (others + length so_far + 1) (length so_far + 1 == count)))

all_there : (s : List FileEntry → FileEntry → List (List ℕ)) (xs so_far : List FileEntry) (before : List ℕ) (after : ℕ) → AllPlaced s (λ l b a x. IsHeaderFile x) so_far before after xs → AllByRecursion IsHeaderFile xs
all_there s [] so_far before after all = tt
all_there s (x ∷ xs) so_far before after all = (all.0, all_there s xs (so_far ++ x ∷ []) (before ++ concat (s so_far x)) after all.1)

all_again : (s : List FileEntry → FileEntry → List (List ℕ)) (xs so_far : List FileEntry) (before : List ℕ) (after : ℕ) → AllByRecursion IsHeaderFile xs → AllPlaced s (λ l b a x. IsHeaderFile x) so_far before after xs
all_again s [] so_far before after all = tt
all_again s (x ∷ xs) so_far before after all = (all.0, all_again s xs (so_far ++ x ∷ []) (before ++ concat (s so_far x)) after all.1)

-- ---- sections

-- a list of files where its pointer says, of which there are few
pub placed-files : (which said others : ℕ) → IsPlacedBy (files which said others) (λ before. files_fields) (λ before after xs. (said ≡ length before / 2) × (others + length xs ≤ 255) × AllByRecursion IsHeaderFile xs)
unfolding files entries_fields
placed-files which said others = record {
  to = λ before fields after value follows.
      let (u0, f0, o0, e0, h0, (count, f1, o1, e1, h1, (u, f2, o2, e2, h2, h3))) = follows in
      let s = (placed-section which said).to before f0 (length (concat o0) + after) u0 h0 in
      let a = spelled-u16.to (before ++ concat f0) f1 (length (concat o1) + after) count h1 in
      let b = (placed-entries others count).to (((before ++ concat f0) ++ concat f1) ++ concat f2) o2 after value h3 in
      let few : others + count ≤ 255 = leb-true (others + count) 255 h2.1 in
      let counted : fields ≡ number_fields 2 count ++ listed_fields (entry_fields_after file_body_fields count) [] value = rw (e0, s.0, e1, e2, h2.0, a.0, b.0) refl in
      let whole : fields ≡ files_fields value = subst (λ (n : ℕ). fields ≡ number_fields 2 n ++ listed_fields (entry_fields_after file_body_fields n) [] value) (sym b.1.0) counted in
      (whole, (s.1, omega (arith, few, b.1.0), all_there (entry_fields_after file_body_fields count) value [] (((before ++ concat f0) ++ concat f1) ++ concat f2) after b.1.1));
  from = λ before after value fits.
      let count : ℕ = length value in
      let entries : List (List ℕ) = listed_fields (entry_fields_after file_body_fields count) [] value in
      let there : List ℕ = ((before ++ []) ++ concat (number_fields 2 count)) ++ [] in (
        tt,
        [],
        number_fields 2 count ++ entries,
        refl,
        (placed-section which said).from before _ tt fits.0,
        (
          count,
          number_fields 2 count,
          entries,
          refl,
          spelled-u16.from _ _ count (omega (arith, fits.1)),
          (tt, [], entries, refl, (refl, le-leb (others + count) 255 fits.1), (placed-entries others count).from there after value (refl, all_again (entry_fields_after file_body_fields count) value [] there after fits.2)),
        ),
      );
}
