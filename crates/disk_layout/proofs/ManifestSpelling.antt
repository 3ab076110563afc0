-- A manifest has one spelling in each layout.
use Rattle.std.proofs.Common.{◌≡◌, ℕ, ◌+◌, ◌<◌, ◌≤◌, ◌^◌, List, [], ◌∷◌, ◌++◌, length, Bool, true, false, Option, MatchBool, refl, sym, ap, ◌∙◌, subst, arith}
use Rattle.std.specs.Prelude.{nat_le, ◌==◌, ◌&&◌, ◌||◌, is_none, ◌↔◌}
use Rattle.std.specs.List.{concat, flat_map, AllByRecursion}
use Rattle.std.proofs.lemmas.Bool.{eqb-true, ne_eqb}
use Rattle.std.proofs.lemmas.Bool.Decides.{nat_tests}
use Rattle.std.proofs.lemmas.List.{append-nil}
use Rattle.std.proofs.lemmas.List.Elements.{All-from_recursion, recursion_from_All}
use Rattle.load_base.specs.Host.{longest_file}
use Rattle.load_base.specs.Name.{IsName}
use Rattle.load_base.specs.PartText.{IsPartText}
use Rattle.load_base.specs.Verdicts.{name_fault_of, part_text_fault_of}
use Rattle.load_base.proofs.VerdictLemmas.{name_faults, part_text_faults}
use Rattle.field_grammar.specs.Grammar.{Follows, IsBytes, Spelled, pair, mapped}
use Rattle.field_grammar.specs.Fields.{number, raw, short, number_fields, short_fields}
use Rattle.field_grammar.specs.Spelling.{IsSpelledBy}
use Rattle.field_grammar.proofs.CombinedLemmas.{spelled-pair, spelled-mapped, spelled-counted, times_to, times_from}
use Rattle.field_grammar.proofs.NumberLemmas.{wide2, wide4, spelled-number, spelled-raw}
use Rattle.field_grammar.proofs.PlacedLemmas.{placed-ended}
use Rattle.field_grammar.proofs.TextLemmas.{IsShortText, spelled-short}
use Rattle.disk_layout.specs.Offsets.{most_loads, most_files, layout_mark}
use Rattle.disk_layout.specs.Fields.{sound}
use Rattle.disk_layout.proofs.FieldLemmas.{spelled-as, spelled-sound, nothing_wrong, no_fault}
use Rattle.disk_layout.specs.Manifest.{LoadEntry, Head, manifest, counted_loads, counted_files, head_after, in_layout, to_load, to_file, first_number, load_count, manifest_head, load_entry, type_number, type_of_load, file_entry, file_count, file_name, file_length, part, head_fields, type_fields, file_entry_fields, load_entry_fields, manifest_fields, HasTypeOf, FileFits, LoadFits, ManifestFits, IsManifestText}
use Rattle.disk_layout.specs.declared.manifest.Layout.{Layout}
use Rattle.disk_layout.specs.declared.manifest.Layout.TheVariants as layouts
use Rattle.disk_layout.specs.declared.manifest.ManifestFault.TheVariants.{Wrong}
use Rattle.disk_layout.specs.declared.manifest.ManifestFile.{ManifestFile}

-- ---- the fields

spelled-load_count : IsSpelledBy load_count (number_fields 2) (λ n. n ≤ most_loads)
unfolding load_count
spelled-load_count =
    spelled-as (sound Wrong (number 2) (λ n. nat_le n most_loads)) (number_fields 2) (λ n. (n < 256 ^ 2) × (nat_le n most_loads ≡ true)) (λ n. n ≤ most_loads)
    (λ n is. few n is.1) (λ n is. (omega (arith, is), at_most n is)) (spelled-sound Wrong (number 2) (λ n. nat_le n most_loads) (number_fields 2) (λ n. n < 256 ^ 2) (spelled-number 2 wide2))
  where
    few : (n : ℕ) → nat_le n most_loads ≡ true → n ≤ most_loads
    few n e = grind (arith, nat_tests)

    at_most : (n : ℕ) → n ≤ most_loads → nat_le n most_loads ≡ true
    at_most n is = grind (arith, nat_tests)

spelled-file_count : IsSpelledBy file_count (number_fields 2) (λ n. (1 ≤ n) × (n ≤ most_files))
unfolding file_count
spelled-file_count =
    spelled-as (sound Wrong (number 2) (λ n. nat_le 1 n && nat_le n most_files)) (number_fields 2) (λ n. (n < 256 ^ 2) × ((nat_le 1 n && nat_le n most_files) ≡ true))
    (λ n. (1 ≤ n) × (n ≤ most_files)) (λ n is. (some n is.1, few n is.1)) (λ n is. (omega (arith, is.1), between n is.0 is.1))
    (spelled-sound Wrong (number 2) (λ n. nat_le 1 n && nat_le n most_files) (number_fields 2) (λ n. n < 256 ^ 2) (spelled-number 2 wide2))
  where
    some : (n : ℕ) → (nat_le 1 n && nat_le n most_files) ≡ true → 1 ≤ n
    some n e = grind (arith, nat_tests)

    few : (n : ℕ) → (nat_le 1 n && nat_le n most_files) ≡ true → n ≤ most_files
    few n e = grind (arith, nat_tests)

    between : (n : ℕ) → 1 ≤ n → n ≤ most_files → (nat_le 1 n && nat_le n most_files) ≡ true
    between n low high = grind (arith, nat_tests)

spelled-length : IsSpelledBy file_length (number_fields 4) (λ n. n ≤ longest_file)
unfolding file_length
spelled-length =
    spelled-as (sound Wrong (number 4) (λ n. nat_le n longest_file)) (number_fields 4) (λ n. (n < 256 ^ 4) × (nat_le n longest_file ≡ true)) (λ n. n ≤ longest_file)
    (λ n is. short_enough n is.1) (λ n is. (omega (arith, is), at_most n is))
    (spelled-sound Wrong (number 4) (λ n. nat_le n longest_file) (number_fields 4) (λ n. n < 256 ^ 4) (spelled-number 4 wide4))
  where
    short_enough : (n : ℕ) → nat_le n longest_file ≡ true → n ≤ longest_file
    short_enough n e = grind (arith, nat_tests)

    at_most : (n : ℕ) → n ≤ longest_file → nat_le n longest_file ≡ true
    at_most n is = grind (arith, nat_tests)

spelled-part : IsSpelledBy part (λ text. text ∷ []) IsPartText
unfolding part
spelled-part =
    spelled-as (sound Wrong (raw 15) (λ text. is_none (part_text_fault_of text))) (λ text. text ∷ [])
    (λ t. ((length t ≡ 15) × IsBytes t) × (is_none (part_text_fault_of t) ≡ true)) IsPartText
    (λ t is. (part_text_faults.right t).1 (nothing_wrong (part_text_fault_of t) is.1))
    (λ t is. ((is.size, part_text_faults.small t is), no_fault (part_text_fault_of t) ((part_text_faults.right t).0 is)))
    (spelled-sound Wrong (raw 15) (λ text. is_none (part_text_fault_of text)) (λ text. text ∷ []) (λ t. (length t ≡ 15) × IsBytes t) (spelled-raw 15))

spelled-name : IsSpelledBy file_name short_fields IsName
unfolding file_name
spelled-name =
    spelled-as (sound Wrong short (λ text. is_none (name_fault_of text))) short_fields
    (λ t. IsShortText t × (is_none (name_fault_of t) ≡ true)) IsName
    (λ t is. (name_faults.right t).1 (nothing_wrong (name_fault_of t) is.1))
    (λ t is. ((omega (arith, is.size.1), name_faults.small t is), no_fault (name_fault_of t) ((name_faults.right t).0 is)))
    (spelled-sound Wrong short (λ text. is_none (name_fault_of text)) short_fields IsShortText spelled-short)

-- ---- the type id

spelled-type_number : IsSpelledBy type_number (number_fields 2) (λ n. n < 65536)
unfolding type_number
spelled-type_number =
    spelled-as (sound Wrong (number 2) (λ n. true)) (number_fields 2) (λ n. (n < 256 ^ 2) × (true ≡ true)) (λ n. n < 65536)
    (λ n is. is.0) (λ n is. (is, refl)) (spelled-sound Wrong (number 2) (λ n. true) (number_fields 2) (λ n. n < 256 ^ 2) (spelled-number 2 wide2))

spelled-type : (layout : Layout) → IsSpelledBy (type_of_load layout) (type_fields layout) (HasTypeOf layout)
spelled-type layouts.One = record {
  to = λ before fields after value follows. (follows.0, sym follows.1);
  from = λ before after value fits. (refl, sym fits);
}
spelled-type layouts.Two = record {
  to = λ before fields after value follows.
      let (n, first, none, parts, fn, last) = follows in
      let a = spelled-type_number.to before first (length (concat none) + after) n fn in
      let whole : fields ≡ number_fields 2 n = rw (parts, last.0, a.0, append-nil) refl in
      subst (λ (t : Option ℕ). (fields ≡ type_fields layouts.Two t) × HasTypeOf layouts.Two t) last.1 (whole, (n, refl, a.1));
  from = λ before after value fits.
      let (n, is, small) = fits in
      subst (λ (t : Option ℕ). Follows (type_of_load layouts.Two) before (type_fields layouts.Two t) after t) (sym is)
      (n, number_fields 2 n, [], sym (append-nil (number_fields 2 n)), spelled-type_number.from before (0 + after) n small, (refl, refl));
}

-- ---- files and loads

from_file : ManifestFile → List ℕ × ℕ
from_file f = (f.name, f.length)

spelled-file : IsSpelledBy file_entry file_entry_fields (λ f. FileFits f)
unfolding file_entry from_file
spelled-file =
    spelled-as file_entry file_entry_fields (λ f. IsName f.name × (f.length ≤ longest_file)) (λ f. FileFits f)
    (λ f p. record { name = p.0; length = p.1 }) (λ f fits. (fits.name, fits.length))
    (spelled-mapped to_file from_file (pair file_name file_length) _ _ (λ x. refl) (λ y. refl)
    (spelled-pair file_name file_length short_fields (number_fields 4) IsName (λ n. n ≤ longest_file) spelled-name spelled-length))

from_load : LoadEntry → List ℕ × (Option ℕ × List ManifestFile)
from_load l = (l.part, (l.type_id, l.files))

abbrev files_fields : List ManifestFile → List (List ℕ)
files_fields files = number_fields 2 (length files) ++ flat_map file_entry_fields files

abbrev FilesFit : List ManifestFile → Type 0
FilesFit files = ((1 ≤ length files) × (length files ≤ most_files)) × AllByRecursion (λ f. FileFits f) files

pub spelled-load : (layout : Layout) → IsSpelledBy (load_entry layout) (load_entry_fields layout) (λ l. LoadFits layout l)
unfolding load_entry from_load
spelled-load layout =
    spelled-as (load_entry layout) (load_entry_fields layout) (λ l. IsPartText l.part × (HasTypeOf layout l.type_id × FilesFit l.files)) (λ l. LoadFits layout l)
    (λ l p. record { part = p.0; type_id = p.1.0; some = p.1.1.0.0; count = p.1.1.0.1; files = All-from_recursion (λ f. FileFits f) l.files p.1.1.1 })
    (λ l fits. (fits.part, (fits.type_id, ((fits.some, fits.count), recursion_from_All (λ f. FileFits f) l.files fits.files))))
    (spelled-mapped to_load from_load (pair part (pair (type_of_load layout) counted_files)) _ _ (λ x. refl) (λ y. refl)
    (spelled-pair part (pair (type_of_load layout) counted_files) (λ text. text ∷ []) (λ p. type_fields layout p.0 ++ files_fields p.1) IsPartText (λ p. HasTypeOf layout p.0 × FilesFit p.1) spelled-part
    (spelled-pair (type_of_load layout) counted_files (type_fields layout) files_fields (HasTypeOf layout) FilesFit (spelled-type layout)
    (spelled-counted file_count file_entry (number_fields 2) file_entry_fields (λ n. (1 ≤ n) × (n ≤ most_files)) (λ f. FileFits f) spelled-file_count spelled-file))))

-- ---- how many loads there are, and in which layout

abbrev IsFirstNumber : ℕ → Type 0
IsFirstNumber n = (n < 256 ^ 2) × ((n == layout_mark || nat_le n most_loads) ≡ true)

spelled-first : IsSpelledBy first_number (number_fields 2) IsFirstNumber
unfolding first_number
spelled-first = spelled-sound Wrong (number 2) (λ n. n == layout_mark || nat_le n most_loads) (number_fields 2) (λ n. n < 256 ^ 2) (spelled-number 2 wide2)

few_or_mark : (n : ℕ) → (n == layout_mark || nat_le n most_loads) ≡ true → (n == layout_mark) ≡ false → n ≤ most_loads
few_or_mark n test other = grind (arith, nat_tests)

few_pass : (n : ℕ) → n ≤ most_loads → (n == layout_mark || nat_le n most_loads) ≡ true
few_pass n few = grind (arith, nat_tests)

few_is_no_mark : (n : ℕ) → n ≤ most_loads → (n == layout_mark) ≡ false
few_is_no_mark n few = ne_eqb n layout_mark (λ is. absurd (omega (arith, few, is)))

abbrev IsHead : List (List ℕ) → Head → Type 0
IsHead fields c = (fields ≡ head_fields c.layout c.loads) × (c.loads ≤ most_loads)

-- what follows the first number
after_first : (first others : List (List ℕ)) (start : List ℕ) (n after : ℕ) (value : Head) → first ≡ number_fields 2 n → IsFirstNumber n
    → Follows (head_after n) start others after value → IsHead (first ++ others) value
after_first first others start n after value is_first test follows = by_mark (n == layout_mark) refl follows
  where
    by_mark : (b : Bool) → (n == layout_mark) ≡ b
        → MatchBool b (Follows (mapped (in_layout layouts.Two) load_count) start others after value) ((others ≡ []) × (in_layout layouts.One n ≡ value))
        → IsHead (first ++ others) value
    by_mark true e found =
        let (m, f2, none, parts, fm, last) = found in
        let a = spelled-load_count.to start f2 (length (concat none) + after) m fm in
        let is : n ≡ layout_mark = eqb-true _ _ e in
        let whole : first ++ others ≡ number_fields 2 layout_mark ++ number_fields 2 m = rw (is_first, parts, last.0, a.0, is, append-nil) refl in
        subst (λ (c : Head). IsHead (first ++ others) c) last.1 (whole, a.1)
    by_mark false e found =
        let whole : first ++ others ≡ number_fields 2 n = rw (found.0, append-nil) is_first in
        subst (λ (c : Head). IsHead (first ++ others) c) found.1 (whole, few_or_mark n test.1 e)

-- and the other way round, in each layout
head_from : (before : List ℕ) (after : ℕ) (layout : Layout) (n : ℕ) → n ≤ most_loads → Follows manifest_head before (head_fields layout n) after (in_layout layout n)
unfolding manifest_head
head_from before after layouts.One n few = (
  n,
  number_fields 2 n,
  [],
  sym (append-nil (number_fields 2 n)),
  spelled-first.from before (0 + after) n (omega (arith, few), few_pass n few),
  subst (λ (b : Bool). MatchBool b (Follows (mapped (in_layout layouts.Two) load_count) (before ++ concat (number_fields 2 n)) [] after (in_layout layouts.One n)) ((◌≡◌ {A = List (List ℕ)} [] []) × (in_layout layouts.One n ≡ in_layout layouts.One n)))
      (sym (few_is_no_mark n few)) (refl, refl),
)
head_from before after layouts.Two n few = (
  layout_mark,
  number_fields 2 layout_mark,
  number_fields 2 n,
  refl,
  spelled-first.from before (length (concat (number_fields 2 n)) + after) layout_mark (omega arith, refl),
  (n, number_fields 2 n, [], sym (append-nil (number_fields 2 n)), spelled-load_count.from (before ++ concat (number_fields 2 layout_mark)) (0 + after) n few, (refl, refl)),
)

pub spelled-head : IsSpelledBy manifest_head (λ c. head_fields c.layout c.loads) (λ c. c.loads ≤ most_loads)
unfolding manifest_head
spelled-head = record {
  to = λ before fields after value follows.
      let (n, first, others, parts, fn, later) = follows in
      let a = spelled-first.to before first (length (concat others) + after) n fn in
      let b = after_first first others (before ++ concat first) n after value a.0 a.1 later in
      (parts ∙ b.0, b.1);
  from = λ before after value fits. head_from before after value.layout value.loads fits;
}

-- ---- the loads

counted_to : (before : List ℕ) (fields : List (List ℕ)) (after : ℕ) (value : List LoadEntry) → Follows counted_loads before fields after value
    → (layout : Layout) × (fields ≡ manifest_fields layout value) × ManifestFits layout value
counted_to before fields after value follows =
    let (c, first, others, parts, fc, later) = follows in
    let a = spelled-head.to before first (length (concat others) + after) c fc in
    let b = times_to (load_entry c.layout) (load_entry_fields c.layout) (λ l. LoadFits c.layout l) (spelled-load c.layout) c.loads (before ++ concat first) others after value later in (
      c.layout,
      rw (parts, a.0, b.0, b.2) refl,
      record { count = rw b.2 a.1; each = All-from_recursion (λ l. LoadFits c.layout l) value b.1 },
    )

counted_from : (before : List ℕ) (after : ℕ) (layout : Layout) (value : List LoadEntry) → ManifestFits layout value → Follows counted_loads before (manifest_fields layout value) after value
counted_from before after layout value fits = (
  in_layout layout (length value),
  head_fields layout (length value),
  flat_map (load_entry_fields layout) value,
  refl,
  spelled-head.from before (length (concat (flat_map (load_entry_fields layout) value)) + after) (in_layout layout (length value)) fits.count,
  times_from (load_entry layout) (load_entry_fields layout) (λ l. LoadFits layout l) (spelled-load layout) (before ++ concat (head_fields layout (length value))) after value
      (recursion_from_All (λ l. LoadFits layout l) value fits.each),
)

-- ---- the whole

parts_are : (fields f1 o1 f2 o2 text : List (List ℕ)) → fields ≡ f1 ++ o1 → o1 ≡ f2 ++ o2 → f2 ≡ [] → o2 ≡ [] → f1 ≡ text → fields ≡ text
parts_are fields f1 o1 f2 o2 text a b c d e = rw (a, b, c, d, e, append-nil) refl

whole_to : (bytes : List ℕ) (loads : List LoadEntry) → Spelled manifest bytes loads → IsManifestText bytes loads
unfolding manifest
whole_to bytes loads spelled =
    let (fields, is, (value, f1, o1, parts1, h1, (u, f2, o2, parts2, h2, last))) = spelled in
    let (layout, text, fits) = counted_to [] f1 (length (concat o1) + 0) value h1 in
    let t = (placed-ended Wrong).to ([] ++ concat f1) f2 (length (concat o2) + 0) u h2 in
    let whole : fields ≡ manifest_fields layout value = parts_are fields f1 o1 f2 o2 (manifest_fields layout value) parts1 parts2 t.0 last.0 text in
    subst (λ (v : List LoadEntry). IsManifestText bytes v) last.1 (layout, fits, is ∙ ap concat whole)

whole_from : (bytes : List ℕ) (loads : List LoadEntry) → IsManifestText bytes loads → Spelled manifest bytes loads
unfolding manifest
whole_from bytes loads text =
    let (layout, fits, is) = text in (
      manifest_fields layout loads,
      is,
      (
        loads,
        manifest_fields layout loads,
        [],
        sym (append-nil (manifest_fields layout loads)),
        counted_from [] (0 + 0) layout loads fits,
        (tt, [], [], refl, (placed-ended Wrong).from ([] ++ concat (manifest_fields layout loads)) (0 + 0) tt refl, (refl, refl)),
      ),
    )

-- the bytes are a manifest of these loads exactly where the loads fit one of the layouts, and the bytes are their fields in it
pub manifest_spelling : (bytes : List ℕ) (loads : List LoadEntry) → Spelled manifest bytes loads ↔ IsManifestText bytes loads
manifest_spelling bytes loads = (whole_to bytes loads, whole_from bytes loads)
