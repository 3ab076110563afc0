-- What was given, as a manifest says it.
use Rattle.std.proofs.Common.{◌≡◌, ℕ, ◌+◌, ◌≤◌, List, [], ◌∷◌, ◌++◌, length, map, refl, sym, ◌∙◌, ap, ap₂, arith, append_assoc, length-append}
use Rattle.std.specs.List.{All, concat, flat_map}
use Rattle.std.proofs.lemmas.Grind.{flat_map-append}
use Rattle.std.proofs.lemmas.List.{length-map}
use Rattle.std.proofs.lemmas.List.Sums.{sum_by-append, sum_by-cons}
use Rattle.std.proofs.lemmas.List.Folds.{flat_map-map}
use Rattle.std.proofs.lemmas.List.Elements.{All-nil, All-cons, All-head, All-tail}
use Rattle.load_base.specs.Config.{FileView, LoadView}
use Rattle.field_grammar.specs.Fields.{number_bytes}
use Rattle.disk_layout.specs.Offsets.{layout_mark, most_loads}
use Rattle.disk_layout.specs.Manifest.{LoadEntry, file_entry_fields, load_entry_fields, manifest_fields, FileFits, LoadFits, ManifestFits, total_length, type_fields, entries_length}
use Rattle.disk_layout.specs.Entries.{entry_bytes, typed_loads}
use Rattle.disk_layout.proofs.EntriesLemmas.{all_are_typed}
use Rattle.disk_layout.specs.Contents.{file_entry_of, entry_of, entries_of, bytes_of, contents_of_loads, HeaderIsFirst}
use Rattle.disk_layout.specs.declared.manifest.Layout.TheVariants as layouts
use Rattle.disk_layout.specs.declared.manifest.ManifestFile.{ManifestFile}
use Rattle.bank_store.specs.Store.{head_bytes}
use Rattle.bank_store.specs.Given.{GivenLoad, IsWholeLoad, Misses, IsFile, IsLoad, load_of, given_fields}

-- each load has all its files
pub all_whole : (loads : List GivenLoad) → Misses 0 loads → All (λ (l : GivenLoad). IsWholeLoad l) loads
all_whole [] none = All-nil (λ (l : GivenLoad). IsWholeLoad l)
all_whole (load ∷ []) none = All-cons (λ (l : GivenLoad). IsWholeLoad l) load [] (omega (arith, none)) (All-nil (λ (l : GivenLoad). IsWholeLoad l))
all_whole (load ∷ next ∷ loads) none = All-cons (λ (l : GivenLoad). IsWholeLoad l) load (next ∷ loads) none.0 (all_whole (next ∷ loads) none.1)

abbrev entry : GivenLoad → LoadEntry
entry load = entry_of (load_of load)

pub same_contents : (loads : List GivenLoad) → contents_of_loads (map load_of loads) ≡ bytes_of (flat_map (λ (l : GivenLoad). l.files) loads)
same_contents loads = ap bytes_of (flat_map-map (λ (l : LoadView). l.files) load_of loads)

pub size_of_files : (files : List FileView) → entries_length (map file_entry_of files) ≡ length (bytes_of files)
size_of_files [] = refl
size_of_files (file ∷ files) =
    sum_by-cons (λ (f : ManifestFile). f.length) (file_entry_of file) (map file_entry_of files) ∙ ap (λ (n : ℕ). length file.bytes + n) (size_of_files files)
    ∙ sym (length-append file.bytes (bytes_of files))

pub same_total : (loads : List GivenLoad) → total_length (entries_of (map load_of loads)) ≡ length (bytes_of (flat_map (λ (l : GivenLoad). l.files) loads))
same_total [] = refl
same_total (load ∷ loads) =
    sum_by-append (λ (f : ManifestFile). f.length) (map file_entry_of load.files) (flat_map (λ (l : LoadEntry). l.files) (entries_of (map load_of loads)))
    ∙ ap₂ (λ (a : ℕ) (b : ℕ). a + b) (size_of_files load.files) (same_total loads)
    ∙ sym (ap length (flat_map-append (λ (f : FileView). f.bytes) load.files (flat_map (λ (l : GivenLoad). l.files) loads))
    ∙ length-append (bytes_of load.files) (bytes_of (flat_map (λ (l : GivenLoad). l.files) loads)))

files_fit : (files : List FileView) → All (λ (f : FileView). IsFile f) files → All (λ (f : ManifestFile). FileFits f) (map file_entry_of files)
files_fit [] each = All-nil (λ (f : ManifestFile). FileFits f)
files_fit (file ∷ files) each =
    let is : IsFile file = All-head (λ (f : FileView). IsFile f) file files each in
    All-cons (λ (f : ManifestFile). FileFits f) (file_entry_of file) (map file_entry_of files) (record { name = is.name; length = is.short })
    (files_fit files (All-tail (λ (f : FileView). IsFile f) file files each))

load_fits : (load : GivenLoad) → IsLoad load → IsWholeLoad load → LoadFits layouts.Two (entry load)
load_fits load is whole =
    let size : length (map file_entry_of load.files) ≡ load.announced = length-map load.files file_entry_of ∙ whole in
    record { part = is.part; type_id = is.type_id; some = omega (arith, size, is.some); count = omega (arith, size, is.few); files = files_fit load.files is.files }

each_fits : (loads : List GivenLoad) → All (λ (l : GivenLoad). IsLoad l) loads → All (λ (l : GivenLoad). IsWholeLoad l) loads → All (λ (l : LoadEntry). LoadFits layouts.Two l) (entries_of (map load_of loads))
each_fits [] each whole = All-nil (λ (l : LoadEntry). LoadFits layouts.Two l)
each_fits (load ∷ loads) each whole =
    All-cons (λ (l : LoadEntry). LoadFits layouts.Two l) (entry load) (entries_of (map load_of loads))
    (load_fits load (All-head (λ (l : GivenLoad). IsLoad l) load loads each) (All-head (λ (l : GivenLoad). IsWholeLoad l) load loads whole))
    (each_fits loads (All-tail (λ (l : GivenLoad). IsLoad l) load loads each) (All-tail (λ (l : GivenLoad). IsWholeLoad l) load loads whole))

entries_size : (loads : List GivenLoad) → length (entries_of (map load_of loads)) ≡ length loads
entries_size loads = length-map (map load_of loads) entry_of ∙ length-map loads load_of

pub given_fit : (loads : List GivenLoad) → length loads ≤ most_loads → All (λ (l : GivenLoad). IsLoad l) loads → All (λ (l : GivenLoad). IsWholeLoad l) loads → ManifestFits layouts.Two (entries_of (map load_of loads))
given_fit loads few each whole = record { count = omega (arith, few, entries_size loads); each = each_fits loads each whole }

pub same_load_fields : (load : GivenLoad) → IsWholeLoad load → load_entry_fields layouts.Two (entry load) ≡ given_fields load
same_load_fields load whole =
    ap (λ (n : ℕ). load.part ∷ (type_fields layouts.Two load.type_id ++ number_bytes 2 n ∷ flat_map file_entry_fields (map file_entry_of load.files))) (length-map load.files file_entry_of ∙ whole)

same_fields : (loads : List GivenLoad) → All (λ (l : GivenLoad). IsWholeLoad l) loads → flat_map (load_entry_fields layouts.Two) (entries_of (map load_of loads)) ≡ flat_map given_fields loads
same_fields [] whole = refl
same_fields (load ∷ loads) whole =
    ap₂ (λ (a : List (List ℕ)) (b : List (List ℕ)). a ++ b) (same_load_fields load (All-head (λ (l : GivenLoad). IsWholeLoad l) load loads whole))
    (same_fields loads (All-tail (λ (l : GivenLoad). IsWholeLoad l) load loads whole))

-- the manifest's bytes
pub manifest_bytes : (loads : List GivenLoad) (count : ℕ) (body : List ℕ) → All (λ (l : GivenLoad). IsWholeLoad l) loads → length loads ≡ count → body ≡ concat (flat_map given_fields loads)
    → head_bytes count ++ body ≡ concat (manifest_fields layouts.Two (entries_of (map load_of loads)))
manifest_bytes loads count body whole counts is =
    append_assoc (number_bytes 2 layout_mark) (number_bytes 2 count) body
    ∙ ap₂ (λ (n : ℕ) (l : List ℕ). number_bytes 2 layout_mark ++ (number_bytes 2 n ++ l)) (sym counts ∙ sym (entries_size loads)) (is ∙ sym (ap concat (same_fields loads whole)))

-- and of these loads alone, as they are known once they are active
pub body_bytes : (loads : List GivenLoad) → length loads ≤ most_loads → All (λ (l : GivenLoad). IsLoad l) loads → All (λ (l : GivenLoad). IsWholeLoad l) loads
    → concat (flat_map given_fields loads) ≡ entry_bytes (typed_loads (entries_of (map load_of loads)))
body_bytes loads few each whole = sym (ap concat (same_fields loads whole)) ∙ ap entry_bytes (sym (all_are_typed (entries_of (map load_of loads)) (given_fit loads few each whole).each))

pub headers_first : (loads : List GivenLoad) → All (λ (l : LoadView). HeaderIsFirst l) (map load_of loads)
headers_first [] = All-nil (λ (l : LoadView). HeaderIsFirst l)
headers_first (load ∷ loads) = All-cons (λ (l : LoadView). HeaderIsFirst l) (load_of load) (map load_of loads) refl (headers_first loads)
