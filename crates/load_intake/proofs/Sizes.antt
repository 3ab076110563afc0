-- How many bytes loads need with their manifest, with more of them.
use Rattle.std.proofs.Common.{◌≡◌, ℕ, ◌+◌, ◌≤◌, List, [], ◌∷◌, ◌++◌, length, map, Some, refl, sym, ap, ◌∙◌, append_assoc, arith, append-nil}
use Rattle.std.specs.List.{AllByRecursion, flat_map, sum_by}
use Rattle.std.proofs.lemmas.Grind.{flat_map-append}
use Rattle.std.proofs.lemmas.List.Concat.{flat_map-cons}
use Rattle.std.proofs.lemmas.List.Sums.{sum_by-append, sum_by-cons, sum_by_push}
use Rattle.field_grammar.specs.Fields.{number_fields, short_fields}
use Rattle.field_grammar.proofs.SectionLemmas.{size_more, size_number, size_short}
use Rattle.field_grammar.specs.Spelling.{spelled_length}
use Rattle.load_header.specs.declared.header.FileEntry.{FileEntry}
use Rattle.load_header.specs.Header.{HeaderView}
use Rattle.load_protocol_files.specs.declared.lur.Wanted.{Wanted}
use Rattle.disk_layout.specs.declared.manifest.ManifestFile.{ManifestFile}
use Rattle.disk_layout.specs.Manifest.{LoadEntry, file_entry_fields, head_fields, load_entry_fields, manifest_fields, type_fields, entries_length, total_length}
use Rattle.disk_layout.specs.declared.manifest.Layout.TheVariants as layouts
use Rattle.disk_layout.specs.Offsets.{layout_mark}
use Rattle.session_rules.specs.Uploads.{files_of, need_of, planned_load}
use Rattle.load_intake.specs.Keeping.{file_needed, listed_need, listed_needs}
use Rattle.load_intake.specs.Kept.{named_file}
use Rattle.load_intake.specs.Needs.{entries_need, entry_need, load_need}

abbrev pub files_fields : List ManifestFile → List (List ℕ)
files_fields files = flat_map file_entry_fields files

-- ---- the contents

abbrev files_in : LoadEntry → List ManifestFile
files_in l = l.files

pub size_more_files : (files : List ManifestFile) (f : ManifestFile) → entries_length (files ++ f ∷ []) ≡ entries_length files + f.length
size_more_files files f = sum_by_push (λ (x : ManifestFile). x.length) files f

pub size_first : (f : ManifestFile) (files : List ManifestFile) → entries_length (f ∷ files) ≡ f.length + entries_length files
size_first f files = sum_by-cons (λ (x : ManifestFile). x.length) f files

pub total_more : (loads : List LoadEntry) (l : LoadEntry) → total_length (loads ++ l ∷ []) ≡ total_length loads + entries_length l.files
total_more loads l =
    let joined : flat_map files_in (loads ++ l ∷ []) ≡ flat_map files_in loads ++ l.files =
    flat_map-append files_in loads (l ∷ []) ∙ ap (λ (x : List ManifestFile). flat_map files_in loads ++ x) (flat_map-cons files_in l [] ∙ append-nil l.files) in
    ap entries_length joined ∙ sum_by-append (λ (x : ManifestFile). x.length) (flat_map files_in loads) l.files

-- ---- the manifest

one_more : {X : Type 0} (f : X → List (List ℕ)) (xs : List X) (x : X) → spelled_length (flat_map f (xs ++ x ∷ [])) ≡ spelled_length (flat_map f xs) + spelled_length (f x)
one_more f xs x =
    ap (λ (l : List (List ℕ)). spelled_length l) (flat_map-append f xs (x ∷ []) ∙ ap (λ (y : List (List ℕ)). flat_map f xs ++ y) (flat_map-cons f x [] ∙ append-nil (f x)))
    ∙ size_more (flat_map f xs) (f x)

file_size : (f : ManifestFile) → spelled_length (file_entry_fields f) ≡ length f.name + 5
file_size f = omega (arith, size_more (short_fields f.name) (number_fields 4 f.length), size_short f.name, size_number 4 f.length)

pub files_more : (files : List ManifestFile) (f : ManifestFile) → spelled_length (files_fields (files ++ f ∷ [])) ≡ spelled_length (files_fields files) + (length f.name + 5)
files_more files f = omega (arith, one_more file_entry_fields files f, file_size f)

pub files_first : (f : ManifestFile) (files : List ManifestFile) → spelled_length (files_fields (f ∷ files)) ≡ length f.name + 5 + spelled_length (files_fields files)
files_first f files =
    omega (arith, ap (λ (l : List (List ℕ)). spelled_length l) (flat_map-cons file_entry_fields f files), size_more (file_entry_fields f) (files_fields files), file_size f)

pub entry_size : (l : LoadEntry) → spelled_length (load_entry_fields layouts.Two l) ≡ length l.part + spelled_length (type_fields layouts.Two l.type_id) + 2 + spelled_length (files_fields l.files)
entry_size l =
    omega (
      arith,
      size_more (l.part ∷ []) (type_fields layouts.Two l.type_id ++ (number_fields 2 (length l.files) ++ files_fields l.files)),
      size_more (type_fields layouts.Two l.type_id) (number_fields 2 (length l.files) ++ files_fields l.files),
      size_more (number_fields 2 (length l.files)) (files_fields l.files),
      size_number 2 (length l.files),
      ap (λ (x : List ℕ). length x) (append-nil l.part),
    )

-- the mark of the layout, and the number of the loads
pub head_size : (loads : ℕ) → spelled_length (head_fields layouts.Two loads) ≡ 4
head_size loads = omega (arith, size_more (number_fields 2 layout_mark) (number_fields 2 loads), size_number 2 layout_mark, size_number 2 loads)

pub manifest_more : (loads : List LoadEntry) (l : LoadEntry)
    → spelled_length (manifest_fields layouts.Two (loads ++ l ∷ [])) ≡ spelled_length (manifest_fields layouts.Two loads) + spelled_length (load_entry_fields layouts.Two l)
manifest_more loads l =
    omega (
      arith,
      size_more (head_fields layouts.Two (length (loads ++ l ∷ []))) (flat_map (load_entry_fields layouts.Two) (loads ++ l ∷ [])),
      size_more (head_fields layouts.Two (length loads)) (flat_map (load_entry_fields layouts.Two) loads),
      head_size (length loads),
      head_size (length (loads ++ l ∷ [])),
      one_more (load_entry_fields layouts.Two) loads l,
    )

-- ---- what is planned

entries_needed : (entries : List FileEntry) → entries_length (map named_file entries) + spelled_length (files_fields (map named_file entries)) ≡ entries_need entries
entries_needed [] = refl
entries_needed (e ∷ es) =
    omega (arith, entries_needed es, size_first (named_file e) (map named_file es), files_first (named_file e) (map named_file es), sum_by-cons entry_need e es)

pub need_planned : (loads : List LoadEntry) (w : Wanted) (h : HeaderView) (size : ℕ) → length h.part ≡ 15 → need_of (loads ++ planned_load w h size ∷ []) ≡ need_of loads + load_need w h size
unfolding need_of
need_planned loads w h size part =
    let first : ManifestFile = record { name = w.header; length = size } in
    omega (
      arith,
      part,
      total_more loads (planned_load w h size),
      manifest_more loads (planned_load w h size),
      entry_size (planned_load w h size),
      size_number 2 h.type_id,
      size_first first (map named_file (files_of h)),
      files_first first (map named_file (files_of h)),
      entries_needed (files_of h),
    )

-- ---- what is kept

-- a load as a manifest of layout 2 lists it: its part number has 15 bytes, and it has a type id
pub record IsListed (l : LoadEntry) : Type 0 where
  pub part : length l.part ≡ 15
  pub typed : (id : ℕ) × (l.type_id ≡ Some id)

files_listed : (files : List ManifestFile) → entries_length files + spelled_length (files_fields files) ≡ sum_by file_needed files
files_listed [] = refl
files_listed (f ∷ fs) = omega (arith, files_listed fs, size_first f fs, files_first f fs, sum_by-cons file_needed f fs)

type_size : (l : LoadEntry) → IsListed l → spelled_length (type_fields layouts.Two l.type_id) ≡ 2
type_size l is = rw is.typed.1 (size_number 2 is.typed.0)

need_listed : (loads : List LoadEntry) (l : LoadEntry) → IsListed l → need_of (loads ++ l ∷ []) ≡ need_of loads + listed_need l
unfolding need_of
need_listed loads l is = omega (arith, is.part, total_more loads l, manifest_more loads l, entry_size l, type_size l is, files_listed l.files)

pub needs_more : (loads kept : List LoadEntry) → AllByRecursion (λ (l : LoadEntry). IsListed l) kept → need_of (loads ++ kept) ≡ need_of loads + listed_needs kept
needs_more loads [] all = omega (arith, ap need_of (append-nil loads))
needs_more loads (k ∷ ks) all =
    omega (arith, ap need_of (sym (append_assoc loads (k ∷ []) ks)), needs_more (loads ++ k ∷ []) ks all.1, need_listed loads k all.0, sum_by-cons listed_need k ks)

pub total_within : (loads : List LoadEntry) → total_length loads ≤ need_of loads
unfolding need_of
total_within loads = omega arith

pub need_is : (loads : List LoadEntry) → need_of loads ≡ total_length loads + spelled_length (manifest_fields layouts.Two loads)
unfolding need_of
need_is loads = refl
