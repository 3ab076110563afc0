-- What a manifest says of loads, the last of which may not be whole.
use Rattle.std.proofs.Common.{◌≡◌, ℕ, ◌+◌, Some, List, [], ◌∷◌, ◌++◌, length, refl, sym, ap, ap₂, ◌∙◌, arith, append-nil, append_assoc, length-append}
use Rattle.std.specs.List.{concat, flat_map}
use Rattle.std.proofs.lemmas.Grind.{flat_map-append}
use Rattle.std.proofs.lemmas.List.Concat.{flat_map-cons}
use Rattle.std.proofs.lemmas.List.Folds.{concat-append}
use Rattle.field_grammar.specs.Fields.{number_bytes, number_fields}
use Rattle.disk_layout.specs.Entries.{entry_bytes}
use Rattle.disk_layout.proofs.EntriesLemmas.{entry_bytes_first, entry_bytes_join}
use Rattle.disk_layout.specs.Manifest.{LoadEntry, file_entry_fields, load_entry_fields, type_fields}
use Rattle.disk_layout.specs.declared.manifest.Layout.TheVariants as layouts
use Rattle.disk_layout.specs.declared.manifest.ManifestFile.{ManifestFile}
use Rattle.load_intake.specs.Stores.{begun_fields, entries_begun, with_entry}

-- nothing is still to end
whole_fields : (l : LoadEntry) → begun_fields 0 l ≡ load_entry_fields layouts.Two l
whole_fields l = ap (λ (n : ℕ). (l.part ∷ []) ++ (type_fields layouts.Two l.type_id ++ (number_fields 2 n ++ flat_map file_entry_fields l.files))) (omega arith)

pub whole_entries : (loads : List LoadEntry) → entries_begun 0 loads ≡ entry_bytes loads
whole_entries [] = refl
whole_entries (l ∷ []) = ap concat (whole_fields l) ∙ sym (entry_bytes_first l [] ∙ append-nil (concat (load_entry_fields layouts.Two l)))
whole_entries (l ∷ next ∷ loads) = ap (λ (bytes : List ℕ). concat (load_entry_fields layouts.Two l) ++ bytes) (whole_entries (next ∷ loads)) ∙ sym (entry_bytes_first l (next ∷ loads))

-- those that are whole, and the last
pub begun_entries : (left : ℕ) (loads : List LoadEntry) (l : LoadEntry) → entries_begun left (loads ++ l ∷ []) ≡ entry_bytes loads ++ concat (begun_fields left l)
begun_entries left [] l = refl
begun_entries left (first ∷ []) l =
    ap (λ (bytes : List ℕ). bytes ++ concat (begun_fields left l)) (sym (entry_bytes_first first [] ∙ append-nil (concat (load_entry_fields layouts.Two first))))
begun_entries left (first ∷ next ∷ loads) l =
    ap (λ (bytes : List ℕ). concat (load_entry_fields layouts.Two first) ++ bytes) (begun_entries left (next ∷ loads) l)
    ∙ sym (append_assoc (concat (load_entry_fields layouts.Two first)) (entry_bytes (next ∷ loads)) (concat (begun_fields left l)))
    ∙ ap (λ (bytes : List ℕ). bytes ++ concat (begun_fields left l)) (sym (entry_bytes_first first (next ∷ loads)))

-- a load begins
pub entries_with_load : (body old part : List ℕ) (type_id files : ℕ) (loads : List LoadEntry) → old ≡ entries_begun 0 loads → body ≡ ((old ++ part) ++ number_bytes 2 type_id) ++ number_bytes 2 files
    → body ≡ entries_begun files (loads ++ record { part = part; type_id = Some type_id; files = [] } ∷ [])
entries_with_load body old part type_id files loads was is =
    let load : LoadEntry = record { part = part; type_id = Some type_id; files = [] } in
    let more : List ℕ = number_bytes 2 type_id ++ number_bytes 2 files in
    let said : concat (begun_fields files load) ≡ part ++ more =
    ap (λ (n : ℕ). part ++ (number_bytes 2 type_id ++ (number_bytes 2 n ++ []))) (omega arith) ∙ ap (λ (l : List ℕ). part ++ (number_bytes 2 type_id ++ l)) (append-nil (number_bytes 2 files)) in
    is ∙ append_assoc (old ++ part) (number_bytes 2 type_id) (number_bytes 2 files) ∙ append_assoc old part more
    ∙ ap₂ (λ (a : List ℕ) (b : List ℕ). a ++ b) (was ∙ whole_entries loads) (sym said) ∙ sym (begun_entries files loads load)

-- a file ends
fields_with_file : (left size : ℕ) (name : List ℕ) (l : LoadEntry) → begun_fields left (with_entry l name size) ≡ begun_fields (left + 1) l ++ file_entry_fields (record { name = name; length = size })
fields_with_file left size name l =
    let f : ManifestFile = record { name = name; length = size } in
    let said : List (List ℕ) = type_fields layouts.Two l.type_id in
    let count : length (l.files ++ f ∷ []) + left ≡ length l.files + (left + 1) = omega (arith, length-append l.files (f ∷ [])) in
    let entries : flat_map file_entry_fields (l.files ++ f ∷ []) ≡ flat_map file_entry_fields l.files ++ file_entry_fields f =
    flat_map-append file_entry_fields l.files (f ∷ []) ∙ ap (λ (x : List (List ℕ)). flat_map file_entry_fields l.files ++ x) (flat_map-cons file_entry_fields f [] ∙ append-nil (file_entry_fields f)) in
    ap₂ (λ (n : ℕ) (x : List (List ℕ)). (l.part ∷ []) ++ (said ++ (number_fields 2 n ++ x))) count entries
    ∙ ap (λ (x : List (List ℕ)). l.part ∷ x) (sym (append_assoc said (number_fields 2 (length l.files + (left + 1)) ++ flat_map file_entry_fields l.files) (file_entry_fields f)))

pub entries_with_file : (body old name : List ℕ) (left size : ℕ) (loads : List LoadEntry) (l : LoadEntry) → old ≡ entries_begun (left + 1) (loads ++ l ∷ [])
    → body ≡ ((old ++ number_bytes 1 (length name)) ++ name) ++ number_bytes 4 size → body ≡ entries_begun left (loads ++ with_entry l name size ∷ [])
entries_with_file body old name left size loads l was is =
    let f : ManifestFile = record { name = name; length = size } in
    let entry : concat (file_entry_fields f) ≡ number_bytes 1 (length name) ++ (name ++ number_bytes 4 size) =
    ap (λ (x : List ℕ). number_bytes 1 (length name) ++ (name ++ x)) (append-nil (number_bytes 4 size)) in
    is ∙ append_assoc (old ++ number_bytes 1 (length name)) name (number_bytes 4 size) ∙ append_assoc old (number_bytes 1 (length name)) (name ++ number_bytes 4 size)
    ∙ ap₂ (λ (a : List ℕ) (b : List ℕ). a ++ b) (was ∙ begun_entries (left + 1) loads l) (sym entry)
    ∙ append_assoc (entry_bytes loads) (concat (begun_fields (left + 1) l)) (concat (file_entry_fields f))
    ∙ ap (λ (bytes : List ℕ). entry_bytes loads ++ bytes) (sym (ap concat (fields_with_file left size name l) ∙ concat-append (begun_fields (left + 1) l) (file_entry_fields f)))
    ∙ sym (begun_entries left loads (with_entry l name size))

-- loads that are whole
pub entries_with_kept : (body old : List ℕ) (loads kept : List LoadEntry) → old ≡ entries_begun 0 loads → body ≡ old ++ entry_bytes kept → body ≡ entries_begun 0 (loads ++ kept)
entries_with_kept body old loads kept was is =
    is ∙ ap (λ (bytes : List ℕ). bytes ++ entry_bytes kept) (was ∙ whole_entries loads) ∙ sym (entry_bytes_join loads kept) ∙ sym (whole_entries (loads ++ kept))
