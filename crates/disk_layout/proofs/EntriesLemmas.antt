-- The entries of loads in layout 2: joined, taken apart, and told by their bytes.
use Rattle.std.proofs.Common.{◌≡◌, ◌≢◌, ℕ, ◌+◌, ◌*◌, ◌≤◌, List, [], ◌∷◌, ◌++◌, length, take, drop, Option, Some, None, Result, Ok, refl, sym, ap, subst, ◌∙◌, append_assoc, arith, length-append}
use Rattle.std.specs.Prelude.{is_some, true}
use Rattle.std.specs.List.{All, AllByRecursion, concat, flat_map}
use Rattle.std.proofs.lemmas.List.{append-nil, take_at, drop_at, same_from_push}
use Rattle.std.proofs.lemmas.List.Concat.{flat_map-append, flat_map-cons}
use Rattle.std.proofs.lemmas.List.Elements.{All-head, All-drop, All-same, All-take, recursion_from_All}
use Rattle.std.proofs.lemmas.List.Folds.{concat-append}
use Rattle.std.proofs.lemmas.List.Sums.{sum_by-append}
use Rattle.field_grammar.specs.Cursor.{Cursor, start, past}
use Rattle.field_grammar.specs.Fields.{number_bytes, short_fields, number_fields}
use Rattle.field_grammar.specs.Grammar.{read, times}
use Rattle.field_grammar.proofs.GrammarLemmas.{what_follows_is_read}
use Rattle.field_grammar.proofs.NumberLemmas.{length_number_bytes}
use Rattle.field_grammar.proofs.CombinedLemmas.{times_from}
use Rattle.disk_layout.specs.Entries.{SaysLoads, entry_bytes, typed_loads}
use Rattle.disk_layout.specs.Manifest.{FileFits, FitsALayout, LoadEntry, LoadFits, ManifestFits, HasTypeOf, entries_length, file_entry_fields, load_entry, load_entry_fields, total_length, type_fields}
use Rattle.disk_layout.proofs.ManifestSpelling.{spelled-load}
use Rattle.disk_layout.specs.declared.manifest.Layout.{Layout}
use Rattle.disk_layout.specs.declared.manifest.Layout.TheVariants as layouts
use Rattle.disk_layout.specs.declared.manifest.ManifestFault.{ManifestFault}
use Rattle.disk_layout.specs.declared.manifest.ManifestFile.{ManifestFile}

abbrev entry : LoadEntry → List (List ℕ)
entry load = load_entry_fields layouts.Two load

-- ---- joined

-- the bytes of these loads and then those
pub entry_bytes_join : (xs ys : List LoadEntry) → entry_bytes (xs ++ ys) ≡ entry_bytes xs ++ entry_bytes ys
entry_bytes_join xs ys = ap concat (flat_map-append entry xs ys) ∙ concat-append (flat_map entry xs) (flat_map entry ys)

-- those of one load and then of those behind it
pub entry_bytes_first : (load : LoadEntry) (behind : List LoadEntry) → entry_bytes (load ∷ behind) ≡ concat (load_entry_fields layouts.Two load) ++ entry_bytes behind
entry_bytes_first load behind = ap concat (flat_map-cons entry load behind) ∙ concat-append (entry load) (flat_map entry behind)

-- those of the loads so far and then of one more
pub entry_bytes_more : (xs : List LoadEntry) (load : LoadEntry) → entry_bytes (xs ++ load ∷ []) ≡ entry_bytes xs ++ concat (load_entry_fields layouts.Two load)
entry_bytes_more xs load =
    entry_bytes_join xs (load ∷ []) ∙ ap (λ (bytes : List ℕ). entry_bytes xs ++ bytes) (entry_bytes_first load [] ∙ append-nil (concat (entry load)))

-- how many bytes the files of these loads and those have together
pub total_length_join : (xs ys : List LoadEntry) → total_length (xs ++ ys) ≡ total_length xs + total_length ys
total_length_join xs ys =
    ap (λ (files : List ManifestFile). entries_length files) (flat_map-append (λ (l : LoadEntry). l.files) xs ys)
    ∙ sum_by-append (λ (f : ManifestFile). f.length) (flat_map (λ (l : LoadEntry). l.files) xs) (flat_map (λ (l : LoadEntry). l.files) ys)

-- of the loads so far and one more
pub total_length_more : (xs : List LoadEntry) (load : LoadEntry) → total_length (xs ++ load ∷ []) ≡ total_length xs + entries_length load.files
total_length_more xs load =
    total_length_join xs (load ∷ []) ∙ ap (λ (n : ℕ). total_length xs + n) (ap (λ (files : List ManifestFile). entries_length files) (flat_map-cons (λ (l : LoadEntry). l.files) load [] ∙ append-nil load.files))

-- of one load and those behind it
pub total_length_first : (load : LoadEntry) (behind : List LoadEntry) → total_length (load ∷ behind) ≡ entries_length load.files + total_length behind
total_length_first load behind =
    ap (λ (files : List ManifestFile). entries_length files) (flat_map-cons (λ (l : LoadEntry). l.files) load behind)
    ∙ sum_by-append (λ (f : ManifestFile). f.length) load.files (flat_map (λ (l : LoadEntry). l.files) behind)

-- ---- taken apart

-- what stands before a load, the load, and what stands behind it
pub entry_parts : (bytes : List ℕ) (before behind : List LoadEntry) (load : LoadEntry) → SaysLoads bytes (before ++ load ∷ behind)
    → bytes ≡ entry_bytes before ++ (concat (load_entry_fields layouts.Two load) ++ entry_bytes behind)
entry_parts bytes before behind load says =
    says.are ∙ (entry_bytes_join before (load ∷ behind) ∙ ap (λ (rest : List ℕ). entry_bytes before ++ rest) (entry_bytes_first load behind))

-- the bytes of a load stand where its place says
pub entry_is_there : (bytes : List ℕ) (before behind : List LoadEntry) (load : LoadEntry) → SaysLoads bytes (before ++ load ∷ behind)
    → take (length (concat (load_entry_fields layouts.Two load))) (drop (length (entry_bytes before)) bytes) ≡ concat (load_entry_fields layouts.Two load)
entry_is_there bytes before behind load says =
    let own : List ℕ = concat (entry load) in
    ap (λ (b : List ℕ). take (length own) (drop (length (entry_bytes before)) b)) (entry_parts bytes before behind load says)
    ∙ (ap (λ (b : List ℕ). take (length own) b) (drop_at (entry_bytes before) (own ++ entry_bytes behind) (length (entry_bytes before)) refl)
    ∙ take_at own (entry_bytes behind) (length own) refl)

-- within the bytes
pub entry_within : (bytes : List ℕ) (before behind : List LoadEntry) (load : LoadEntry) → SaysLoads bytes (before ++ load ∷ behind)
    → length (entry_bytes before) + length (concat (load_entry_fields layouts.Two load)) ≤ length bytes
entry_within bytes before behind load says =
    let own : List ℕ = concat (entry load) in
    omega (arith, ap length (entry_parts bytes before behind load says), length-append (entry_bytes before) (own ++ entry_bytes behind), length-append own (entry_bytes behind))

-- and its files within those of all loads
pub files_within : (before behind : List LoadEntry) (load : LoadEntry) → total_length before + entries_length load.files ≤ total_length (before ++ load ∷ behind)
files_within before behind load = omega (arith, total_length_join before (load ∷ behind), total_length_first load behind)

-- each load fits that is among loads that fit
pub load_fits : (layout : Layout) (before behind : List LoadEntry) (load : LoadEntry) → ManifestFits layout (before ++ load ∷ behind) → LoadFits layout load
load_fits layout before behind load fits =
    All-head (λ l. LoadFits layout l) load behind
    (All-same (λ l. LoadFits layout l) (load ∷ behind) (drop (length before) (before ++ load ∷ behind)) (sym (drop_at before (load ∷ behind) (length before) refl))
    (All-drop (λ l. LoadFits layout l) (length before) (before ++ load ∷ behind) fits.each))

-- ---- how long an entry is

joined_length : (a b : List (List ℕ)) → length (concat (a ++ b)) ≡ length (concat a) + length (concat b)
joined_length a b = ap length (concat-append a b) ∙ length-append (concat a) (concat b)

one_length : (field : List ℕ) → length (concat (field ∷ [])) ≡ length field
one_length field = ap length (append-nil field)

number_length : (n value : ℕ) → length (concat (number_fields n value)) ≡ n
number_length n value = one_length (number_bytes n value) ∙ length_number_bytes n value

short_length : (text : List ℕ) → length (concat (short_fields text)) ≡ 1 + length text
short_length text =
    joined_length (number_bytes 1 (length text) ∷ []) (text ∷ []) ∙ omega (arith, number_length 1 (length text), one_length text)

file_length_of : (f : ManifestFile) → FileFits f → length (concat (file_entry_fields f)) ≤ 69
file_length_of f fits = omega (arith, joined_length (short_fields f.name) (number_fields 4 f.length), short_length f.name, number_length 4 f.length, fits.name.size.1)

files_length_of : (files : List ManifestFile) → AllByRecursion (λ (f : ManifestFile). FileFits f) files → length (concat (flat_map file_entry_fields files)) ≤ 69 * length files
files_length_of [] fits = omega arith
files_length_of (f ∷ fs) fits =
    let parts : length (concat (flat_map file_entry_fields (f ∷ fs))) ≡ length (concat (file_entry_fields f)) + length (concat (flat_map file_entry_fields fs)) =
    ap (λ (a : List (List ℕ)). length (concat a)) (flat_map-cons file_entry_fields f fs) ∙ joined_length (file_entry_fields f) (flat_map file_entry_fields fs) in
    omega (arith, parts, file_length_of f fits.0, files_length_of fs fits.1)

type_length : (t : Option ℕ) → length (concat (type_fields layouts.Two t)) ≤ 2
type_length None = omega arith
type_length (Some n) = omega (arith, number_length 2 n)

-- an entry has at most 17,683 bytes: 256 files with names of 64 bytes
pub entry_is_short : (load : LoadEntry) → LoadFits layouts.Two load → length (concat (load_entry_fields layouts.Two load)) ≤ 17683
entry_is_short load fits =
    let files : List (List ℕ) = flat_map file_entry_fields load.files in
    let counted : List (List ℕ) = number_fields 2 (length load.files) ++ files in
    omega (
      arith,
      joined_length (load.part ∷ []) (type_fields layouts.Two load.type_id ++ counted),
      one_length load.part,
      fits.part.size,
      joined_length (type_fields layouts.Two load.type_id) counted,
      type_length load.type_id,
      joined_length (number_fields 2 (length load.files)) files,
      number_length 2 (length load.files),
      files_length_of load.files (recursion_from_All (λ (f : ManifestFile). FileFits f) load.files fits.files),
      fits.count,
    )

-- ---- type ids

has_one : (t : Option ℕ) → HasTypeOf layouts.Two t → is_some t ≡ true
has_one (Some n) type_id = refl
has_one None (n, is, small) = absurd cc

kept : (loads : List LoadEntry) → AllByRecursion (λ (l : LoadEntry). LoadFits layouts.Two l) loads → typed_loads loads ≡ loads
kept [] fits = refl
kept (l ∷ ls) fits = rw (has_one l.type_id fits.0.type_id) (ap (λ (more : List LoadEntry). l ∷ more) (kept ls fits.1))

-- all loads that fit layout 2 have a type id
pub all_are_typed : (loads : List LoadEntry) → All (λ (l : LoadEntry). LoadFits layouts.Two l) loads → typed_loads loads ≡ loads
all_are_typed loads fits = kept loads (recursion_from_All (λ (l : LoadEntry). LoadFits layouts.Two l) loads fits)

not_kept : (loads : List LoadEntry) → AllByRecursion (λ (l : LoadEntry). LoadFits layouts.One l) loads → typed_loads loads ≡ []
not_kept [] fits = refl
not_kept (l ∷ ls) fits =
    let none : l.type_id ≡ None = fits.0.type_id in
    rw none (not_kept ls fits.1)

-- none that fits layout 1 has one
pub none_is_typed : (loads : List LoadEntry) → All (λ (l : LoadEntry). LoadFits layouts.One l) loads → typed_loads loads ≡ []
none_is_typed loads fits = not_kept loads (recursion_from_All (λ (l : LoadEntry). LoadFits layouts.One l) loads fits)

-- where one load has a type id, all fit layout 2
pub one_type_tells : (before behind : List LoadEntry) (load : LoadEntry) → FitsALayout (before ++ load ∷ behind) → load.type_id ≢ None → ManifestFits layouts.Two (before ++ load ∷ behind)
one_type_tells before behind load found typed = by_layout found.layout found.fits
  where
    by_layout : (layout : Layout) → ManifestFits layout (before ++ load ∷ behind) → ManifestFits layouts.Two (before ++ load ∷ behind)
    by_layout layouts.One fits = absurd (typed (load_fits layouts.One before behind load fits).type_id)
    by_layout layouts.Two fits = fits

-- ---- told by the bytes

-- the first loads are what is read
pub first_are_read : (bytes : List ℕ) (first behind : List LoadEntry) → SaysLoads bytes (first ++ behind)
    → read (times (length first) (load_entry layouts.Two)) (start bytes) ≡ Ok (first, past [] (flat_map (load_entry_fields layouts.Two) first) (entry_bytes behind))
first_are_read bytes first behind says =
    let parts : bytes ≡ entry_bytes first ++ entry_bytes behind = says.are ∙ entry_bytes_join first behind in
    let fit : AllByRecursion (λ (l : LoadEntry). LoadFits layouts.Two l) first =
    recursion_from_All (λ (l : LoadEntry). LoadFits layouts.Two l) first
    (All-same (λ (l : LoadEntry). LoadFits layouts.Two l) first (take (length first) (first ++ behind)) (sym (take_at first behind (length first) refl))
    (All-take (λ (l : LoadEntry). LoadFits layouts.Two l) (length first) (first ++ behind) says.fits.each)) in
    rw parts
    (what_follows_is_read (times (length first) (load_entry layouts.Two)) [] (flat_map entry first) (entry_bytes behind) first
    (times_from (load_entry layouts.Two) entry (λ (l : LoadEntry). LoadFits layouts.Two l) (spelled-load layouts.Two) [] (length (entry_bytes behind)) first fit))

same_loads : (xs ys : List LoadEntry) (c d : Cursor) (r : Result (List LoadEntry × Cursor) ManifestFault) → r ≡ Ok (xs, c) → r ≡ Ok (ys, d) → xs ≡ ys
same_loads xs ys c d r one two = let same : (xs, c) ≡ (ys, d) = cc in ap (λ (x : List LoadEntry × Cursor). x.0) same

-- as many loads at the start of the same bytes are the same
pub first_are_one : (bytes : List ℕ) (b1 a1 b2 a2 : List LoadEntry) → SaysLoads bytes (b1 ++ a1) → SaysLoads bytes (b2 ++ a2) → length b1 ≡ length b2 → b1 ≡ b2
first_are_one bytes b1 a1 b2 a2 one two many =
    same_loads b1 b2 _ _ (read (times (length b2) (load_entry layouts.Two)) (start bytes))
    (subst (λ (n : ℕ). read (times n (load_entry layouts.Two)) (start bytes) ≡ Ok (b1, past [] (flat_map entry b1) (entry_bytes a1))) many (first_are_read bytes b1 a1 one)) (first_are_read bytes b2 a2 two)

-- bytes say one load of each number, and the same loads before it
pub one_load_there : (bytes : List ℕ) (b1 a1 b2 a2 : List LoadEntry) (l1 l2 : LoadEntry) → SaysLoads bytes (b1 ++ l1 ∷ a1) → SaysLoads bytes (b2 ++ l2 ∷ a2) → length b1 ≡ length b2
    → (b1 ≡ b2) × (l1 ≡ l2)
one_load_there bytes b1 a1 b2 a2 l1 l2 one two many =
    let regrouped1 : SaysLoads bytes ((b1 ++ l1 ∷ []) ++ a1) = subst (λ (l : List LoadEntry). SaysLoads bytes l) (sym (append_assoc b1 (l1 ∷ []) a1)) one in
    let regrouped2 : SaysLoads bytes ((b2 ++ l2 ∷ []) ++ a2) = subst (λ (l : List LoadEntry). SaysLoads bytes l) (sym (append_assoc b2 (l2 ∷ []) a2)) two in
    same_from_push b1 b2 l1 l2
    (first_are_one bytes (b1 ++ l1 ∷ []) a1 (b2 ++ l2 ∷ []) a2 regrouped1 regrouped2 (omega (arith, many, length-append b1 (l1 ∷ []), length-append b2 (l2 ∷ []))))
