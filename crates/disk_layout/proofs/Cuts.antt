-- The files of a configuration, cut out of the bytes of all of them.
use Rattle.std.proofs.Common.{◌≡◌, ℕ, ◌+◌, ◌≤◌, Option, List, [], ◌∷◌, ◌++◌, length, take, drop, map, refl, sym, ap, ap₂, ◌∙◌, arith, append_assoc, length-append, length-take, length-drop}
use Rattle.std.specs.List.{flat_map}
use Rattle.std.proofs.Math.Seq.{take-add, take-length}
use Rattle.std.proofs.lemmas.List.{take_at, drop_at}
use Rattle.std.proofs.lemmas.List.Concat.{flat_map-append, flat_map-cons}
use Rattle.std.proofs.lemmas.List.Elements.{All-nil, All-cons, All-head, All-tail}
use Rattle.std.proofs.lemmas.List.Sums.{sum_by-append, sum_by-cons}
use Rattle.load_base.specs.Config.{FileView, LoadView}
use Rattle.disk_layout.specs.Manifest.{LoadEntry, entries_length, total_length}
use Rattle.disk_layout.specs.Contents.{file_entry_of, entry_of, entries_of, bytes_of, contents_of_loads, first_name, HeaderIsFirst, HeadersAreFirst}
use Rattle.disk_layout.specs.declared.manifest.ManifestFile.{ManifestFile}

-- ---- files

abbrev cut_files : List ManifestFile → List ℕ → List FileView
cut_files [] bytes = []
cut_files (f ∷ fs) bytes = record { name = f.name; bytes = take f.length bytes } ∷ cut_files fs (drop f.length bytes)

-- ---- loads

abbrev cut_load : LoadEntry → List ℕ → LoadView
cut_load load bytes = record { part = load.part; type_id = load.type_id; header_name = first_name (cut_files load.files bytes); files = cut_files load.files bytes }

abbrev pub cut : List LoadEntry → List ℕ → List LoadView
cut [] bytes = []
cut (l ∷ ls) bytes = cut_load l bytes ∷ cut ls (drop (entries_length l.files) bytes)

-- ---- one more

entries_length-cons : (f : ManifestFile) (fs : List ManifestFile) → entries_length (f ∷ fs) ≡ f.length + entries_length fs
entries_length-cons f fs = sum_by-cons (λ (e : ManifestFile). e.length) f fs

total_length-cons : (l : LoadEntry) (ls : List LoadEntry) → total_length (l ∷ ls) ≡ entries_length l.files + total_length ls
total_length-cons l ls =
    ap (λ (fs : List ManifestFile). entries_length fs) (flat_map-cons (λ (e : LoadEntry). e.files) l ls)
    ∙ sum_by-append (λ (f : ManifestFile). f.length) l.files (flat_map (λ (e : LoadEntry). e.files) ls)

contents_of_loads-cons : (l : LoadView) (ls : List LoadView) → contents_of_loads (l ∷ ls) ≡ bytes_of l.files ++ contents_of_loads ls
contents_of_loads-cons l ls =
    ap (λ (fs : List FileView). bytes_of fs) (flat_map-cons (λ (e : LoadView). e.files) l ls)
    ∙ flat_map-append (λ (f : FileView). f.bytes) l.files (flat_map (λ (e : LoadView). e.files) ls)

-- ---- the pieces have the names and lengths, and are the bytes

entry_is : (name bytes : List ℕ) (n : ℕ) → length bytes ≡ n → file_entry_of (record { name = name; bytes = bytes }) ≡ record { name = name; length = n }
entry_is name bytes n e = ap (λ (m : ℕ). make name m) e
  where
    make : List ℕ → ℕ → ManifestFile
    make name m = record { name = name; length = m }

cut_files_entries : (fs : List ManifestFile) (bytes : List ℕ) → entries_length fs ≤ length bytes → map file_entry_of (cut_files fs bytes) ≡ fs
cut_files_entries [] bytes enough = refl
cut_files_entries (f ∷ fs) bytes enough =
    let both = entries_length-cons f fs in
    let first : length (take f.length bytes) ≡ f.length = omega (arith, length-take f.length bytes, both, enough) in
    let rest = cut_files_entries fs (drop f.length bytes) (omega (arith, length-drop f.length bytes, both, enough)) in
    ap₂ (λ (e : ManifestFile) (es : List ManifestFile). e ∷ es) (entry_is f.name (take f.length bytes) f.length first) rest

cut_files_bytes : (fs : List ManifestFile) (bytes : List ℕ) → entries_length fs ≤ length bytes → bytes_of (cut_files fs bytes) ≡ take (entries_length fs) bytes
cut_files_bytes [] bytes enough = refl
cut_files_bytes (f ∷ fs) bytes enough =
    let both = entries_length-cons f fs in
    let rest = cut_files_bytes fs (drop f.length bytes) (omega (arith, length-drop f.length bytes, both, enough)) in
    flat_map-cons (λ (g : FileView). g.bytes) (record { name = f.name; bytes = take f.length bytes }) (cut_files fs (drop f.length bytes))
    ∙ ap (λ (l : List ℕ). take f.length bytes ++ l) rest ∙ sym (ap (λ (n : ℕ). take n bytes) both ∙ take-add f.length (entries_length fs) bytes)

entry_of_cut : (l : LoadEntry) (bytes : List ℕ) → entries_length l.files ≤ length bytes → entry_of (cut_load l bytes) ≡ l
entry_of_cut l bytes enough = ap (λ (fs : List ManifestFile). make l.part l.type_id fs) (cut_files_entries l.files bytes enough)
  where
    make : List ℕ → Option ℕ → List ManifestFile → LoadEntry
    make part type_id files = record { part = part; type_id = type_id; files = files }

pub cut_entries : (ls : List LoadEntry) (bytes : List ℕ) → total_length ls ≤ length bytes → entries_of (cut ls bytes) ≡ ls
cut_entries [] bytes enough = refl
cut_entries (l ∷ ls) bytes enough =
    let both = total_length-cons l ls in
    ap₂ (λ (e : LoadEntry) (es : List LoadEntry). e ∷ es) (entry_of_cut l bytes (omega (arith, both, enough)))
    (cut_entries ls (drop (entries_length l.files) bytes) (omega (arith, length-drop (entries_length l.files) bytes, both, enough)))

cut_prefix : (ls : List LoadEntry) (bytes : List ℕ) → total_length ls ≤ length bytes → contents_of_loads (cut ls bytes) ≡ take (total_length ls) bytes
cut_prefix [] bytes enough = refl
cut_prefix (l ∷ ls) bytes enough =
    let both = total_length-cons l ls in
    let first = cut_files_bytes l.files bytes (omega (arith, both, enough)) in
    let rest = cut_prefix ls (drop (entries_length l.files) bytes) (omega (arith, length-drop (entries_length l.files) bytes, both, enough)) in
    contents_of_loads-cons (cut_load l bytes) (cut ls (drop (entries_length l.files) bytes)) ∙ ap₂ (λ (a : List ℕ) (b : List ℕ). a ++ b) first rest
    ∙ sym (take-add (entries_length l.files) (total_length ls) bytes) ∙ ap (λ (n : ℕ). take n bytes) (sym both)

pub cut_contents : (ls : List LoadEntry) (bytes : List ℕ) → total_length ls ≡ length bytes → contents_of_loads (cut ls bytes) ≡ bytes
cut_contents ls bytes exact = cut_prefix ls bytes (omega (arith, exact)) ∙ ap (λ (n : ℕ). take n bytes) exact ∙ take-length bytes

pub cut_headers : (ls : List LoadEntry) (bytes : List ℕ) → HeadersAreFirst (cut ls bytes)
cut_headers [] bytes = All-nil (λ (l : LoadView). HeaderIsFirst l)
cut_headers (l ∷ ls) bytes =
    All-cons (λ (v : LoadView). HeaderIsFirst v) (cut_load l bytes) (cut ls (drop (entries_length l.files) bytes)) refl (cut_headers ls (drop (entries_length l.files) bytes))

-- ---- and nothing else has them

file_again : (f : FileView) (fs : List FileView) → bytes_of (f ∷ fs) ≡ f.bytes ++ bytes_of fs
file_again f fs = flat_map-cons (λ (g : FileView). g.bytes) f fs

size_of_files : (fs : List FileView) → entries_length (map file_entry_of fs) ≡ length (bytes_of fs)
size_of_files [] = refl
size_of_files (f ∷ fs) =
    entries_length-cons (file_entry_of f) (map file_entry_of fs) ∙ ap (λ (n : ℕ). length f.bytes + n) (size_of_files fs) ∙ sym (ap length (file_again f fs) ∙ length-append f.bytes (bytes_of fs))

pub total_of_entries : (loads : List LoadView) → total_length (entries_of loads) ≡ length (contents_of_loads loads)
total_of_entries [] = refl
total_of_entries (l ∷ ls) =
    total_length-cons (entry_of l) (entries_of ls) ∙ ap₂ (λ (a : ℕ) (b : ℕ). a + b) (size_of_files l.files) (total_of_entries ls)
    ∙ sym (ap length (contents_of_loads-cons l ls) ∙ length-append (bytes_of l.files) (contents_of_loads ls))

files_again : (fs : List FileView) (rest : List ℕ) → cut_files (map file_entry_of fs) (bytes_of fs ++ rest) ≡ fs
files_again [] rest = refl
files_again (f ∷ fs) rest =
    let parts : bytes_of (f ∷ fs) ++ rest ≡ f.bytes ++ (bytes_of fs ++ rest) = ap (λ (l : List ℕ). l ++ rest) (file_again f fs) ∙ append_assoc f.bytes (bytes_of fs) rest in
    let first : take (length f.bytes) (bytes_of (f ∷ fs) ++ rest) ≡ f.bytes = ap (take (length f.bytes)) parts ∙ take_at f.bytes (bytes_of fs ++ rest) (length f.bytes) refl in
    let rest_is : drop (length f.bytes) (bytes_of (f ∷ fs) ++ rest) ≡ bytes_of fs ++ rest = ap (drop (length f.bytes)) parts ∙ drop_at f.bytes (bytes_of fs ++ rest) (length f.bytes) refl in
    ap₂ (λ (b : List ℕ) (v : List FileView). make f.name b ∷ v) first (ap (λ (l : List ℕ). cut_files (map file_entry_of fs) l) rest_is ∙ files_again fs rest)
  where
    make : List ℕ → List ℕ → FileView
    make name bytes = record { name = name; bytes = bytes }

load_again : (l : LoadView) (rest : List ℕ) → HeaderIsFirst l → cut_load (entry_of l) (bytes_of l.files ++ rest) ≡ l
load_again l rest header =
    let files = files_again l.files rest in
    ap₂ (λ (h : List ℕ) (fs : List FileView). make l.part l.type_id h fs) (ap (λ (fs : List FileView). first_name fs) files ∙ sym header) files
  where
    make : List ℕ → Option ℕ → List ℕ → List FileView → LoadView
    make part type_id header files = record { part = part; type_id = type_id; header_name = header; files = files }

pub again : (loads : List LoadView) → HeadersAreFirst loads → cut (entries_of loads) (contents_of_loads loads) ≡ loads
again [] headers = refl
again (l ∷ ls) headers =
    let parts = contents_of_loads-cons l ls in
    let size = size_of_files l.files in
    let first = ap (λ (b : List ℕ). cut_load (entry_of l) b) parts ∙ load_again l (contents_of_loads ls) (All-head (λ (v : LoadView). HeaderIsFirst v) l ls headers) in
    let rest_is : drop (entries_length (map file_entry_of l.files)) (contents_of_loads (l ∷ ls)) ≡ contents_of_loads ls =
    ap (drop (entries_length (map file_entry_of l.files))) parts ∙ drop_at (bytes_of l.files) (contents_of_loads ls) (entries_length (map file_entry_of l.files)) (sym size) in
    ap₂ (λ (v : LoadView) (vs : List LoadView). v ∷ vs) first
    (ap (λ (b : List ℕ). cut (entries_of ls) b) rest_is ∙ again ls (All-tail (λ (v : LoadView). HeaderIsFirst v) l ls headers))
