-- Loads that were read so far, and one more.
use Rattle.std.proofs.Common.{◌≡◌, ℕ, ◌+◌, ◌<◌, ◌≤◌, List, [], ◌∷◌, ◌++◌, length, take, drop, get_or, sym, ap, ap₂, subst, ◌∙◌, arith}
use Rattle.std.specs.Prelude.{map}
use Rattle.std.specs.List.{All, flat_map}
use Rattle.std.proofs.lemmas.List.{append-nil, map-append, map_more, map_push, take-append-drop, length-map, get_or-map}
use Rattle.std.proofs.lemmas.List.Elements.{All-nil, All-push, All-get_or}
use Rattle.std.proofs.lemmas.List.Sums.{sum_by-append}
use Rattle.std.proofs.lemmas.List.Concat.{flat_map-append, flat_map-cons}
use Rattle.load_base.specs.Config.{FileView, LoadView, load_view}
use Rattle.load_base.specs.declared.config.Load.{Load}
use Rattle.disk_model.specs.Image.{Image, range}
use Rattle.disk_layout.specs.Manifest.{LoadEntry, entry_view, entries_length, total_length}
use Rattle.disk_layout.specs.Contents.{entry_of, entries_of, bytes_of, contents_of_loads, HeaderIsFirst, HeadersAreFirst}
use Rattle.disk_layout.specs.declared.manifest.ManifestFile.{ManifestFile}
use Rattle.disk_layout.specs.declared.manifest.ManifestLoad.{ManifestLoad}
use Rattle.recovery.specs.Parts.{HasAFile}
use Rattle.disk_layout.proofs.RangeLemmas.{ranges_joined}

-- ---- lengths

pub total_joined : (ls ms : List LoadEntry) → total_length (ls ++ ms) ≡ total_length ls + total_length ms
total_joined ls ms =
    ap entries_length (flat_map-append (λ (l : LoadEntry). l.files) ls ms)
    ∙ sum_by-append (λ (f : ManifestFile). f.length) (flat_map (λ (l : LoadEntry). l.files) ls) (flat_map (λ (l : LoadEntry). l.files) ms)

pub total_of_one : (l : LoadEntry) → total_length (l ∷ []) ≡ entries_length l.files
total_of_one l = ap entries_length (flat_map-cons (λ (e : LoadEntry). e.files) l [] ∙ append-nil l.files)

pub total_more : (entries : List ManifestLoad) (i : ℕ) (e : ManifestLoad) → i < length entries → e ≡ get_or entries i e
    → total_length (map entry_view (take (i + 1) entries)) ≡ total_length (map entry_view (take i entries)) + entries_length e.files.items
total_more entries i e within is =
    ap total_length (map_more entry_view entries i e within) ∙ total_joined (map entry_view (take i entries)) (entry_view (get_or entries i e) ∷ [])
    ∙ ap (λ (n : ℕ). total_length (map entry_view (take i entries)) + n)
    (total_of_one (entry_view (get_or entries i e)) ∙ ap (λ (l : ManifestLoad). entries_length l.files.items) (sym is))

-- those of the first loads are no more than those of all
pub total_within : (entries : List ManifestLoad) (n : ℕ) → total_length (map entry_view (take n entries)) ≤ total_length (map entry_view entries)
total_within entries n =
    let parts : map entry_view entries ≡ map entry_view (take n entries) ++ map entry_view (drop n entries) =
    ap (map entry_view) (sym (take-append-drop n entries)) ∙ map-append entry_view (take n entries) (drop n entries) in
    omega (arith, ap total_length parts ∙ total_joined (map entry_view (take n entries)) (map entry_view (drop n entries)))

-- ---- loads

pub load_entries_more : (loads more : List Load) (load : Load) (entries : List ManifestLoad) (i : ℕ) (e : ManifestLoad) → i < length entries → e ≡ get_or entries i e
    → more ≡ loads ++ load ∷ [] → entry_of (load_view load) ≡ entry_view e → entries_of (map load_view loads) ≡ map entry_view (take i entries)
    → entries_of (map load_view more) ≡ map entry_view (take (i + 1) entries)
load_entries_more loads more load entries i e within is pushed entry so_far =
    ap (λ (l : List Load). entries_of (map load_view l)) pushed ∙ ap entries_of (map_push load_view loads load)
    ∙ map_push entry_of (map load_view loads) (load_view load)
    ∙ ap₂ (λ (l : List LoadEntry) (x : LoadEntry). l ++ x ∷ []) so_far (entry ∙ ap entry_view is) ∙ sym (map_more entry_view entries i e within)

pub contents_with : (loads : List LoadView) (load : LoadView) → contents_of_loads (loads ++ load ∷ []) ≡ contents_of_loads loads ++ bytes_of load.files
contents_with loads load =
    ap bytes_of (flat_map-append (λ (l : LoadView). l.files) loads (load ∷ []))
    ∙ flat_map-append (λ (f : FileView). f.bytes) (flat_map (λ (l : LoadView). l.files) loads) (flat_map (λ (l : LoadView). l.files) (load ∷ []))
    ∙ ap (λ (fs : List FileView). contents_of_loads loads ++ bytes_of fs) (flat_map-cons (λ (l : LoadView). l.files) load [] ∙ append-nil load.files)

pub contents_more : (image : Image) (start at size n : ℕ) (loads more : List Load) (load : Load) → at ≡ start + size → more ≡ loads ++ load ∷ []
    → contents_of_loads (map load_view loads) ≡ range image start size → bytes_of (load_view load).files ≡ range image at n
    → contents_of_loads (map load_view more) ≡ range image start (size + n)
contents_more image start at size n loads more load follows pushed so_far now =
    ap (λ (l : List Load). contents_of_loads (map load_view l)) pushed ∙ ap contents_of_loads (map_push load_view loads load) ∙ contents_with (map load_view loads) (load_view load)
    ∙ ap₂ (λ (a : List ℕ) (b : List ℕ). a ++ b) so_far now ∙ ranges_joined image start size at n follows

pub headers_more : (loads more : List Load) (load : Load) → more ≡ loads ++ load ∷ [] → HeadersAreFirst (map load_view loads) → HeaderIsFirst (load_view load)
    → HeadersAreFirst (map load_view more)
headers_more loads more load pushed so_far now =
    subst (λ (l : List LoadView). HeadersAreFirst l) (sym (ap (map load_view) pushed ∙ map_push load_view loads load))
    (All-push (λ (l : LoadView). HeaderIsFirst l) (map load_view loads) (load_view load) so_far now)

-- before the first load
pub nothing_listed : (image : Image) (start : ℕ) (loads : List Load) → loads ≡ [] → contents_of_loads (map load_view loads) ≡ range image start 0
unfolding range
nothing_listed image start loads none = ap (λ (l : List Load). contents_of_loads (map load_view l)) none

pub no_headers : (loads : List Load) → loads ≡ [] → HeadersAreFirst (map load_view loads)
no_headers loads none = subst (λ (l : List Load). HeadersAreFirst (map load_view l)) (sym none) (All-nil (λ (l : LoadView). HeaderIsFirst l))

-- what holds of all loads holds of each
pub has_files : (entries : List ManifestLoad) (i : ℕ) (e : ManifestLoad) → i < length entries → e ≡ get_or entries i e
    → All (λ (x : LoadEntry). HasAFile x) (map entry_view entries) → HasAFile (entry_view e)
has_files entries i e within is all =
    let here : i < length (map entry_view entries) = omega (arith, within, length-map entries entry_view) in
    let each : HasAFile (get_or (map entry_view entries) i (entry_view e)) = All-get_or (λ (x : LoadEntry). HasAFile x) (map entry_view entries) i (entry_view e) here all in
    subst (λ (x : LoadEntry). HasAFile x) (get_or-map entry_view entries i e (entry_view e) within ∙ ap entry_view (sym is)) each

pub total_with : (ls : List LoadEntry) (l : LoadEntry) → total_length (ls ++ l ∷ []) ≡ total_length ls + entries_length l.files
total_with ls l = total_joined ls (l ∷ []) ∙ ap (λ (n : ℕ). total_length ls + n) (total_of_one l)
