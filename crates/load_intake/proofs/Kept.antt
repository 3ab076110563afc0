-- Which active loads are kept, load by load.
use Rattle.std.proofs.Common.{◌≡◌, ℕ, ◌+◌, ◌<◌, ◌≤◌, List, [], ◌∷◌, ◌++◌, length, take, get_or, cond, Bool, true, false, ◌==◌, ◌||◌, ◌&&◌, not, Option, Some, None, refl, sym, ap, ◌∙◌, arith, append-nil, length-append}
use Rattle.std.specs.List.{list_any, sum_by}
use Rattle.std.proofs.lemmas.Grind.{common_steps}
use Rattle.std.proofs.lemmas.List.{get_or-map, length-map, map-append, take_more}
use Rattle.std.proofs.lemmas.List.Concat.{flat_map-append}
use Rattle.std.proofs.lemmas.List.Elements.{All-get_or, filter-append}
use Rattle.std.proofs.lemmas.List.Folds.{list_any-append}
use Rattle.std.proofs.lemmas.List.Sums.{sum_by-append, sum_by-cons}
use Rattle.accept_rules.specs.declared.kept.KeptLoad.{KeptLoad}
use Rattle.disk_layout.specs.declared.manifest.ManifestLoad.{ManifestLoad}
use Rattle.disk_layout.specs.Manifest.{FitsALayout, LoadEntry, LoadFits, entry_view}
use Rattle.session_rules.specs.KeptLoads.{has_other_type, kept_entries, said_type, told_load, told_loads, types_of}
use Rattle.accept_rules.specs.Permissions.{Accepts}
use Rattle.disk_layout.specs.declared.identity.Identity.{Identity}
use Rattle.load_header.specs.Header.{HeaderView}
use Rattle.load_protocol_files.specs.declared.lur.Wanted.{Wanted}
use Rattle.session_rules.specs.declared.reason.Reason.{Reason}
use Rattle.session_rules.specs.Uploads.{is_last}
use Rattle.load_intake.specs.Judging.{PassesStoreTests, loads_known, need_known, refused_for}
use Rattle.load_intake.specs.Keeping.{entries, kept_with, listed_need, listed_needs, says_type}
use Rattle.load_intake.specs.States.{WholeView, upload_of}

-- ---- types

any_one : (id : ℕ) (t : Option ℕ) (rest : List ℕ) → list_any (λ one. one == id) (said_type t ++ rest) ≡ (says_type id t || list_any (λ one. one == id) rest)
any_one id None rest = refl
any_one id (Some one) rest = refl

-- one of the loads has a type id where it is one of theirs
pub any_type : (id : ℕ) (loads : List ManifestLoad) → list_any (λ (load : ManifestLoad). says_type id load.type_id) loads ≡ list_any (λ one. one == id) (types_of (entries loads))
any_type id [] = refl
any_type id (m ∷ ms) = ap (λ (b : Bool). says_type id m.type_id || b) (any_type id ms) ∙ sym (any_one id m.type_id (types_of (entries ms)))

neither : (a b : Bool) → not (a || (b || false)) ≡ (not a && not b)
neither true true = refl
neither true false = refl
neither false true = refl
neither false false = refl

either_way : (a b : ℕ) → (a == b) ≡ (b == a)
either_way a b = grind (arith, common_steps)

-- a load has another type than these and one more
pub other_one : (types : List ℕ) (id : ℕ) (t : Option ℕ) → has_other_type (types ++ id ∷ []) t ≡ (has_other_type types t && not (says_type id t))
other_one types id None = refl
other_one types id (Some one) =
    ap not (list_any-append (λ n. n == one) types (id ∷ [])) ∙ (neither (list_any (λ n. n == one) types) (id == one)
    ∙ ap (λ (b : Bool). not (list_any (λ n. n == one) types) && not b) (either_way id one))

-- ---- load by load

pub kept_join : (types : List ℕ) (xs ys : List LoadEntry) → kept_entries types (xs ++ ys) ≡ kept_entries types xs ++ kept_entries types ys
kept_join types xs ys = filter-append (λ (l : LoadEntry). has_other_type types l.type_id) xs ys

pub told_join : (xs ys : List LoadEntry) → told_loads (xs ++ ys) ≡ told_loads xs ++ told_loads ys
told_join xs ys = flat_map-append told_load xs ys

pub kept_first : (types : List ℕ) (x : LoadEntry) (xs : List LoadEntry) → kept_entries types (x ∷ xs) ≡ kept_entries types (x ∷ []) ++ kept_entries types xs
kept_first types x xs = kept_join types (x ∷ []) xs

-- the loads before one, and that one
pub kept_push : (types : List ℕ) (rest : List ManifestLoad) (load : ManifestLoad) → has_other_type types load.type_id ≡ true → kept_entries types (entries (rest ++ load ∷ [])) ≡ kept_entries types (entries rest) ++ entry_view load ∷ []
kept_push types rest load is =
    ap (λ (xs : List LoadEntry). kept_entries types xs) (map-append entry_view rest (load ∷ []))
    ∙ (kept_join types (entries rest) (entry_view load ∷ []) ∙ ap (λ (b : Bool). kept_entries types (entries rest) ++ cond b (entry_view load ∷ []) []) is)

pub kept_pass : (types : List ℕ) (rest : List ManifestLoad) (load : ManifestLoad) → has_other_type types load.type_id ≡ false → kept_entries types (entries (rest ++ load ∷ [])) ≡ kept_entries types (entries rest)
kept_pass types rest load is =
    ap (λ (xs : List LoadEntry). kept_entries types xs) (map-append entry_view rest (load ∷ []))
    ∙ (kept_join types (entries rest) (entry_view load ∷ [])
    ∙ (ap (λ (b : Bool). kept_entries types (entries rest) ++ cond b (entry_view load ∷ []) []) is ∙ append-nil (kept_entries types (entries rest))))

-- how many bytes they need
pub needs_by_one : (active new : List ManifestLoad) (type_id : ℕ) → sum_by (λ (load : ManifestLoad). listed_needs (kept_with (entry_view load ∷ []) (entries new) type_id)) active ≡ listed_needs (kept_with (entries active) (entries new) type_id)
needs_by_one [] new type_id = refl
needs_by_one (m ∷ ms) new type_id =
    sum_by-cons (λ (load : ManifestLoad). listed_needs (kept_with (entry_view load ∷ []) (entries new) type_id)) m ms
    ∙ (ap (λ (n : ℕ). listed_needs (kept_with (entry_view m ∷ []) (entries new) type_id) + n) (needs_by_one ms new type_id)
    ∙ (sym (sum_by-append listed_need (kept_with (entry_view m ∷ []) (entries new) type_id) (kept_with (entries ms) (entries new) type_id))
    ∙ sym (ap listed_needs (kept_first (types_of (entries new) ++ type_id ∷ []) (entry_view m) (entries ms)))))

-- each of the active loads has so many files at most
pub few_files : (active : List ManifestLoad) (i : ℕ) (d load : ManifestLoad) → FitsALayout (entries active) → i < length active → load ≡ get_or active i d → length load.files.items ≤ 256
few_files active i d load fits within is =
    let there : i < length (entries active) = omega (arith, within, length-map active entry_view) in
    let fit : LoadFits fits.layout (get_or (entries active) i (entry_view d)) = All-get_or (λ (l : LoadEntry). LoadFits fits.layout l) (entries active) i (entry_view d) there fits.fits.each in
    let same : length (get_or (entries active) i (entry_view d)).files ≡ length load.files.items =
    ap (λ (l : LoadEntry). length l.files) (get_or-map entry_view active i d (entry_view d) within) ∙ ap (λ (l : ManifestLoad). length l.files.items) (sym is) in
    omega (arith, fit.count, same)

-- the first loads and one more
pub told_more : (active new : List ManifestLoad) (type_id i : ℕ) (d : ManifestLoad) → i < length active
    → told_loads (kept_with (entries (take (i + 1) active)) (entries new) type_id) ≡ told_loads (kept_with (entries (take i active)) (entries new) type_id) ++ told_loads (kept_with (entry_view (get_or active i d) ∷ []) (entries new) type_id)
told_more active new type_id i d within =
    let types = types_of (entries new) ++ type_id ∷ [] in
    ap (λ (xs : List ManifestLoad). told_loads (kept_entries types (entries xs))) (take_more active i d within)
    ∙ (ap (λ (xs : List LoadEntry). told_loads (kept_entries types xs)) (map-append entry_view (take i active) (get_or active i d ∷ []))
    ∙ (ap told_loads (kept_join types (entries (take i active)) (entry_view (get_or active i d) ∷ []))
    ∙ told_join (kept_entries types (entries (take i active))) (kept_entries types (entry_view (get_or active i d) ∷ []))))

-- each load that is kept is told
told_if : (types : List ℕ) (t : Option ℕ) (x : LoadEntry) → x.type_id ≡ t → length (told_loads (cond (has_other_type types t) (x ∷ []) [])) ≡ length (cond (has_other_type types t) (x ∷ []) [])
told_if types None x is = refl
told_if types (Some id) x is = by_test (has_other_type types (Some id))
  where
    by_test : (b : Bool) → length (told_loads (cond b (x ∷ []) [])) ≡ length (cond b (x ∷ []) [])
    by_test true = rw is refl
    by_test false = refl

pub told_length : (types : List ℕ) (xs : List LoadEntry) → length (told_loads (kept_entries types xs)) ≡ length (kept_entries types xs)
told_length types [] = refl
told_length types (x ∷ xs) =
    let one = kept_entries types (x ∷ []) in
    let rest = kept_entries types xs in
    ap (λ (ls : List LoadEntry). length (told_loads ls)) (kept_first types x xs)
    ∙ (ap (λ (ls : List KeptLoad). length ls) (told_join one rest)
    ∙ omega (arith, length-append (told_loads one) (told_loads rest), length-append one rest, told_if types x.type_id x refl, told_length types xs, ap (λ (ls : List LoadEntry). length ls) (kept_first types x xs)))

-- ---- at the last header, and before it

pub counted_last : (active : List LoadEntry) (w : WholeView) (h : HeaderView) (kept count : ℕ) → is_last (upload_of w None) ≡ true → kept ≡ length (kept_with active w.loads h.type_id) → count ≡ length w.request + kept → count ≡ loads_known active w h
counted_last active w h kept count last many is = rw last (omega (arith, many, is))

pub counted_before : (active : List LoadEntry) (w : WholeView) (h : HeaderView) (count : ℕ) → is_last (upload_of w None) ≡ false → count ≡ length w.request → count ≡ loads_known active w h
counted_before active w h count last is = rw last (omega (arith, is))

pub needed_last : (active : List LoadEntry) (w : WholeView) (h : HeaderView) (need more : ℕ) → is_last (upload_of w None) ≡ true → more ≡ listed_needs (kept_with active w.loads h.type_id) → need + more ≡ need_known active w h need
needed_last active w h need more last is = rw last (omega (arith, is))

pub needed_before : (active : List LoadEntry) (w : WholeView) (h : HeaderView) (need : ℕ) → is_last (upload_of w None) ≡ false → need + 0 ≡ need_known active w h need
needed_before active w h need last = rw last (omega arith)

-- ---- the tests with other words for the same

pub same_refusal : (accepts : Accepts) (id : Identity) (wanted : Wanted) (h : HeaderView) (told one : List KeptLoad) (loads count need all : ℕ) (found : Option Reason) → told ≡ one → loads ≡ count → need ≡ all
    → found ≡ refused_for accepts id wanted h told loads need → found ≡ refused_for accepts id wanted h one count all
same_refusal accepts id wanted h told one loads count need all found t l n is = is ∙ rw (t, l, n) refl

pub same_passes : (id : Identity) (wanted : Wanted) (h : HeaderView) (loads count need all : ℕ) → loads ≡ count → need ≡ all → PassesStoreTests id wanted h loads need → PassesStoreTests id wanted h count all
same_passes id wanted h loads count need all l n passes = record { part = passes.part; few = omega (arith, l, passes.few); fits = omega (arith, n, passes.fits) }
