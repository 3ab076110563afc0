-- Laws of what a store knows.
use Rattle.std.proofs.Common.{◌≡◌, ◌≢◌, ◌⊎◌, inl, inr, ℕ, ◌+◌, ◌≤◌, List, [], ◌∷◌, ◌++◌, length, None, refl, sym, ◌∙◌, ap, ap₂, subst, arith, length-append}
use Rattle.std.specs.List.{concat, flat_map}
use Rattle.std.proofs.lemmas.List.{append_cancel_left}
use Rattle.std.proofs.lemmas.List.Elements.{All-head, All-nil, All-tail}
use Rattle.field_grammar.specs.Fields.{number_fields}
use Rattle.disk_model.specs.Image.{Image}
use Rattle.disk_layout.specs.Contents.{entries_of}
use Rattle.disk_layout.specs.Holds.{StandingView}
use Rattle.disk_layout.proofs.ManifestSpelling.{manifest_spelling}
use Rattle.disk_layout.specs.Entries.{SaysLoads, entry_bytes, typed_loads}
use Rattle.disk_layout.proofs.EntriesLemmas.{all_are_typed, entry_bytes_first, files_within, none_is_typed, one_load_there, one_type_tells}
use Rattle.disk_layout.specs.Manifest.{FitsALayout, LoadEntry, LoadFits, ManifestFits, file_entry_fields, load_entry_fields, type_fields}
use Rattle.disk_layout.specs.declared.manifest.Layout.{Layout}
use Rattle.disk_layout.specs.declared.manifest.Layout.TheVariants as layouts
use Rattle.bank_store.specs.Fits.{HoldsFor}
use Rattle.bank_store.specs.Known.{KnowsActive}
use Rattle.bank_store.specs.Store.{IsKeptLoad, SameActive, known_of}
use Rattle.bank_store.specs.declared.store.Store.{Store}

-- ---- bytes and the loads that they say

-- an entry isn't empty, since it begins with a part number
pub entry_has_bytes : (load : LoadEntry) → LoadFits layouts.Two load → 1 ≤ length (concat (load_entry_fields layouts.Two load))
entry_has_bytes load fits =
    let rest : List (List ℕ) = type_fields layouts.Two load.type_id ++ (number_fields 2 (length load.files) ++ flat_map file_entry_fields load.files) in
    omega (arith, fits.part.size, length-append load.part (concat rest))

fewer : (load : LoadEntry) (loads : List LoadEntry) → ManifestFits layouts.Two (load ∷ loads) → ManifestFits layouts.Two loads
fewer load loads fits = record { count = omega (arith, fits.count); each = All-tail (λ (l : LoadEntry). LoadFits layouts.Two l) load loads fits.each }

nothing_said : (bytes : List ℕ) (load : LoadEntry) (loads : List LoadEntry) → SaysLoads bytes (load ∷ loads) → length bytes ≡ 0 → ⊥
nothing_said bytes load loads says none =
    let some = entry_has_bytes load (All-head (λ (l : LoadEntry). LoadFits layouts.Two l) load loads says.fits.each) in
    omega (arith, some, none, ap length (says.are ∙ entry_bytes_first load loads), length-append (concat (load_entry_fields layouts.Two load)) (entry_bytes loads))

-- bytes say one list of loads
pub says_one : (bytes : List ℕ) (xs ys : List LoadEntry) → SaysLoads bytes xs → SaysLoads bytes ys → xs ≡ ys
says_one bytes [] [] a b = refl
says_one bytes [] (y ∷ ys) a b = absurd (nothing_said bytes y ys b (ap length a.are))
says_one bytes (x ∷ xs) [] a b = absurd (nothing_said bytes x xs a (ap length b.are))
says_one bytes (x ∷ xs) (y ∷ ys) a b =
    let same : x ≡ y = (one_load_there bytes [] xs [] ys x y a b refl).1 in
    let joined : concat (load_entry_fields layouts.Two y) ++ entry_bytes xs ≡ concat (load_entry_fields layouts.Two y) ++ entry_bytes ys =
    ap (λ (l : LoadEntry). concat (load_entry_fields layouts.Two l) ++ entry_bytes xs) (sym same) ∙ sym (entry_bytes_first x xs) ∙ sym a.are ∙ b.are ∙ entry_bytes_first y ys in
    let rest : entry_bytes xs ≡ entry_bytes ys = append_cancel_left (concat (load_entry_fields layouts.Two y)) (entry_bytes xs) (entry_bytes ys) joined in
    ap₂ (λ (l : LoadEntry) (ls : List LoadEntry). l ∷ ls) same
    (says_one (entry_bytes xs) xs ys (record { fits = fewer x xs a.fits; are = refl }) (record { fits = fewer y ys b.fits; are = rest }))

-- those that have a type id fit layout 2
pub typed_fit : (loads : List LoadEntry) → FitsALayout loads → ManifestFits layouts.Two (typed_loads loads)
typed_fit loads found = by_layout found.layout found.fits
  where
    by_layout : (layout : Layout) → ManifestFits layout loads → ManifestFits layouts.Two (typed_loads loads)
    by_layout layouts.One fits =
        subst (λ (l : List LoadEntry). ManifestFits layouts.Two l) (sym (none_is_typed loads fits.each)) (record { count = omega arith; each = All-nil (λ (l : LoadEntry). LoadFits layouts.Two l) })
    by_layout layouts.Two fits = subst (λ (l : List LoadEntry). ManifestFits layouts.Two l) (sym (all_are_typed loads fits.each)) fits

-- ---- what a store knows

-- it says one list of loads with type ids
pub knows_one : (store : Store) (one other : List LoadEntry) → KnowsActive store one → KnowsActive store other → typed_loads one ≡ typed_loads other
knows_one store one other a b =
    says_one (known_of store) (typed_loads one) (typed_loads other) (record { fits = typed_fit one a.fits; are = a.known }) (record { fits = typed_fit other b.fits; are = b.known })

-- a load with a type id can be kept
pub can_keep : (store : Store) (before behind : List LoadEntry) (load : LoadEntry) (number : ℕ) → length before + 1 ≡ number → KnowsActive store (before ++ load ∷ behind) → load.type_id ≢ None
    → (is : IsKeptLoad store number) × (is.kept ≡ load)
can_keep store before behind load number at knows typed =
    let fits : ManifestFits layouts.Two (before ++ load ∷ behind) = one_type_tells before behind load knows.fits typed in (
      record {
        before = before;
        kept = load;
        behind = behind;
        says = record { fits = fits; are = knows.known ∙ ap entry_bytes (all_are_typed (before ++ load ∷ behind) fits.each) };
        is_at = at;
        within = omega (arith, files_within before behind load, knows.within);
      },
      refl,
    )

-- as long as the same is active
pub knows_on : (old new : Store) (loads : List LoadEntry) → SameActive old new → KnowsActive old loads → KnowsActive new loads
knows_on old new loads same knows = record { fits = knows.fits; known = same.known ∙ knows.known; within = omega (arith, same.size, knows.within) }

-- of each number it has one
pub kept_one : (store : Store) (number : ℕ) (one other : IsKeptLoad store number) → one.kept ≡ other.kept
kept_one store number one other =
    (one_load_there (known_of store) one.before one.behind other.before other.behind one.kept other.kept one.says other.says (omega (arith, one.is_at, other.is_at))).1

-- a store knows the loads of the configuration that the image holds
pub knows_standing : (store : Store) (image : Image) (s : StandingView) → HoldsFor store image s → KnowsActive store (entries_of s.loads)
knows_standing store image s was =
    let text = (manifest_spelling _ (entries_of s.loads)).0 was.by.outline.manifest in
    record {
      fits = record { layout = text.0; fits = text.1 };
      known = was.known;
      within = omega (arith, was.by.outline.lengths, was.by.outline.can_be.within, was.size);
    }

-- loads with the same ones that have a type id are the same, or none has one
pub same_or_untyped : (one other : List LoadEntry) → FitsALayout one → FitsALayout other → typed_loads one ≡ typed_loads other → (one ≡ other) ⊎ ((typed_loads one ≡ []) × (typed_loads other ≡ []))
same_or_untyped one other a b same = by_layouts a.layout b.layout a.fits b.fits
  where
    by_layouts : (p q : Layout) → ManifestFits p one → ManifestFits q other → (one ≡ other) ⊎ ((typed_loads one ≡ []) × (typed_loads other ≡ []))
    by_layouts layouts.One q fits more = let none = none_is_typed one fits.each in inr (none, sym same ∙ none)
    by_layouts layouts.Two layouts.One fits more = let none = none_is_typed other more.each in inr (same ∙ none, none)
    by_layouts layouts.Two layouts.Two fits more = inl (sym (all_are_typed one fits.each) ∙ same ∙ all_are_typed other more.each)
