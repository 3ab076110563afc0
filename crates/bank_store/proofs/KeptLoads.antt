-- A load of the active configuration that is given once more.
use Rattle.std.proofs.Common.{◌≡◌, ◌↔◌, inl, ℕ, suc, ◌+◌, ◌-◌, ◌<◌, ◌≤◌, List, [], ◌∷◌, ◌++◌, length, map, take, drop, Err, refl, sym, ◌∙◌, ap, ap₂, subst, arith, length-append}
use Rattle.std.specs.Prelude.{IsErrOf}
use Rattle.std.specs.List.{All, concat, flat_map}
use Rattle.std.proofs.lemmas.Grind.{flat_map-append}
use Rattle.std.proofs.lemmas.List.{append-nil, drop_at, length-map, map-append, nil_from_length, take_at}
use Rattle.std.proofs.lemmas.List.Elements.{All-nil, All-cons, All-head, All-tail, All-push}
use Rattle.std.proofs.lemmas.List.Sums.{sum_by-append}
use Rattle.load_base.specs.Config.{FileView, LoadView}
use Rattle.disk_model.specs.Image.{Image, overlay, range}
use Rattle.disk_model.proofs.OverlayLemmas.{range_beside_overlay, range_of_overlay}
use Rattle.disk_model.proofs.RangeLemmas.{drop_range, length_range, take_range}
use Rattle.disk_layout.specs.Contents.{bytes_of, contents_of_loads, entries_of, entry_of, file_entry_of}
use Rattle.disk_layout.specs.Entries.{SaysLoads, StandsAfter, entry_bytes}
use Rattle.disk_layout.proofs.EntriesLemmas.{all_are_typed, entry_bytes_first, entry_is_short, entry_is_there, entry_within, load_fits, none_is_typed}
use Rattle.disk_layout.specs.Holds.{StandingView}
use Rattle.disk_layout.specs.Manifest.{FileFits, LoadEntry, LoadFits, ManifestFits, entries_length, load_entry_fields, total_length}
use Rattle.disk_layout.proofs.ManifestSpelling.{manifest_spelling}
use Rattle.disk_layout.specs.Offsets.{bank_at, most_loads}
use Rattle.disk_layout.proofs.RangeLemmas.{ranges_joined}
use Rattle.disk_layout.specs.declared.entries.LoadPlace.{LoadPlace}
use Rattle.disk_layout.specs.declared.manifest.Layout.{Layout}
use Rattle.disk_layout.specs.declared.manifest.Layout.TheVariants as layouts
use Rattle.disk_layout.specs.declared.manifest.ManifestFile.{ManifestFile}
use Rattle.bank_store.specs.Bounds.{longest_load}
use Rattle.bank_store.proofs.KnownLemmas.{entry_has_bytes}
use Rattle.bank_store.specs.Fits.{HoldsFor}
use Rattle.bank_store.specs.Given.{Given, GivenLoad, HasGiven, IsFile, IsLoad, Misses, bytes_given, given_fields, whole_given, with_whole}
use Rattle.bank_store.specs.Store.{IsFilling, IsKeptLoad, PassesByKept, SameActive, active_at, known_of, knows_entry, load_kept, with_piece, work_at}
use Rattle.bank_store.specs.declared.store.Store.{Store}
use Rattle.bank_store.specs.declared.fault.StoreFault.TheVariants.{BankFull}
use Rattle.bank_store.specs.declared.stage.Stage.{Stage}
use Rattle.bank_store.specs.declared.stage.Stage.TheVariants as stages
use Rattle.bank_store.specs.declared.stage.Filling.{Filling}
use Rattle.bank_store.proofs.Carried.{work_carried}
use Rattle.bank_store.proofs.Giving.{fields_more, files_of, misses_more, same_filling}
use Rattle.bank_store.proofs.Sealing.{same_load_fields, size_of_files}
use Rattle.bank_store.proofs.Written.{told_as}

-- ---- the loads that are known

-- a store that knows a load knows all of the configuration that the image holds
pub knows_all : (store : Store) (image : Image) (s : StandingView) (load : ℕ) → HoldsFor store image s → IsKeptLoad store load → SaysLoads (known_of store) (entries_of s.loads)
knows_all store image s load was is =
    let text = (manifest_spelling _ (entries_of s.loads)).0 was.by.outline.manifest in by_layout text.0 text.1
  where
    by_layout : (layout : Layout) → ManifestFits layout (entries_of s.loads) → SaysLoads (known_of store) (entries_of s.loads)
    by_layout layouts.One fits =
        let none : known_of store ≡ [] = was.known ∙ ap entry_bytes (none_is_typed (entries_of s.loads) fits.each) in
        let some = entry_has_bytes is.kept (load_fits layouts.Two is.before is.behind is.kept is.says.fits) in
        absurd (omega (arith, ap length none, some, entry_within (known_of store) is.before is.behind is.kept is.says))
    by_layout layouts.Two fits = record { fits = fits; are = was.known ∙ ap entry_bytes (all_are_typed (entries_of s.loads) fits.each) }

-- the load of the configuration that stands where one of its entries does
pub record Part (loads : List LoadView) (before : List LoadEntry) : Type 0 where
  pub front : List LoadView
  pub load : LoadView
  pub back : List LoadView
  pub are : loads ≡ front ++ load ∷ back
  pub is_at : length front ≡ length before

pub part_of : (loads : List LoadView) (before behind : List LoadEntry) (entry : LoadEntry) → before ++ entry ∷ behind ≡ entries_of loads → Part loads before
part_of [] [] behind entry is = absurd cc
part_of [] (first ∷ before) behind entry is = absurd cc
part_of (load ∷ loads) [] behind entry is = record { front = []; load = load; back = loads; are = refl; is_at = refl }
part_of (load ∷ loads) (first ∷ before) behind entry is =
    let more = part_of loads before behind entry (ap tail is) in
    record { front = load ∷ more.front; load = more.load; back = more.back; are = ap (λ (ls : List LoadView). load ∷ ls) more.are; is_at = ap (λ (n : ℕ). suc n) more.is_at }
  where
    tail : List LoadEntry → List LoadEntry
    tail [] = []
    tail (x ∷ xs) = xs

-- ---- their contents

total_is : (loads : List LoadView) → total_length (entries_of loads) ≡ length (contents_of_loads loads)
total_is [] = refl
total_is (load ∷ loads) =
    sum_by-append (λ (f : ManifestFile). f.length) (map file_entry_of load.files) (flat_map (λ (l : LoadEntry). l.files) (entries_of loads))
    ∙ ap₂ (λ (a : ℕ) (b : ℕ). a + b) (size_of_files load.files) (total_is loads)
    ∙ sym (ap length (flat_map-append (λ (f : FileView). f.bytes) load.files (flat_map (λ (l : LoadView). l.files) loads))
    ∙ length-append (bytes_of load.files) (contents_of_loads loads))

contents_parts : (front back : List LoadView) (load : LoadView) → contents_of_loads (front ++ load ∷ back) ≡ contents_of_loads front ++ (bytes_of load.files ++ contents_of_loads back)
contents_parts front back load =
    ap bytes_of (flat_map-append (λ (l : LoadView). l.files) front (load ∷ back))
    ∙ flat_map-append (λ (f : FileView). f.bytes) (flat_map (λ (l : LoadView). l.files) front) (load.files ++ flat_map (λ (l : LoadView). l.files) back)
    ∙ ap (λ (rest : List ℕ). contents_of_loads front ++ rest) (flat_map-append (λ (f : FileView). f.bytes) load.files (flat_map (λ (l : LoadView). l.files) back))

-- the middle of three parts of a range
part_of_range : (image : Image) (at n : ℕ) (a b c : List ℕ) → a ++ (b ++ c) ≡ range image at n → range image (at + length a) (length b) ≡ b
part_of_range image at n a b c is =
    let size : length a + (length b + length c) ≡ n = sym (ap (λ (m : ℕ). length a + m) (length-append b c)) ∙ sym (length-append a (b ++ c)) ∙ ap length is ∙ length_range image at n in
    sym (take_range image (at + length a) (n - length a) (length b) (omega (arith, size)))
    ∙ ap (λ (l : List ℕ). take (length b) l) (sym (drop_range image at n (length a)) ∙ ap (λ (l : List ℕ). drop (length a) l) (sym is) ∙ drop_at a (b ++ c) (length a) refl)
    ∙ take_at b c (length b) refl

-- ---- the load as it is given

files_of_entries : (files : List FileView) → All (λ (f : ManifestFile). FileFits f) (map file_entry_of files) → All (λ (f : FileView). IsFile f) files
files_of_entries [] each = All-nil (λ (f : FileView). IsFile f)
files_of_entries (file ∷ files) each =
    let fits : FileFits (file_entry_of file) = All-head (λ (f : ManifestFile). FileFits f) (file_entry_of file) (map file_entry_of files) each in
    All-cons (λ (f : FileView). IsFile f) file files (record { name = fits.name; short = fits.length })
    (files_of_entries files (All-tail (λ (f : ManifestFile). FileFits f) (file_entry_of file) (map file_entry_of files) each))

whole_fits : (load : LoadView) → LoadFits layouts.Two (entry_of load) → IsLoad (whole_given load)
whole_fits load fits =
    let size : length (map file_entry_of load.files) ≡ length load.files = length-map load.files file_entry_of in
    record { part = fits.part; type_id = fits.type_id; some = omega (arith, size, fits.some); few = omega (arith, size, fits.count); files = files_of_entries load.files fits.files }

bytes_with_whole : (load : LoadView) (g : Given) → length g.bytes ≡ 0 → bytes_given (with_whole load g) ≡ bytes_given g ++ bytes_of load.files
bytes_with_whole load g none =
    let files = flat_map files_of g.loads in
    let empty : g.bytes ≡ [] = nil_from_length g.bytes none in
    let all : bytes_of (flat_map files_of (g.loads ++ whole_given load ∷ [])) ≡ bytes_of files ++ bytes_of load.files =
    ap bytes_of (flat_map-append files_of g.loads (whole_given load ∷ []) ∙ ap (λ (l : List FileView). files ++ l) (append-nil load.files))
    ∙ flat_map-append (λ (f : FileView). f.bytes) files load.files in
    ap₂ (λ (a : List ℕ) (b : List ℕ). a ++ b) all empty ∙ append-nil (bytes_of files ++ bytes_of load.files)
    ∙ ap (λ (l : List ℕ). l ++ bytes_of load.files) (sym (append-nil (bytes_of files)) ∙ ap (λ (l : List ℕ). bytes_of files ++ l) (sym empty))

module _ (old new : Store) (image now : Image) (s : StandingView) (g : Given) (load : ℕ) (is : IsKeptLoad old load) (place : LoadPlace) (progress : Filling) (n : ℕ) (front back : List LoadView) (kept : LoadView)
    (stands : (before behind : List LoadEntry) (entry : LoadEntry) → SaysLoads (known_of old) (before ++ entry ∷ behind) → length before + 1 ≡ load → StandsAfter before entry place)
    (same : SameActive old new) (filling : IsFilling old progress) (none : progress.missing ≡ 0) (few : progress.loads < most_loads) (stage : IsFilling new (load_kept n progress)) (whole : n ≡ place.files_length)
    (body : new.body.items ≡ old.body.items ++ knows_entry old place) (copied : now ≡ overlay image (work_at old + progress.end) (range image (active_at old + place.files) n))
    (holds : HoldsFor old image s) (was : HasGiven old image g) (are : s.loads ≡ front ++ kept ∷ back) (is_at : length front + 1 ≡ load) where
  entry : LoadEntry
  entry = entry_of kept

  says : SaysLoads (known_of old) (entries_of front ++ entry_of kept ∷ entries_of back)
  says = subst (λ (l : List LoadEntry). SaysLoads (known_of old) l) (ap entries_of are ∙ map-append entry_of front (kept ∷ back)) (knows_all old image s load holds is)

  there : StandsAfter (entries_of front) (entry_of kept) place
  there = stands (entries_of front) (entries_of back) (entry_of kept) says (omega (arith, is_at, length-map front entry_of))

  fits : LoadFits layouts.Two (entry_of kept)
  fits = load_fits layouts.Two (entries_of front) (entries_of back) (entry_of kept) says.fits

  size : length (bytes_of kept.files) ≡ n
  size = sym (size_of_files kept.files) ∙ sym there.files_length ∙ sym whole

  from_is : active_at old + place.files ≡ bank_at s.identity.bank s.bank + length (contents_of_loads front)
  from_is = ap₂ (λ (b : ℕ) (f : ℕ). b + f) (ap₂ (λ (z : ℕ) (b : ℕ). bank_at z b) (sym holds.size) (sym holds.bank)) (there.files ∙ total_is front)

  contents : range image (active_at old + place.files) n ≡ bytes_of kept.files
  contents =
      ap₂ (λ (a : ℕ) (m : ℕ). range image a m) from_is (sym size)
      ∙ part_of_range image (bank_at s.identity.bank s.bank) _ (contents_of_loads front) (bytes_of kept.files) (contents_of_loads back) (sym (contents_parts front back kept) ∙ ap contents_of_loads (sym are) ∙ holds.by.contents)

  far : was.progress ≡ progress
  far = same_filling was.progress progress (sym was.stage ∙ filling)

  start : progress.start + length g.bytes ≡ progress.end
  start = ap (λ (f : Filling). f.start + length g.bytes) (sym far) ∙ was.start ∙ ap (λ (f : Filling). f.end) far

  between : progress.start ≡ progress.end
  between = (old.keeps.in_range progress filling).whole none

  bytes : bytes_given (with_whole kept g) ≡ bytes_given g ++ bytes_of kept.files
  bytes = bytes_with_whole kept g (omega (arith, start, between))

  said : knows_entry old place ≡ concat (given_fields (whole_given kept))
  said =
      ap₂ (λ (m : ℕ) (f : ℕ). take m (drop f (known_of old))) there.entry_length there.entry ∙ entry_is_there (known_of old) (entries_of front) (entries_of back) (entry_of kept) says
      ∙ ap concat (same_load_fields (whole_given kept) refl)

  is_now : now ≡ overlay image (work_at old + progress.end) (bytes_of kept.files)
  is_now = copied ∙ ap (λ (l : List ℕ). overlay image (work_at old + progress.end) l) contents

  prefix : range (overlay image (work_at old + progress.end) (bytes_of kept.files)) (work_at old) progress.end ≡ bytes_given g
  prefix =
      range_beside_overlay image (work_at old + progress.end) (bytes_of kept.files) (work_at old) progress.end (inl (omega arith))
      ∙ ap (λ (f : Filling). range image (work_at old) f.end) (sym far) ∙ was.written

  behind : range (overlay image (work_at old + progress.end) (bytes_of kept.files)) (work_at old + progress.end) n ≡ bytes_of kept.files
  behind = range_of_overlay image (work_at old + progress.end) n (bytes_of kept.files) (sym size)

  -- with all that the active configuration has of it
  pub given_kept : HasGiven new now (with_whole kept g)
  given_kept = record {
    progress = load_kept n progress;
    stage = stage;
    loads = length-append g.loads (whole_given kept ∷ []) ∙ ap (λ (m : ℕ). m + 1) (was.loads ∙ ap (λ (f : Filling). f.loads) far);
    few = omega (arith, few);
    missing = subst (λ (m : ℕ). Misses m (g.loads ++ whole_given kept ∷ [])) (sym none)
        (misses_more g.loads (whole_given kept) 0 (subst (λ (m : ℕ). Misses m g.loads) (ap (λ (f : Filling). f.missing) far ∙ none) was.missing) (omega arith));
    each = All-push (λ (l : GivenLoad). IsLoad l) g.loads (whole_given kept) was.each (whole_fits kept fits);
    body = body ∙ ap₂ (λ (a : List ℕ) (b : List ℕ). a ++ b) was.body said ∙ sym (fields_more g.loads (whole_given kept));
    end = ap length bytes ∙ length-append (bytes_given g) (bytes_of kept.files) ∙ ap₂ (λ (a : ℕ) (b : ℕ). a + b) (was.end ∙ ap (λ (f : Filling). f.end) far) size;
    start = omega (arith, start, between);
    written = ap (λ (w : ℕ). range now w (progress.end + n)) (work_carried old new same) ∙ ap (λ (i : Image). range i (work_at old) (progress.end + n)) is_now
        ∙ sym (ranges_joined (overlay image (work_at old + progress.end) (bytes_of kept.files)) (work_at old) progress.end (work_at old + progress.end) n refl)
        ∙ ap₂ (λ (a : List ℕ) (b : List ℕ). a ++ b) prefix behind ∙ sym bytes;
  }

-- ---- the place of a load that is known

-- the place is that of the load of this number
abbrev pub IsPlaceOf : Store → ℕ → LoadPlace → Type 0
IsPlaceOf store load place = (before behind : List LoadEntry) (entry : LoadEntry) → SaysLoads (known_of store) (before ++ entry ∷ behind) → length before + 1 ≡ load → StandsAfter before entry place

pub place_is : (store : Store) (load : ℕ) (place : LoadPlace) (is : IsKeptLoad store load) → IsPlaceOf store load place → StandsAfter is.before is.kept place
place_is store load place is stands = stands is.before is.behind is.kept is.says is.is_at

pub place_within : (store : Store) (load : ℕ) (place : LoadPlace) → IsKeptLoad store load → IsPlaceOf store load place → place.entry + place.entry_length ≤ length (known_of store)
place_within store load place is stands =
    let there = place_is store load place is stands in
    omega (arith, there.entry, there.entry_length, entry_within (known_of store) is.before is.behind is.kept is.says)

pub place_short : (store : Store) (load : ℕ) (place : LoadPlace) → IsKeptLoad store load → IsPlaceOf store load place → place.entry_length ≤ longest_load
place_short store load place is stands =
    let there = place_is store load place is stands in
    omega (arith, there.entry_length, entry_is_short is.kept (load_fits layouts.Two is.before is.behind is.kept is.says.fits))

pub place_says : (store : Store) (load : ℕ) (place : LoadPlace) (is : IsKeptLoad store load) → IsPlaceOf store load place → knows_entry store place ≡ entry_bytes (is.kept ∷ [])
place_says store load place is stands =
    let there = place_is store load place is stands in
    ap₂ (λ (m : ℕ) (f : ℕ). take m (drop f (known_of store))) there.entry_length there.entry ∙ entry_is_there (known_of store) is.before is.behind is.kept is.says
    ∙ sym (entry_bytes_first is.kept [] ∙ append-nil (concat (load_entry_fields layouts.Two is.kept)))

pub place_kept : (store : Store) (load n : ℕ) (place : LoadPlace) (progress other : Filling) (is : IsKeptLoad store load) → IsPlaceOf store load place → n ≡ place.files_length → IsFilling store progress
    → IsFilling store other → ◌≡◌ {A = Stage} (stages.Filling (load_kept n progress)) (stages.Filling (load_kept (entries_length is.kept.files) other))
place_kept store load n place progress other is stands count filling too =
    ap₂ (λ (m : ℕ) (f : Filling). stages.Filling (load_kept m f)) (count ∙ (place_is store load place is stands).files_length) (same_filling progress other (sym filling ∙ too))

-- what is copied, as its record says it
pub place_copied : (store : Store) (load n : ℕ) (place : LoadPlace) (progress other : Filling) (is : IsKeptLoad store load) (image : Image) (from to : ℕ) → IsPlaceOf store load place → n ≡ place.files_length
    → from ≡ active_at store + place.files → to ≡ work_at store + progress.end → IsFilling store progress → IsFilling store other
    → told_as (overlay image to (range image from n)) ≡ told_as (with_piece store other (range image (active_at store + total_length is.before) (entries_length is.kept.files)) image)
place_copied store load n place progress other is image from to stands count source target filling too =
    let there = place_is store load place is stands in
    ap₂ (λ (m : ℕ) (f : ℕ). told_as (overlay image to (range image f m))) (count ∙ there.files_length) (source ∙ ap (λ (f : ℕ). active_at store + f) there.files)
    ∙ ap (λ (at : ℕ). told_as (overlay image at (range image (active_at store + total_length is.before) (entries_length is.kept.files))))
    (target ∙ ap (λ (f : Filling). work_at store + f.end) (same_filling progress other (sym filling ∙ too)))

-- ---- where it doesn't fit

full_parts : (a b c d : ℕ) → IsErrOf {T = Unit {0}} (Err (BankFull a b)) (BankFull c d) → (a ≡ c) × (b ≡ d)
full_parts a b c d e = (cc, cc)

full_same : (a b c d : ℕ) → a ≡ c → b ≡ d → IsErrOf {T = Unit {0}} (Err (BankFull a b)) (BankFull c d)
full_same a b c d first second = ap₂ (λ (n : ℕ) (h : ℕ). Err (BankFull n h)) first second

pub passes_by : (store : Store) (load : ℕ) (place : LoadPlace) (progress : Filling) (need size : ℕ) → IsKeptLoad store load → IsPlaceOf store load place → IsFilling store progress → need ≡ progress.end + place.files_length
    → size ≡ store.size → size < need → (n h : ℕ) → IsErrOf {T = Unit {0}} (Err (BankFull need size)) (BankFull n h) ↔ PassesByKept store load n h
passes_by store load place progress need size is stands filling needs sized more n h = (
  λ refused.
      let same = full_parts need size n h refused in
      let there = place_is store load place is stands in
      (is, (progress, filling, omega (arith, same.0, needs, there.files_length), omega (arith, same.1, sized), omega (arith, same.0, same.1, more))),
  λ passes.
      let there = place_is store load place passes.0 stands in
      let end : passes.1.0.end ≡ progress.end = ap (λ (f : Filling). f.end) (same_filling passes.1.0 progress (sym passes.1.1 ∙ filling)) in
      full_same need size n h (omega (arith, needs, there.files_length, end, passes.1.2)) (omega (arith, sized, passes.1.3)),
)

pub still_few : (store : Store) (progress other : Filling) → IsFilling store progress → IsFilling store other → other.loads < most_loads → progress.loads < most_loads
still_few store progress other filling too few = subst (λ (f : Filling). f.loads < most_loads) (same_filling other progress (sym too ∙ filling)) few
