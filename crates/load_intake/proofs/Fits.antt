-- Loads that a manifest can say once they are whole, with more of them.
use Rattle.std.proofs.Common.{ℕ, ◌+◌, ◌<◌, ◌≤◌, Some, List, [], ◌∷◌, ◌++◌, refl, arith, length-append}
use Rattle.std.specs.List.{All, AllByRecursion}
use Rattle.std.proofs.lemmas.List.Elements.{All-cons, All-nil, All-from_recursion, recursion_from_All}
use Rattle.load_base.specs.Host.{longest_file}
use Rattle.load_base.specs.Name.{IsName}
use Rattle.load_base.specs.PartText.{IsPartText}
use Rattle.disk_layout.specs.Manifest.{FileFits, LoadEntry, LoadFits}
use Rattle.disk_layout.specs.Offsets.{most_files}
use Rattle.disk_layout.specs.declared.manifest.Layout.TheVariants as layouts
use Rattle.disk_layout.specs.declared.manifest.ManifestFile.{ManifestFile}
use Rattle.load_intake.specs.Stores.{AllFitBegun, FitsBegun, with_entry}

-- the last, and those before it
pub begun_fit : (left : ℕ) (loads : List LoadEntry) (l : LoadEntry) → AllFitBegun 0 loads → FitsBegun left l → AllFitBegun left (loads ++ l ∷ [])
begun_fit left [] l all fits = fits
begun_fit left (first ∷ []) l all fits = (all, fits)
begun_fit left (first ∷ next ∷ loads) l all fits = (all.0, begun_fit left (next ∷ loads) l all.1 fits)

pub fit_before : (left : ℕ) (loads : List LoadEntry) (l : LoadEntry) → AllFitBegun left (loads ++ l ∷ []) → AllFitBegun 0 loads
fit_before left [] l all = tt
fit_before left (first ∷ []) l all = all.0
fit_before left (first ∷ next ∷ loads) l all = (all.0, fit_before left (next ∷ loads) l all.1)

pub fit_last : (left : ℕ) (loads : List LoadEntry) (l : LoadEntry) → AllFitBegun left (loads ++ l ∷ []) → FitsBegun left l
fit_last left [] l all = all
fit_last left (first ∷ []) l all = all.1
fit_last left (first ∷ next ∷ loads) l all = fit_last left (next ∷ loads) l all.1

-- a load begins
pub fit_with_load : (part : List ℕ) (type_id files : ℕ) (loads : List LoadEntry) → IsPartText part → type_id < 65536 → 1 ≤ files → files ≤ most_files → AllFitBegun 0 loads
    → AllFitBegun files (loads ++ record { part = part; type_id = Some type_id; files = [] } ∷ [])
fit_with_load part type_id files loads is small some few all =
    begun_fit files loads (record { part = part; type_id = Some type_id; files = [] }) all
    (record { part = is; type_id = (type_id, refl, small); some = omega (arith, some); few = omega (arith, few); files = tt })

-- a file ends
one_more : (files : List ManifestFile) (f : ManifestFile) → AllByRecursion (λ f. FileFits f) files → FileFits f → AllByRecursion (λ f. FileFits f) (files ++ f ∷ [])
one_more [] f all fits = (fits, tt)
one_more (first ∷ files) f all fits = (all.0, one_more files f all.1 fits)

pub fit_with_file : (left size : ℕ) (name : List ℕ) (loads : List LoadEntry) (l : LoadEntry) → IsName name → size ≤ longest_file → AllFitBegun (left + 1) (loads ++ l ∷ []) → AllFitBegun left (loads ++ with_entry l name size ∷ [])
fit_with_file left size name loads l is short all =
    let f : ManifestFile = record { name = name; length = size } in
    let was = fit_last (left + 1) loads l all in
    begun_fit left loads (with_entry l name size) (fit_before (left + 1) loads l all)
    (record {
      part = was.part;
      type_id = was.type_id;
      some = omega (arith, was.some, length-append l.files (f ∷ []));
      few = omega (arith, was.few, length-append l.files (f ∷ []));
      files = one_more l.files f was.files (record { name = is; length = short });
    })

-- all are whole
pub load_fits_begun : (l : LoadEntry) → LoadFits layouts.Two l → FitsBegun 0 l
load_fits_begun l fits = record { part = fits.part; type_id = fits.type_id; some = omega (arith, fits.some); few = omega (arith, fits.count); files = recursion_from_All (λ (f : ManifestFile). FileFits f) l.files fits.files }

whole_load : (l : LoadEntry) → FitsBegun 0 l → LoadFits layouts.Two l
whole_load l fits = record { part = fits.part; type_id = fits.type_id; some = omega (arith, fits.some); count = omega (arith, fits.few); files = All-from_recursion (λ (f : ManifestFile). FileFits f) l.files fits.files }

pub all_fit_whole : (loads : List LoadEntry) → AllFitBegun 0 loads → All (λ (l : LoadEntry). LoadFits layouts.Two l) loads
all_fit_whole [] all = All-nil (λ (l : LoadEntry). LoadFits layouts.Two l)
all_fit_whole (l ∷ []) all = All-cons (λ (l : LoadEntry). LoadFits layouts.Two l) l [] (whole_load l all) (All-nil (λ (l : LoadEntry). LoadFits layouts.Two l))
all_fit_whole (l ∷ next ∷ loads) all = All-cons (λ (l : LoadEntry). LoadFits layouts.Two l) l (next ∷ loads) (whole_load l all.0) (all_fit_whole (next ∷ loads) all.1)
