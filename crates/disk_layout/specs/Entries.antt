-- What a manifest of layout 2 says of its loads, after its first four bytes (docs/DISK.md).
use Rattle.std.specs.Prelude.{◌≡◌, ℕ, List, ◌∷◌, ◌++◌, length, filter, is_some}
use Rattle.std.specs.List.{concat, flat_map}
use Rattle.disk_layout.specs.Manifest.{LoadEntry, ManifestFits, entries_length, load_entry_fields, total_length}
use Rattle.disk_layout.specs.declared.entries.LoadPlace.{LoadPlace}
use Rattle.disk_layout.specs.declared.manifest.Layout.TheVariants as layouts

-- those of the loads that have a type id
abbrev pub typed_loads : List LoadEntry → List LoadEntry
typed_loads loads = filter (λ (l : LoadEntry). is_some l.type_id) loads

-- the bytes of these loads, as layout 2 writes them
abbrev pub entry_bytes : List LoadEntry → List ℕ
entry_bytes loads = concat (flat_map (load_entry_fields layouts.Two) loads)

-- the bytes say these loads, as a manifest of layout 2 does
pub record SaysLoads (bytes : List ℕ) (loads : List LoadEntry) : Type 0 where
  pub fits : ManifestFits layouts.Two loads
  pub are : bytes ≡ entry_bytes loads

-- the bytes say a load of this number, from 0
pub record SaysLoad (bytes : List ℕ) (number : ℕ) : Type 0 where
  pub before : List LoadEntry
  pub load : LoadEntry
  pub behind : List LoadEntry
  pub says : SaysLoads bytes (before ++ load ∷ behind)
  pub is_at : length before ≡ number

-- a load stands here after these
pub record StandsAfter (before : List LoadEntry) (load : LoadEntry) (place : LoadPlace) : Type 0 where
  pub entry : place.entry ≡ length (entry_bytes before)
  pub entry_length : place.entry_length ≡ length (concat (load_entry_fields layouts.Two load))
  pub files : place.files ≡ total_length before
  pub files_length : place.files_length ≡ entries_length load.files
