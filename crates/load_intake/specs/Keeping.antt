-- Which active loads an upload keeps, as they stand in a manifest (docs/EXCHANGE.md, "Upload").
use Rattle.std.specs.Prelude.{◌≡◌, ℕ, ◌+◌, List, [], ◌∷◌, ◌++◌, map, Bool, false, ◌==◌, Option, Some, None, if◌then◌else◌}
use Rattle.std.specs.List.{sum_by}
use Rattle.disk_layout.specs.declared.manifest.ManifestFile.{ManifestFile}
use Rattle.disk_layout.specs.declared.manifest.ManifestLoad.{ManifestLoad}
use Rattle.disk_layout.specs.Holds.{Outline}
use Rattle.disk_layout.specs.Manifest.{LoadEntry, entry_view}
use Rattle.disk_layout.specs.declared.identity.Identity.{Identity}
use Rattle.load_header.specs.Header.{HeaderView}
use Rattle.session_rules.specs.KeptLoads.{kept_entries, types_of}
use Rattle.session_rules.specs.Uploads.{OpenLoadView, UploadView, is_last}
use Rattle.load_intake.specs.Needs.{file_need}

-- loads as they stand in a manifest
abbrev pub entries : List ManifestLoad → List LoadEntry
entries loads = map entry_view loads

-- what is active has this identity and these loads
pub record IsActive (active : Outline) (id : Identity) (listed : List LoadEntry) : Type 0 where
  pub identity : active.identity ≡ id
  pub loads : active.loads ≡ listed

-- a load has this type id
abbrev pub says_type : (id : ℕ) → Option ℕ → Bool
says_type id None = false
says_type id (Some one) = one == id

-- the active loads that are kept beside these
abbrev pub kept_beside : (active new : List LoadEntry) → List LoadEntry
kept_beside active new = kept_entries (types_of new) active

-- and beside these and one of this type
abbrev pub kept_with : (active new : List LoadEntry) (type_id : ℕ) → List LoadEntry
kept_with active new type_id = kept_entries (types_of new ++ type_id ∷ []) active

-- at the header of the last load it is known which are kept in the end, and before it of none
abbrev pub kept_at : (active : List LoadEntry) → UploadView → HeaderView → List LoadEntry
kept_at active u h = if is_last u then kept_with active u.loads h.type_id else []

-- that of the open load
abbrev pub kept_planned : (active : List LoadEntry) → UploadView → Option OpenLoadView → List LoadEntry
kept_planned active u None = []
kept_planned active u (Some l) = kept_at active u l.header

-- how many bytes of a bank a load needs with its entry in the manifest
abbrev pub file_needed : ManifestFile → ℕ
file_needed file = file_need file.name file.length

abbrev pub listed_need : LoadEntry → ℕ
listed_need load = 19 + sum_by file_needed load.files

abbrev pub listed_needs : List LoadEntry → ℕ
listed_needs loads = sum_by listed_need loads
