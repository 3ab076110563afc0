-- What a survey of a disk finds.
use Rattle.std.specs.Prelude.{◌≡◌, ◌≤◌, ℕ, List, Bool}
use Rattle.disk_model.specs.Image.{Image}
use Rattle.disk_layout.specs.Offsets.{IsBankSize}
use Rattle.disk_layout.specs.Slots.{slot_offset, bank_number, manifest_offset_of, manifest_length_of, IsManifestRange}
use Rattle.disk_layout.specs.Manifest.{FitsALayout, LoadEntry, manifest_view, total_length}
use Rattle.disk_layout.specs.Entries.{entry_bytes, typed_loads}
use Rattle.disk_layout.specs.Holds.{Outline, HasOutline}
use Rattle.disk_layout.specs.declared.active.Active.{Active}
use Rattle.disk_layout.specs.declared.identity.Identity.{Identity}
use Rattle.disk_layout.specs.declared.manifest.Manifest.{Manifest}
use Rattle.bank_store.specs.Store.{IsIdle, bank_size_of, active_of, is_other_open, known_of}
use Rattle.recovery.specs.Parts.{TellsOther}
use Rattle.recovery.specs.declared.surveying.Surveyed.{Surveyed}

-- what is known of a configuration without its contents
abbrev pub outline_with : Identity → Active → List LoadEntry → Outline
outline_with id active loads = record { identity = id; bank = bank_number active.bank; sequence = active.sequence; loads = loads }

abbrev pub outline_by : Identity → Manifest → Active → Outline
outline_by id m active = outline_with id active (manifest_view m)

-- The image has the outline of these loads by the active slot, so that it holds a configuration of it; there the slot
-- names the manifest; and this is told of the other slot.
pub record FindsOutline (image : Image) (id : Identity) (loads : List LoadEntry) (active : Active) (other_is_open : Bool) : Type 0 where
  pub outline : HasOutline image (slot_offset active.slot) (outline_with id active loads)
  pub offset : manifest_offset_of image (slot_offset active.slot) ≡ active.manifest.offset
  pub length : manifest_length_of image (slot_offset active.slot) ≡ active.manifest.length
  pub other : TellsOther image (slot_offset active.slot) other_is_open

abbrev pub FindsActive : Image → Identity → Manifest → Active → Bool → Type 0
FindsActive image id m active other_is_open = FindsOutline image id (manifest_view m) active other_is_open

-- the bounds of what is found, also on a disk that tells no content
pub record IsFoundInRange (id : Identity) (m : Manifest) (active : Active) : Type 0 where
  pub size : IsBankSize id.bank
  pub range : IsManifestRange id.bank active.manifest
  pub manifest : FitsALayout (manifest_view m)
  pub within : total_length (manifest_view m) ≤ id.bank

abbrev pub outline_of_survey : Surveyed → Outline
outline_of_survey s = outline_by s.identity s.manifest (active_of s.store)

abbrev pub IsSurveyed : Image → Surveyed → Type 0
IsSurveyed image s = FindsActive image s.identity s.manifest (active_of s.store) (is_other_open s.store)

-- the bytes say those of the loads that have a type id
abbrev pub KnowsManifest : List ℕ → Manifest → Type 0
KnowsManifest bytes m = bytes ≡ entry_bytes (typed_loads (manifest_view m))

abbrev pub IsSurveyInRange : Surveyed → Type 0
IsSurveyInRange s =
    IsFoundInRange s.identity s.manifest (active_of s.store) × (bank_size_of s.store ≡ s.identity.bank) × KnowsManifest (known_of s.store) s.manifest

-- what is found is within its bounds, and in its store no installation has begun
pub record IsFreshSurvey (s : Surveyed) : Type 0 where
  pub in_range : IsSurveyInRange s
  pub idle : IsIdle s.store
