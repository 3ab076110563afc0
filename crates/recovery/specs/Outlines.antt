-- A manifest whose loads are read one at a time.
use Rattle.std.specs.Prelude.{◌≡◌, ℕ, ◌+◌, ◌<◌, ◌≤◌, List, Result, Ok, Option, IfSome, IfNone, Bool}
use Rattle.std.specs.List.{All}
use Rattle.disk_model.specs.Image.{Image}
use Rattle.field_grammar.specs.Answers.{answer}
use Rattle.field_grammar.specs.Grammar.{IsBytes, Spelled}
use Rattle.disk_layout.specs.Offsets.{IsBankSize}
use Rattle.disk_layout.specs.Slots.{IsManifestRange}
use Rattle.disk_layout.specs.Manifest.{FitsALayout, LoadEntry, manifest, total_length}
use Rattle.disk_layout.specs.declared.active.Active.{Active}
use Rattle.disk_layout.specs.declared.identity.Identity.{Identity}
use Rattle.disk_layout.specs.declared.manifest.ManifestFault.{ManifestFault}
use Rattle.recovery.specs.Parts.{HasAFile}
use Rattle.recovery.specs.Surveys.{FindsOutline}

-- Of so much space this is left after this many bytes; none where they are more.
pub record IsLeftAfter (space total : ℕ) (left : Option ℕ) : Type 0 where
  pub some : IfSome left (λ rest. total + rest ≡ space)
  pub none : IfNone left (space < total)

-- This is left of so much space after the files of the loads that the bytes tell.
pub record LeftAfterLoads (bytes : List ℕ) (space : ℕ) (left : Option ℕ) : Type 0 where
  pub loads : List LoadEntry
  pub read : answer manifest bytes ≡ Ok loads
  pub left_after : IsLeftAfter space (total_length loads) left

-- The bytes tell loads, whose files have this many bytes together.
pub record TellsLoads (bytes : List ℕ) (contents : ℕ) : Type 0 where
  pub are_bytes : IsBytes bytes
  pub loads : List LoadEntry
  pub read : answer manifest bytes ≡ Ok loads
  pub spelled : Spelled manifest bytes loads
  pub fits : FitsALayout loads
  pub lengths : total_length loads ≡ contents

-- The bytes tell the loads of the outline that the image has by the active slot.
pub record TellsOutline (image : Image) (id : Identity) (active : Active) (other_is_open : Bool) (bytes : List ℕ) : Type 0 where
  pub loads : List LoadEntry
  pub read : answer manifest bytes ≡ Ok loads
  pub finds : FindsOutline image id loads active other_is_open

-- the bounds of what is found, also on a disk that tells no content
pub record IsOutlineInRange (id : Identity) (active : Active) (bytes : List ℕ) : Type 0 where
  pub size : IsBankSize id.bank
  pub range : IsManifestRange id.bank active.manifest
  pub tells : TellsLoads bytes active.manifest.offset

-- What a reader has left are loads, each with a file, and their files begin at one offset and end at another at the latest.
pub record AreLoadsAt (left : Result (List LoadEntry) ManifestFault) (start end : ℕ) : Type 0 where
  pub loads : List LoadEntry
  pub are : left ≡ Ok loads
  pub files : All (λ (entry : LoadEntry). HasAFile entry) loads
  pub within : start + total_length loads ≤ end
