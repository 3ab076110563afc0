-- The generated set as a loader serves it (docs/FORMATS.md, "Generated set"; docs/EXCHANGE.md, "Upload").
use Rattle.std.specs.Prelude.{◌≡◌, ℕ, Some, List, [], ◌∷◌, codes, Ok}
use Rattle.load_base.specs.Config.{LoadView}
use Rattle.load_protocol_files.specs.declared.lur.Wanted.{Wanted}
use Rattle.disk_layout.specs.Contents.{entries_of}
use Rattle.disk_layout.specs.declared.identity.Identity.{Identity}
use Rattle.accept_rules.specs.Permissions.{Grants}
use Rattle.media_build.specs.Generator.{generated}
use Rattle.media_build.specs.GeneratedSet.{generated_lines, generated_load_view, generated_sources}
use Rattle.media_build.specs.NoFindings.{built_view}
use Rattle.media_build.specs.RecipeSets.{header_bytes, header_of, recipe_set}
use Rattle.media_check.specs.BuiltSets.{built_media}
use Rattle.media_check.specs.Sets.{SetView, set_in}
use Rattle.media_check.specs.declared.built.Built.{Built}
use Rattle.loader_machine.specs.Machine.{media_of}
use Rattle.session_rules.specs.MediaFiles.{Media, wanted_of}
use Rattle.session_rules.specs.NewConfigs.{AreOfMedia, IsGoodLoad}
use Rattle.session_rules.specs.Uploads.{need_of}
use Rattle.run_promises.specs.Promises.{CanBeTold}

-- The media set is that of the lists and files of the generated set of this number.
pub record IsGeneratedSet (number : ℕ) (set : SetView) : Type 0 where
  pub built : Built
  pub made : built_view built ≡ recipe_set (generated_sources number) generated_lines
  pub holds : set ≡ set_in (built_media built)

-- the part number of its only load
abbrev pub generated_part : List ℕ
generated_part = codes "ABC41-0000-0001"

-- the load, as it stands on a target to which it was uploaded: its header, and its one file
abbrev pub uploaded_load : (number : ℕ) → LoadView
uploaded_load number = record {
  part = generated_part;
  type_id = Some 1;
  header_name = codes "MAKE.LUH";
  files =
      record { name = codes "MAKE.LUH"; bytes = header_bytes (header_of (generated_sources number) generated_load_view) }
      ∷ record { name = codes "MAKE.BIN"; bytes = generated number 4194304 }
      ∷ [];
}

-- what is asked for by its part number
abbrev pub generated_request : List Wanted
generated_request = record { header = codes "MAKE.LUH"; part = generated_part } ∷ []

-- What a loader serves of the generated set: its part is on the media, whose files are those of the load; where nothing is kept
-- the load is good for each target of hardware HW1, whatever its position, and every interlock accepts it; and with its manifest
-- it takes 4,194,475 bytes of a bank.
pub record AreGoodMedia (number : ℕ) (media : Media) : Type 0 where
  pub told : CanBeTold media
  pub on_media : wanted_of media.loads (generated_part ∷ []) ≡ Ok generated_request
  pub files : AreOfMedia media (uploaded_load number ∷ [])
  pub good : (id : Identity) → id.hw ≡ codes "HW1" → IsGoodLoad Grants id [] (uploaded_load number)
  pub need : need_of (entries_of (uploaded_load number ∷ [])) ≡ 4194475

-- So it is of each number.
abbrev pub GeneratedMediaAreGood : Type 0
GeneratedMediaAreGood = (number : ℕ) (set : SetView) → IsGeneratedSet number set → AreGoodMedia number (media_of set)
