-- What laws of the crates below say of images, sets and files, on which rests what is promised of commands.
use Rattle.std.specs.Prelude.{◌≡◌, ℕ, List, Ok}
use Rattle.batch_lists.specs.Batch.{batch}
use Rattle.batch_lists.specs.BatchFields.{BatchSpells}
use Rattle.batch_lists.specs.Batches.{BatchesSpells, batches_list}
use Rattle.load_base.specs.Host.{Files}
use Rattle.field_grammar.specs.Grammar.{Grammar, Spelled}
use Rattle.disk_model.specs.Image.{Image}
use Rattle.disk_layout.specs.Holds.{HasDiskFault, HoldsConfig, StandingView}
use Rattle.disk_layout.specs.declared.fault.RecoverFault.{RecoverFault}
use Rattle.generated_uploads.specs.GeneratedUploads.{GeneratedUploadsComplete, OnlyTrialHappens}
use Rattle.load_header.specs.Header.{header}
use Rattle.load_header.specs.HeaderFields.{HeaderSpells}
use Rattle.load_protocol_files.specs.Lci.{LciSpells, lci}
use Rattle.load_protocol_files.specs.Lcl.{LclSpells, lcl}
use Rattle.load_protocol_files.specs.Lcs.{LcsSpells, lcs}
use Rattle.load_protocol_files.specs.Lui.{LuiSpells, lui}
use Rattle.load_protocol_files.specs.Lur.{LurSpells, lur}
use Rattle.load_protocol_files.specs.Lus.{LusSpells, lus}
use Rattle.media_check.specs.declared.built.Built.{Built}
use Rattle.media_build.specs.Building.{AnswersSizes, Builds as BuildsOf, CanTake, HaveSizes, IsFirstRefused, IsSizeFault, IsSmallSet, sources_in}
use Rattle.media_build.specs.GeneratedSet.{generated_lines, generated_sources}
use Rattle.media_build.specs.HostWrites.{WritesAllFiles, written_files}
use Rattle.media_build.specs.NoFindings.{built_view}
use Rattle.media_build.specs.RecipeSets.{recipe_set}
use Rattle.media_build.specs.Recipes.{recipe_said}
use Rattle.media_build.specs.WrittenFolders.{HoldsWritten}
use Rattle.media_build.specs.declared.building_fault.BuildFault.{BuildFault}
use Rattle.media_build.specs.declared.building_fault.BuildFault.TheVariants.{Memory}
use Rattle.media_build.specs.declared.statements.RecipeLine.{RecipeLine}
use Rattle.media_lists.specs.Files.{FilesSpells, files_list}
use Rattle.media_lists.specs.Loads.{LoadsSpells, loads_list}
use Rattle.recovery.specs.Formers.{HasNoFormer, HoldsFormer}
use Rattle.recovery.specs.declared.former_fault.FormerFault.{FormerFault}
use Rattle.run_promises.specs.Listing.{WhatIsHeldFits}

-- an image holds one configuration or has one fault
pub record ImageLaws : Type 0 where
  pub not_both : (image : Image) (s : StandingView) (f : RecoverFault) → HoldsConfig image s → HasDiskFault image f → ⊥
  pub one_standing : (image : Image) (s t : StandingView) → HoldsConfig image s → HoldsConfig image t → s ≡ t
  pub one_fault : (image : Image) (f g : RecoverFault) → HasDiskFault image f → HasDiskFault image g → f ≡ g

-- what the law says of the former configuration of an image
pub record FormerLaws : Type 0 where
  pub not_both : (image : Image) (s : StandingView) (f : FormerFault) → HoldsFormer image s → HasNoFormer image f → ⊥
  pub one_former : (image : Image) (s t : StandingView) → HoldsFormer image s → HoldsFormer image t → s ≡ t
  pub one_fault : (image : Image) (f g : FormerFault) → HasNoFormer image f → HasNoFormer image g → f ≡ g

-- What the laws of building say, which the run calls.
pub record BuildingLaws : Type 0 where
  pub sizes : (lines : List RecipeLine) (fault : BuildFault) → HaveSizes lines → IsSizeFault lines fault → fault ≡ Memory
  pub sources : (files : Files) (others : ℕ) (names : List (List ℕ)) (fault : BuildFault) → CanTake files others names → ¬ IsFirstRefused files others names fault
  pub built : (folder text : List ℕ) (lines : List RecipeLine) (built : Built) (files old new : Files) → recipe_said text ≡ Ok lines → AnswersSizes lines (Ok built)
      → BuildsOf lines (Ok built) files → IsSmallSet built → WritesAllFiles (written_files folder built) old new (Ok tt) → HoldsWritten folder old new (sources_in files) lines
  pub made : (folder : List ℕ) (number : ℕ) (built : Built) (old new : Files) → built_view built ≡ recipe_set (generated_sources number) generated_lines → IsSmallSet built
      → WritesAllFiles (written_files folder built) old new (Ok tt) → HoldsWritten folder old new (generated_sources number) generated_lines

-- what the laws say of an upload of the generated set, and of what a disk holds
pub record UploadLaws : Type 0 where
  pub completes : GeneratedUploadsComplete
  pub happens : OnlyTrialHappens
  pub fits : WhatIsHeldFits

-- what is a spelling of a value is one by the format's tree
abbrev pub TellsSpelled : {F V : Type 0} → Grammar F V → (V → List ℕ → Type 0) → Type 0
TellsSpelled {F} {V} g Spells = (value : V) (bytes : List ℕ) → Spells value bytes → Spelled g bytes value

-- it is so of each kind of file that is shown
pub record ShownLaws : Type 0 where
  pub of_header : TellsSpelled header HeaderSpells
  pub of_loads : TellsSpelled loads_list LoadsSpells
  pub of_files : TellsSpelled files_list FilesSpells
  pub of_batches : TellsSpelled batches_list BatchesSpells
  pub of_batch : TellsSpelled batch BatchSpells
  pub of_lci : TellsSpelled lci LciSpells
  pub of_lcl : TellsSpelled lcl LclSpells
  pub of_lcs : TellsSpelled lcs LcsSpells
  pub of_lui : TellsSpelled lui LuiSpells
  pub of_lur : TellsSpelled lur LurSpells
  pub of_lus : TellsSpelled lus LusSpells
