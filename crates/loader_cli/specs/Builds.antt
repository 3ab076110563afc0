-- What `build` and `make` print, their status, and the cause of each (docs/PROMISES.md).
use Rattle.std.specs.Prelude.{◌≡◌, ℕ, ◌≤◌, List, length, codes, Option, Some, None, Result, Ok, Err, IfOk}
use Rattle.std.specs.Option.{ForSome}
use Rattle.load_base.specs.Counts.{Rose}
use Rattle.load_base.specs.Host.{Files, longest_file}
use Rattle.load_base.specs.declared.sink.WriteFault.TheVariants as writing
use Rattle.media_check.specs.declared.built.Built.{Built}
use Rattle.media_build.specs.Building.{AnswersSizes, Builds as BuildsOf, IsSmallSet, sources_in}
use Rattle.media_build.specs.FaultTexts.{recipe_fault_text}
use Rattle.media_build.specs.GeneratedSet.{generated_lines, generated_sources}
use Rattle.media_build.specs.HostWrites.{WritesToHost, written_files}
use Rattle.media_build.specs.NoFindings.{built_view}
use Rattle.media_build.specs.RecipeSets.{loads_of, recipe_set}
use Rattle.media_build.specs.Recipes.{recipe_said}
use Rattle.media_build.specs.WrittenFolders.{IsNameIn}
use Rattle.media_build.specs.declared.building_fault.BuildFault.{BuildFault}
use Rattle.media_build.specs.declared.building_fault.BuildFault.TheVariants.{Failed, Memory}
use Rattle.media_build.specs.declared.fault.RecipeFault.{RecipeFault}
use Rattle.media_build.specs.declared.statements.RecipeLine.{RecipeLine}
use Rattle.loader_cli.specs.HostFiles.{HostHas, HasTooMany, HostWork, KeepsFiles}
use Rattle.loader_cli.specs.Texts.{built_line, host_fault, refused_build, refused_input}

-- ---- writing a set

-- the status, the text and the host's files where this set, which has this many loads, is written into a folder
pub data WritesSet (folder : List ℕ) (set : Built) (loads : ℕ) (host : HostWork) (status : ℕ) (text : List ℕ) : Type 0 where
  -- 0: the host has the set's lists and files under their names, and under each other name what it had
  written : WritesToHost (written_files folder set) host.files host.files_after (Ok tt) → status ≡ 0 → text ≡ built_line loads (length set.bodies.items)
      → WritesSet folder set loads host status text
  -- 4: the host failed in this call; it has those before one of them, that one may have anything, and each other name has
  -- what it had
  unwritten : WritesToHost (written_files folder set) host.files host.files_after (Err writing.Failed) → Rose host.faults host.faults_after
      → status ≡ 4 → text ≡ host_fault → WritesSet folder set loads host status text

-- ---- `build RECIPE FOLDER`

-- What building the set of these lines answers: by the sizes that the recipe decides, and by the sources that the host has.
-- A set isn't too large.
pub record AnswersBuild (files : Option Files) (lines : List RecipeLine) (result : Result Built BuildFault) : Type 0 where
  pub sizes : AnswersSizes lines result
  pub builds : ForSome files (BuildsOf lines result)
  pub small : IfOk result IsSmallSet

-- a size or a source is at fault, and not the host or memory
abbrev pub IsOfInput : BuildFault → Type 0
IsOfInput Failed = ⊥
IsOfInput Memory = ⊥
IsOfInput fault = Unit {0}

-- the status, the text and the host's files for a recipe with these lines
pub data BuildsLines (recipe folder : List ℕ) (lines : List RecipeLine) (host : HostWork) (status : ℕ) (text : List ℕ) : Type 0 where
  -- the set that it names is written
  set_built : (set : Built) → AnswersBuild host.files lines (Ok set) → WritesSet folder set (length (loads_of lines)) host status text
      → BuildsLines recipe folder lines host status text
  -- 3: this is its first refusal
  set_refused : (fault : BuildFault) → AnswersBuild host.files lines (Err fault) → IsOfInput fault → KeepsFiles host
      → status ≡ 3 → text ≡ refused_build recipe fault → BuildsLines recipe folder lines host status text
  -- 4: the host failed in this call, before a file was written
  sources_unread : Rose host.faults host.faults_after → KeepsFiles host → status ≡ 4 → text ≡ host_fault
      → BuildsLines recipe folder lines host status text

-- the same for a recipe with these bytes
pub data BuildsBytes (recipe folder bytes : List ℕ) (host : HostWork) (status : ℕ) (text : List ℕ) : Type 0 where
  -- they say these lines
  said : (lines : List RecipeLine) → recipe_said bytes ≡ Ok lines → BuildsLines recipe folder lines host status text
      → BuildsBytes recipe folder bytes host status text
  -- 3: they are no recipe, for this first fault
  no_recipe : (fault : RecipeFault) → recipe_said bytes ≡ Err fault → KeepsFiles host → status ≡ 3 → text ≡ refused_input recipe (recipe_fault_text fault)
      → BuildsBytes recipe folder bytes host status text

-- the same for the recipe of this name
pub data BuildsFolder (recipe folder : List ℕ) (host : HostWork) (status : ℕ) (text : List ℕ) : Type 0 where
  -- the host has it with these bytes, at most 16,777,215
  recipe_read : (bytes : List ℕ) → HostHas host.files recipe (Some bytes) → length bytes ≤ longest_file → BuildsBytes recipe folder bytes host status text
      → BuildsFolder recipe folder host status text
  -- 3: there is no such file
  recipe_absent : HostHas host.files recipe None → KeepsFiles host → status ≡ 3 → text ≡ refused_input recipe (codes "absent")
      → BuildsFolder recipe folder host status text
  -- 3: it has more than 16,777,215 bytes
  recipe_too_long : HasTooMany host.files recipe → KeepsFiles host → status ≡ 3 → text ≡ refused_input recipe (codes "toolong")
      → BuildsFolder recipe folder host status text
  -- 4: the host failed in this call, before a file was written
  recipe_unread : Rose host.faults host.faults_after → KeepsFiles host → status ≡ 4 → text ≡ host_fault → BuildsFolder recipe folder host status text

-- ---- `make NUMBER FOLDER`

-- the status, the text and the host's files: the generated set of this number is written
pub data MakesFolder (number : ℕ) (folder : List ℕ) (host : HostWork) (status : ℕ) (text : List ℕ) : Type 0 where
  set_made : (set : Built) → built_view set ≡ recipe_set (generated_sources number) generated_lines → IsSmallSet set → WritesSet folder set 1 host status text
      → MakesFolder number folder host status text

-- ---- under which names they write

-- a name of the set in a folder that this text says as a recipe, of the sources that the host has
pub record IsNameSaid (folder text : List ℕ) (told : Files) (name : List ℕ) : Type 0 where
  pub lines : List RecipeLine
  pub said : recipe_said text ≡ Ok lines
  pub in_set : IsNameIn folder (recipe_set (sources_in told) lines) name

-- the same of the recipe that the host has under this name
pub record IsNameBuilt (recipe folder : List ℕ) (told : Files) (name : List ℕ) : Type 0 where
  pub text : List ℕ
  pub there : told recipe ≡ Some text
  pub of_text : IsNameSaid folder text told name

-- a name of the generated set of this number in a folder
abbrev pub IsNameMade : (number : ℕ) (folder name : List ℕ) → Type 0
IsNameMade number folder name = IsNameIn folder (recipe_set (generated_sources number) generated_lines) name
