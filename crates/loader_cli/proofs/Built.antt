-- What building says of a host of which earlier calls left the files.
use Rattle.std.proofs.Common.{◌≡◌, ◌≢◌, ℕ, ◌≤◌, ◌⊎◌, inl, inr, List, length, Option, Ok, Err, subst, ◌∙◌, arith}
use Rattle.std.specs.Option.{ForSome}
use Rattle.load_base.specs.Counts.{Rose}
use Rattle.load_base.specs.Host.{Files}
use Rattle.load_base.specs.declared.sink.WriteFault.TheVariants.{Failed}
use Rattle.media_build.specs.Building.{AnswersSizes, Builds as BuildsOf}
use Rattle.media_build.specs.HostWrites.{WritesToHost, written_files}
use Rattle.media_build.specs.RecipeSets.{loads_of}
use Rattle.media_build.specs.Recipes.{recipe_said}
use Rattle.media_build.specs.declared.building_fault.BuildFault.{BuildFault}
use Rattle.media_build.specs.declared.fault.RecipeFault.{RecipeFault}
use Rattle.media_build.specs.declared.fault.RecipeFault.TheVariants.{Memory as OutOfMemory}
use Rattle.media_build.specs.declared.statements.RecipeLine.{RecipeLine}
use Rattle.media_check.specs.declared.built.Built.{Built}
use Rattle.loader_cli.specs.Builds.{AnswersBuild, BuildsBytes, BuildsLines, WritesSet}
use Rattle.loader_cli.specs.Builds.WritesSet.{written, unwritten}
use Rattle.loader_cli.specs.Builds.BuildsLines.{set_built, set_refused, sources_unread}
use Rattle.loader_cli.specs.Builds.BuildsBytes.{said, no_recipe}
use Rattle.loader_cli.specs.HostFiles.{HostWork}

-- ---- refusals

-- what building answers with an error, from the fault that it is
pub answered : (files : Option Files) (lines : List RecipeLine) (given fault : BuildFault) → given ≡ fault → AnswersSizes lines (Err given) → ForSome files (BuildsOf lines (Err given))
    → AnswersBuild files lines (Err fault)
answered files lines given fault is sizes builds = record {
  sizes = subst (λ (f : BuildFault). AnswersSizes lines (Err f)) is sizes;
  builds = subst (λ (f : BuildFault). ForSome files (BuildsOf lines (Err f))) is builds;
  small = tt;
}

-- a text that is refused, and not for out of memory
pub is_refused : (text : List ℕ) (fault : RecipeFault) → fault ≢ OutOfMemory → (fault ≡ OutOfMemory) ⊎ (recipe_said text ≡ Err fault) → recipe_said text ≡ Err fault
is_refused text fault other (inl memory) = absurd (other memory)
is_refused text fault other (inr wrong) = wrong

-- ---- a host whose files stayed before what it did

-- the same work of a host that had these files and faults
abbrev pub since : (files : Option Files) (faults : ℕ) → HostWork → HostWork
since files faults host = record { files = files; files_after = host.files_after; faults = faults; faults_after = host.faults_after }

rose_since : (first before now : ℕ) → first ≤ before → Rose before now → Rose first now
rose_since first before now later rose = omega (arith, later, rose)

pub set_since : (files : Option Files) (faults : ℕ) (folder : List ℕ) (set : Built) (loads : ℕ) (host : HostWork) (status : ℕ) (text : List ℕ) → host.files ≡ files → faults ≤ host.faults
    → WritesSet folder set loads host status text → WritesSet folder set loads (since files faults host) status text
set_since files faults folder set loads host status text kept later (written wrote is text_is) =
    written (subst (λ (f : Option Files). WritesToHost (written_files folder set) f host.files_after (Ok tt)) kept wrote) is text_is
set_since files faults folder set loads host status text kept later (unwritten wrote rose is text_is) =
    unwritten (subst (λ (f : Option Files). WritesToHost (written_files folder set) f host.files_after (Err Failed)) kept wrote) (rose_since faults host.faults host.faults_after later rose) is text_is

pub lines_since : (files : Option Files) (faults : ℕ) (recipe folder : List ℕ) (lines : List RecipeLine) (host : HostWork) (status : ℕ) (text : List ℕ) → host.files ≡ files → faults ≤ host.faults
    → BuildsLines recipe folder lines host status text → BuildsLines recipe folder lines (since files faults host) status text
lines_since files faults recipe folder lines host status text kept later (set_built set answers writes) =
    set_built set (subst (λ (f : Option Files). AnswersBuild f lines (Ok set)) kept answers) (set_since files faults folder set (length (loads_of lines)) host status text kept later writes)
lines_since files faults recipe folder lines host status text kept later (set_refused fault answers of same is text_is) =
    set_refused fault (subst (λ (f : Option Files). AnswersBuild f lines (Err fault)) kept answers) of (same ∙ kept) is text_is
lines_since files faults recipe folder lines host status text kept later (sources_unread rose same is text_is) =
    sources_unread (rose_since faults host.faults host.faults_after later rose) (same ∙ kept) is text_is

pub bytes_since : (files : Option Files) (faults : ℕ) (recipe folder bytes : List ℕ) (host : HostWork) (status : ℕ) (text : List ℕ) → host.files ≡ files → faults ≤ host.faults
    → BuildsBytes recipe folder bytes host status text → BuildsBytes recipe folder bytes (since files faults host) status text
bytes_since files faults recipe folder bytes host status text kept later (said lines is builds) = said lines is (lines_since files faults recipe folder lines host status text kept later builds)
bytes_since files faults recipe folder bytes host status text kept later (no_recipe fault wrong same is text_is) = no_recipe fault wrong (same ∙ kept) is text_is
