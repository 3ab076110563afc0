-- The names under which a set lies in a folder of the host, and a folder in which nothing is wrong with it
-- (docs/FORMATS.md, "Media sets").
use Rattle.std.specs.Prelude.{◌≡◌, ℕ, List, [], ◌∷◌, ◌++◌, length, codes, Option, Some, None}
use Rattle.load_base.specs.Host.{Files}
use Rattle.media_check.specs.Findings.{findings_of}
use Rattle.media_check.specs.HostNames.{host_media, host_name, loads_name, files_name, batches_name, whole_reading}
use Rattle.media_check.specs.Openings.{CanRead}
use Rattle.media_check.specs.Sets.{lists_in, set_in}
use Rattle.media_build.specs.Accepted.{IsMemberOf}
use Rattle.media_build.specs.Lines.{members_of}
use Rattle.media_build.specs.NoFindings.{HaveFiles, HaveSet}
use Rattle.media_build.specs.RecipeSets.{Sources, BodyView, BuiltView, batches_of}
use Rattle.media_build.specs.declared.statements.RecipeLine.{RecipeLine}

-- ---- names

-- A name under which a set in a folder has a list of one of its members, or a file.
pub data IsNameIn (folder : List ℕ) (set : BuiltView) (name : List ℕ) : Type 0 where
  of_loads : (member : ℕ) → IsMemberOf (length set.loads) member → name ≡ loads_name folder member → IsNameIn folder set name
  of_files : (member : ℕ) → IsMemberOf (length set.loads) member → name ≡ files_name folder member → IsNameIn folder set name
  of_batches : (member : ℕ) → IsMemberOf (length set.loads) member → name ≡ batches_name folder member → IsNameIn folder set name
  of_body : (before : List BodyView) (body : BodyView) (after : List BodyView) → set.bodies ≡ before ++ body ∷ after
      → name ≡ host_name folder body.member (codes "\\") body.name → IsNameIn folder set name

-- The host goes on telling its files, and has under each name but these what it had.
pub record KeepsAllBut (IsSet : List ℕ → Type 0) (old : Files) (new : Option Files) : Type 0 where
  pub files : Files
  pub told : new ≡ Some files
  pub others : (name : List ℕ) → ¬ IsSet name → files name ≡ old name

-- ---- a folder

-- A set without batches isn't written where a member has a list of batches. Nothing takes such a list away, so that it would
-- stand there as if it were one of the set's.
abbrev pub HasNoOtherBatches : (folder : List ℕ) → Files → List RecipeLine → Type 0
HasNoOtherBatches folder files lines =
    batches_of lines ≡ [] → (member : ℕ) → IsMemberOf (members_of lines) member → files (batches_name folder member) ≡ None

-- The set in a folder can be read, and it has no finding.
pub record IsCleanFolder (folder : List ℕ) (files : Files) : Type 0 where
  pub readable : CanRead files (whole_reading folder (lists_in (host_media files folder) 1))
  pub clean : findings_of (set_in (host_media files folder)) ≡ []

-- A folder has the set of a recipe, each list and file with its bytes; and nothing is wrong there.
pub record HoldsSet (folder : List ℕ) (files : Files) (sources : Sources) (lines : List RecipeLine) : Type 0 where
  pub has : HaveSet (host_media files folder) sources lines
  pub sound : IsCleanFolder folder files

-- A folder has what was written of the set of a recipe, each list and file with its bytes; and where no other set's list of
-- batches stood there, it has the whole set, and nothing is wrong.
pub record HoldsWritten (folder : List ℕ) (old new : Files) (sources : Sources) (lines : List RecipeLine) : Type 0 where
  pub has : HaveFiles (host_media new folder) sources lines
  pub set : HasNoOtherBatches folder old lines → HoldsSet folder new sources lines
