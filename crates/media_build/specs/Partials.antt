-- What the reader of a recipe keeps of the lines so far.
use Rattle.std.specs.Prelude.{◌≡◌, ℕ, ◌+◌, ◌<◌, ◌≤◌, List, [], ◌∷◌, ◌++◌, Bool, true, false, if◌then◌else◌}
use Rattle.std.specs.List.{list_any}
use Rattle.load_base.specs.Bytes.{same_bytes}
use Rattle.media_build.specs.Lines.{names_of, members_in, members_of, given, files_of_load, has_user, is_used, is_loaded, stage_of, stage_after, target_count}
use Rattle.media_build.specs.declared.line_counts.Counts.{Counts}
use Rattle.media_build.specs.declared.statements.FileLine.{FileLine}
use Rattle.media_build.specs.declared.statements.RecipeLine.{RecipeLine}
use Rattle.media_build.specs.declared.statements.Statement.{Statement}
use Rattle.media_build.specs.declared.statements.Statement.TheVariants.{Load, Data, Support, User, Batch, Target}

-- the numbers and marks are those of these lines
pub record AreCounts (lines : List RecipeLine) (counts : Counts) : Type 0 where
  pub members_are : counts.members ≡ members_of lines
  pub files_are : counts.files ≡ files_of_load lines
  pub few : counts.files ≤ 255
  pub user_is : counts.has_user ≡ has_user lines
  pub stage_is : counts.stage ≡ stage_of lines
  pub targets_are : counts.targets ≡ target_count lines
  pub few_targets : counts.targets ≤ 64

-- these are the part numbers of the loads, in any order
abbrev pub AreLoaded : List RecipeLine → List (List ℕ) → Type 0
AreLoaded lines parts = (part : List ℕ) → list_any (same_bytes part) parts ≡ is_loaded lines part

pub record KeepsCount (lines : List RecipeLine) (names parts : List (List ℕ)) (counts : Counts) : Type 0 where
  pub names_are : names ≡ names_of lines
  pub parts_are : AreLoaded lines parts
  pub counts_are : AreCounts lines counts

-- Its name isn't used, and the load has fewer than 255 files.
abbrev pub IsNewFile : List RecipeLine → FileLine → Type 0
IsNewFile lines file = (is_used lines file.name ≡ false) × (files_of_load lines < 255)

-- A file may follow these lines if its name is new, and a target if its batch has fewer than 64.
abbrev pub MayFollow : List RecipeLine → Statement → Type 0
MayFollow lines (Load load) = is_used lines load.name ≡ false
MayFollow lines (Data file) = IsNewFile lines file
MayFollow lines (Support file) = IsNewFile lines file
MayFollow lines (Batch batch) = is_used lines batch.name ≡ false
MayFollow lines (Target target) = target_count lines < 64
MayFollow lines statement = Unit {0}

-- No file has the name that a line gives.
abbrev pub IsNewName : (names : List (List ℕ)) → Statement → Type 0
IsNewName names (Load load) = list_any (same_bytes load.name) names ≡ false
IsNewName names (Data file) = list_any (same_bytes file.name) names ≡ false
IsNewName names (Support file) = list_any (same_bytes file.name) names ≡ false
IsNewName names (Batch batch) = list_any (same_bytes batch.name) names ≡ false
IsNewName names statement = Unit {0}

-- how many files the last load has after this line
abbrev pub count_files : Statement → ℕ → ℕ
count_files (Load load) files = 0
count_files (Data file) files = files + 1
count_files (Support file) files = files + 1
count_files statement files = files

-- whether the last load has user data after this line
abbrev pub keeps_user : Statement → Bool → Bool
keeps_user (Load load) user = false
keeps_user (User bytes) user = true
keeps_user statement user = user

-- how many targets the last batch has after this line
abbrev pub count_targets : Statement → ℕ → ℕ
count_targets (Target target) targets = targets + 1
count_targets statement targets = 0

-- what is counted after this line
abbrev pub counts_after : Statement → Counts → Counts
counts_after statement counts = record {
  members = given (members_in statement) counts.members;
  files = count_files statement counts.files;
  has_user = keeps_user statement counts.has_user;
  stage = stage_after statement;
  targets = count_targets statement counts.targets;
}

-- the part numbers with one more, unless it is there
abbrev pub with_part : (part : List ℕ) → List (List ℕ) → List (List ℕ)
with_part part parts = if list_any (same_bytes part) parts then parts else parts ++ part ∷ []

-- the part numbers after this line
abbrev pub with_parts : Statement → List (List ℕ) → List (List ℕ)
with_parts (Load load) parts = with_part load.part parts
with_parts statement parts = parts
