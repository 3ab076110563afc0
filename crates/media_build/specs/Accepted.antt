-- What every recipe says that is accepted (docs/FORMATS.md, "Recipe").
use Rattle.std.specs.Prelude.{◌≡◌, ⊤, ℕ, ◌%◌, ◌<◌, ◌≤◌, ◌^◌, List, [], ◌∷◌, ◌++◌, length, filter, Bool, true, false}
use Rattle.std.specs.List.{AllByRecursion, IsDistinct}
use Rattle.load_base.specs.Bytes.{same_bytes, AllGood}
use Rattle.load_base.specs.Ident.{IsIdent}
use Rattle.load_base.specs.Name.{IsName}
use Rattle.load_base.specs.PartText.{is_graphic}
use Rattle.part_number.specs.PartNumber.{IsPartNumberText}
use Rattle.field_grammar.specs.Grammar.{IsBytes}
use Rattle.media_build.specs.Lines.{is_user, is_batch, is_loaded, names_of, members_of}
use Rattle.media_build.specs.RecipeSets.{RecipeLoadView, RecipeBatchView, loads_of, batches_of, files_of}
use Rattle.media_build.specs.Recipes.{is_header_name, is_body_name, is_batch_name}
use Rattle.media_build.specs.declared.statements.BatchLine.{BatchLine}
use Rattle.media_build.specs.declared.statements.FileLine.{FileLine}
use Rattle.media_build.specs.declared.statements.LoadLine.{LoadLine}
use Rattle.media_build.specs.declared.statements.RecipeLine.{RecipeLine}
use Rattle.media_build.specs.declared.statements.Statement.{Statement}
use Rattle.media_build.specs.declared.statements.Statement.TheVariants.{Set, Members, Load, Hardware, Position, Data, Support, User, Batch, Target}
use Rattle.media_build.specs.declared.statements.TargetLine.{TargetLine}

-- ---- what a line says

-- 1 to this many bytes 0x21 to 0x7E
pub record IsRecipeWord (most : ℕ) (word : List ℕ) : Type 0 where
  pub some : 1 ≤ length word
  pub few : length word ≤ most
  pub graphic : AllGood is_graphic word

-- the number of one of this many members
pub record IsMemberOf (members member : ℕ) : Type 0 where
  pub first : 1 ≤ member
  pub last : member ≤ members

-- a load whose header has a name that ends with `.LUH` and lies in one of the members
pub record IsLoadLine (members : ℕ) (load : LoadLine) : Type 0 where
  pub part : IsPartNumberText load.part
  pub name : IsName load.name
  pub header : is_header_name load.name ≡ true
  pub member : IsMemberOf members load.member
  pub type_id : load.type_id < 2 ^ 16
  pub type_name : IsRecipeWord 64 load.type_name

-- a file whose name ends neither with `.LUH` nor with `.LUM`, in one of the members
pub record IsFileLine (members : ℕ) (file : FileLine) : Type 0 where
  pub name : IsName file.name
  pub body : is_body_name file.name ≡ true
  pub member : IsMemberOf members file.member
  pub source : IsRecipeWord 150 file.source
  pub part : IsRecipeWord 64 file.part

-- some bytes, an even number of them
pub record IsUserLine (bytes : List ℕ) : Type 0 where
  pub each : IsBytes bytes
  pub some : 1 ≤ length bytes
  pub even : length bytes % 2 ≡ 0

-- a batch whose file has a name that ends with `.LUB` and lies in one of the members
pub record IsBatchLine (members : ℕ) (batch : BatchLine) : Type 0 where
  pub part : IsPartNumberText batch.part
  pub name : IsName batch.name
  pub file : is_batch_name batch.name ≡ true
  pub member : IsMemberOf members batch.member

-- a target with the part numbers of 1 to 32 loads
pub record IsTargetLine (target : TargetLine) : Type 0 where
  pub hw : IsIdent target.hw
  pub pos : IsIdent target.pos
  pub some : 1 ≤ length target.parts
  pub few : length target.parts ≤ 32
  pub parts : AllByRecursion IsPartNumberText target.parts

-- a line of a recipe of a set of this many members
abbrev pub IsSoundLine : (members : ℕ) → Statement → Type 0
IsSoundLine members (Set part) = IsPartNumberText part
IsSoundLine members (Members count) = IsMemberOf 255 count
IsSoundLine members (Load load) = IsLoadLine members load
IsSoundLine members (Hardware id) = IsRecipeWord 64 id
IsSoundLine members (Position hardware position) = IsRecipeWord 64 hardware × IsRecipeWord 64 position
IsSoundLine members (Data file) = IsFileLine members file
IsSoundLine members (Support file) = IsFileLine members file
IsSoundLine members (User bytes) = IsUserLine bytes
IsSoundLine members (Batch batch) = IsBatchLine members batch
IsSoundLine members (Target target) = IsTargetLine target

-- ---- in which order

-- whether a line tells of a load
abbrev pub is_of_loads : Statement → Bool
is_of_loads (Set part) = false
is_of_loads (Members count) = false
is_of_loads (Batch batch) = false
is_of_loads (Target target) = false
is_of_loads statement = true

-- whether a line tells of a batch
abbrev pub is_of_batches : Statement → Bool
is_of_batches (Batch batch) = true
is_of_batches (Target target) = true
is_of_batches statement = false

-- the first line, if there is one, begins a batch
abbrev pub BeginWithBatch : List RecipeLine → Type 0
BeginWithBatch [] = ⊤
BeginWithBatch (line ∷ later) = is_batch line.statement ≡ true

-- lines of batches alone, the first of which begins one
pub record AreBatches (lines : List RecipeLine) : Type 0 where
  pub each : AllByRecursion (λ line. is_of_batches line.statement ≡ true) lines
  pub begun : BeginWithBatch lines

-- `set PART`, `members N`, a load, lines of loads alone, and then lines of batches
pub record AreLinesInOrder (lines : List RecipeLine) : Type 0 where
  pub numbers : ℕ × ℕ × ℕ
  pub set : List ℕ
  pub members : ℕ
  pub load : LoadLine
  pub later : List RecipeLine
  pub batches : List RecipeLine
  pub stands : lines ≡ record { number = numbers.0; statement = Set set } ∷ record { number = numbers.1; statement = Members members }
      ∷ record { number = numbers.2; statement = Load load } ∷ (later ++ batches)
  pub others : AllByRecursion (λ line. is_of_loads line.statement ≡ true) later
  pub last : AreBatches batches

-- ---- the whole

-- at most 255 data and support files, and at most one line of user data
pub record IsSmallLoad (load : RecipeLoadView) : Type 0 where
  pub files : length (files_of load) ≤ 255
  pub user : length (filter is_user load.own) ≤ 1

-- 1 to 64 targets
pub record IsSmallBatch (batch : RecipeBatchView) : Type 0 where
  pub some : 1 ≤ length batch.targets
  pub few : length batch.targets ≤ 64

-- each load that a target gets is one of the recipe's
abbrev pub HasItsLoads : List RecipeLine → Statement → Type 0
HasItsLoads lines (Target target) = AllByRecursion (λ part. is_loaded lines part ≡ true) target.parts
HasItsLoads lines statement = ⊤

-- Lines in their order, each of them sound, with at most 1,024 files, of which no two have one name. Targets get no other
-- loads than the recipe's.
pub record IsRecipe (lines : List RecipeLine) : Type 0 where
  pub order : AreLinesInOrder lines
  pub each : AllByRecursion (λ line. IsSoundLine (members_of lines) line.statement) lines
  pub names : IsDistinct same_bytes (names_of lines)
  pub few : length (names_of lines) ≤ 1024
  pub loads : AllByRecursion IsSmallLoad (loads_of lines)
  pub batches : AllByRecursion IsSmallBatch (batches_of lines)
  pub targets : AllByRecursion (λ line. HasItsLoads lines line.statement) lines
