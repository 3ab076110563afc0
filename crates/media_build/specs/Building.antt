-- What building a set answers: the set that a recipe names, or the first refusal (docs/FORMATS.md, "Recipe").
use Rattle.std.specs.Prelude.{◌≡◌, ◌≢◌, ℕ, ◌+◌, ◌<◌, ◌≤◌, ◌⊎◌, List, [], ◌∷◌, ◌++◌, All, length, map, Option, Some, None, option_to_list, Result, Ok, Err, IsErrOf, IfErr, OnOk}
use Rattle.std.specs.List.{concat, flat_map, range_with_len, sum_by, AllByRecursion}
use Rattle.load_base.specs.Counts.{Rose}
use Rattle.load_base.specs.Host.{Files, longest_file}
use Rattle.load_base.specs.Listed.{Listed}
use Rattle.load_header.specs.HeaderFields.{header_size, IsHeader}
use Rattle.batch_lists.specs.BatchFields.{batch_size}
use Rattle.batch_lists.specs.Batches.{BatchesListView, IsBatchesList, batch_body_fields}
use Rattle.media_lists.specs.Files.{FilesListView, IsFilesList, file_body_fields}
use Rattle.media_lists.specs.ListFields.{list_fields}
use Rattle.media_lists.specs.Lists.{ListView}
use Rattle.media_lists.specs.Loads.{LoadsListView, IsLoadsList, load_body_fields, loads_list_view}
use Rattle.media_lists.specs.declared.lists.LoadsList.{LoadsList}
use Rattle.media_check.specs.BuiltSets.{HasShortBodies}
use Rattle.media_check.specs.Kept.{contents}
use Rattle.media_check.specs.Openings.{IsShortOnHost, length_on_host, total_of, largest_set}
use Rattle.media_check.specs.declared.built.Built.{Built}
use Rattle.media_check.specs.declared.built.Placed.{Placed}
use Rattle.media_build.specs.NoFindings.{body_view, built_view}
use Rattle.media_build.specs.Parts.{LoadFilesView, AreFiles, bytes_from, files_from, with_file}
use Rattle.media_build.specs.RecipeSets.{RecipeLoadView, RecipeBatchView, listed_body, BodyView, load_bodies, recipe_bodies, data_in, support_in, Sources, loads_of, batches_of, batch_of, batch_entry, header_start, recipe_loads, recipe_files, recipe_batches, recipe_set, all_where_some}
use Rattle.media_build.specs.declared.building_fault.BuildFault.{BuildFault}
use Rattle.media_build.specs.declared.building_fault.BuildFault.TheVariants.{Absent, TooLong, TooLarge, HeaderTooLong, ListTooLong, Failed, Memory}
use Rattle.media_build.specs.declared.statements.RecipeLine.{RecipeLine}
use Rattle.media_build.specs.declared.statements.Statement.{Statement}
use Rattle.media_build.specs.declared.statements.Statement.TheVariants.{Set, Members, Data, Support}

-- ---- the sizes, which the recipe alone decides

-- sources that weren't read: no size of a header or a list depends on their bytes
abbrev pub unread : Sources
unread name = []

-- how many bytes the header of a load has
abbrev pub header_length : RecipeLoadView → ℕ
header_length load = header_size (header_start unread load)

-- how many all headers have together
abbrev pub headers_length : List RecipeLoadView → ℕ
headers_length loads = sum_by header_length loads

-- how many bytes the file of a batch has
abbrev pub batch_length : RecipeBatchView → ℕ
batch_length batch = batch_size (batch_of batch)

-- how many the files of all batches have together
abbrev pub batches_length : List RecipeBatchView → ℕ
batches_length batches = sum_by batch_length batches

-- how many all headers and the files of all batches have together
abbrev pub fixed_length : List RecipeLine → ℕ
fixed_length lines = headers_length (loads_of lines) + batches_length (batches_of lines)

-- at most 65,536 bytes
abbrev pub HasShortHeader : RecipeLoadView → Type 0
HasShortHeader load = header_length load ≤ 65536

abbrev pub HaveShortHeaders : List RecipeLine → Type 0
HaveShortHeaders lines = AllByRecursion HasShortHeader (loads_of lines)

-- The load on this line is the first whose header has more.
pub record IsFirstLongHeader (lines : List RecipeLine) (line : ℕ) : Type 0 where
  pub before : List RecipeLoadView
  pub load : RecipeLoadView
  pub after : List RecipeLoadView
  pub stands : loads_of lines ≡ before ++ load ∷ after
  pub others : AllByRecursion HasShortHeader before
  pub number : load.number ≡ line
  pub long : 65536 < header_length load

-- The lists of member 1 meet the limits of their formats. Those of the further members differ in its number alone.
pub record HaveLists (lines : List RecipeLine) : Type 0 where
  pub loads : IsLoadsList (recipe_loads lines 1)
  pub files : IsFilesList (recipe_files unread lines 1)
  pub batches : IsBatchesList (recipe_batches lines 1)

-- No header is too long, and no list breaks a limit of its format.
pub record HaveSizes (lines : List RecipeLine) : Type 0 where
  pub headers : HaveShortHeaders lines
  pub lists : HaveLists lines

-- a size is refused: that of the first header that is too long, or else that of a list
abbrev pub IsSizeFault : List RecipeLine → BuildFault → Type 0
IsSizeFault lines (HeaderTooLong line) = IsFirstLongHeader lines line
IsSizeFault lines ListTooLong = HaveShortHeaders lines × ¬ HaveLists lines
IsSizeFault lines (Absent name) = ⊥
IsSizeFault lines (TooLong name) = ⊥
IsSizeFault lines TooLarge = ⊥
IsSizeFault lines Failed = ⊥
IsSizeFault lines Memory = Unit {0}

-- what is answered only once all sizes were found right
abbrev pub IsAfterSizes : BuildFault → Type 0
IsAfterSizes (HeaderTooLong line) = ⊥
IsAfterSizes ListTooLong = ⊥
IsAfterSizes fault = Unit {0}

-- The sizes are tested first: a set is built, and a source refused, only where all are right.
abbrev pub AnswersSizes : List RecipeLine → Result Built BuildFault → Type 0
AnswersSizes lines (Ok built) = HaveSizes lines
AnswersSizes lines (Err fault) = IsSizeFault lines fault ⊎ (HaveSizes lines × IsAfterSizes fault)

-- ---- the sources

-- the source that a line names
abbrev pub source_of : Statement → Option (List ℕ)
source_of (Data file) = Some file.source
source_of (Support file) = Some file.source
source_of statement = None

abbrev pub source_in : Statement → List (List ℕ)
source_in statement = option_to_list (source_of statement)

-- the names of the sources of a load, in the order of its lines
abbrev pub sources_of : RecipeLoadView → List (List ℕ)
sources_of load = flat_map source_in load.own

-- those of all loads
abbrev pub source_names : List RecipeLine → List (List ℕ)
source_names lines = flat_map sources_of (loads_of lines)

-- the bytes that a host has under the names of sources
abbrev pub sources_in : Files → Sources
sources_in files name = contents (files name)

-- a host has a file of this name, of at most 16,777,215 bytes
pub record IsThere (files : Files) (name : List ℕ) : Type 0 where
  pub some : files name ≢ None
  pub short : IsShortOnHost files name

-- Each of these sources is there, and with this many other bytes they aren't too large.
pub record CanTake (files : Files) (others : ℕ) (names : List (List ℕ)) : Type 0 where
  pub there : All (IsThere files) names
  pub together : others + total_of files names ≤ largest_set

-- why a source is refused, beside this many other bytes
abbrev pub IsSourceFault : (files : Files) (others : ℕ) (name : List ℕ) → BuildFault → Type 0
IsSourceFault files others name (Absent refused) = (refused.items ≡ name) × (files name ≡ None)
IsSourceFault files others name (TooLong refused) = (refused.items ≡ name) × (longest_file < length_on_host files name)
IsSourceFault files others name TooLarge = IsThere files name × (largest_set < others + length_on_host files name)
IsSourceFault files others name (HeaderTooLong line) = ⊥
IsSourceFault files others name ListTooLong = ⊥
IsSourceFault files others name Failed = ⊥
IsSourceFault files others name Memory = ⊥

-- One of these sources is the first that is refused.
pub record IsFirstRefused (files : Files) (others : ℕ) (names : List (List ℕ)) (fault : BuildFault) : Type 0 where
  pub before : List (List ℕ)
  pub name : List ℕ
  pub after : List (List ℕ)
  pub stands : names ≡ before ++ name ∷ after
  pub taken : CanTake files others before
  pub refused : IsSourceFault files (others + total_of files before) name fault

-- What taking sources answers that are read one after the other: all of them, or the first that is refused. Failed and
-- Memory say nothing of the host's files.
abbrev pub TakesSources : {T : Type 0} → (others : ℕ) → (names : List (List ℕ)) → (IsTaken : Files → T → Type 0) → Result T BuildFault → Files → Type 0
TakesSources others names IsTaken (Ok x) files = CanTake files others names × IsTaken files x
TakesSources others names IsTaken (Err fault) files = (fault ≡ Failed) ⊎ ((fault ≡ Memory) ⊎ IsFirstRefused files others names fault)

-- The host's count of faults hasn't fallen. A building that fails raised it, by one, and no other did: it stops at the first
-- call that fails.
pub record HasBuildCause {T : Type 0} (before now : ℕ) (result : Result T BuildFault) : Type 0 where
  pub later : before ≤ now
  pub failed : IsErrOf result Failed → Rose before now
  pub once : now ≤ before + 1
  pub ok : OnOk result (now ≡ before)
  pub others : IfErr result (λ fault. fault ≢ Failed → now ≡ before)

-- the same where sources are read, once all sizes were found right
pub record HasSourceCause {T : Type 0} (before now : ℕ) (result : Result T BuildFault) : Type 0 where
  pub later : before ≤ now
  pub failed : IsErrOf result Failed → Rose before now
  pub once : now ≤ before + 1
  pub ok : OnOk result (now ≡ before)
  pub others : IfErr result (λ fault. fault ≢ Failed → now ≡ before)
  pub after : IfErr result IsAfterSizes

-- ---- what is built

-- What building answers of a host's files: the set that the recipe names, of the sources that the host has; or the
-- first source that is refused, beside the bytes of all headers and of the files of batches.
abbrev pub Builds : List RecipeLine → Result Built BuildFault → Files → Type 0
Builds lines (Ok built) files =
    CanTake files (fixed_length lines) (source_names lines) × (built_view built ≡ recipe_set (sources_in files) lines)
Builds lines (Err (Absent name)) files = IsFirstRefused files (fixed_length lines) (source_names lines) (Absent name)
Builds lines (Err (TooLong name)) files = IsFirstRefused files (fixed_length lines) (source_names lines) (TooLong name)
Builds lines (Err TooLarge) files = IsFirstRefused files (fixed_length lines) (source_names lines) TooLarge
Builds lines (Err (HeaderTooLong line)) files = Unit {0}
Builds lines (Err ListTooLong) files = Unit {0}
Builds lines (Err Failed) files = Unit {0}
Builds lines (Err Memory) files = Unit {0}

-- No body has more than 16,777,215 bytes, and all together have at most 268,435,456.
pub record IsSmallSet (built : Built) : Type 0 where
  pub bodies : HasShortBodies built
  pub together : sum_by (λ body. length body.bytes.items) built.bodies.items ≤ largest_set

-- ---- sizes of headers

-- the limits of the format are met by a header that isn't too long
abbrev pub IsHeaderIfShort : RecipeLoadView → Type 0
IsHeaderIfShort load = HasShortHeader load → IsHeader (header_start unread load)

-- the length of a header, or the refusal of one that is too long
abbrev pub AnswersHeader : RecipeLoadView → Result ℕ BuildFault → Type 0
AnswersHeader load (Ok length) = HasShortHeader load × (length ≡ header_length load)
AnswersHeader load (Err (HeaderTooLong line)) = (load.number ≡ line) × (65536 < header_length load)
AnswersHeader load (Err Memory) = Unit {0}
AnswersHeader load (Err fault) = ⊥

-- the same of all loads
abbrev pub AnswersHeaders : List RecipeLine → Result ℕ BuildFault → Type 0
AnswersHeaders lines (Ok length) = HaveShortHeaders lines × (length ≡ headers_length (loads_of lines))
AnswersHeaders lines (Err (HeaderTooLong line)) = IsFirstLongHeader lines line
AnswersHeaders lines (Err Memory) = Unit {0}
AnswersHeaders lines (Err fault) = ⊥

-- ---- reading the sources of a load

-- how many bytes files have together
abbrev pub files_length : LoadFilesView → ℕ
files_length files = sum_by (λ file. length file.bytes) files.data_files + sum_by (λ file. length file.bytes) files.support_files

-- A source that was read beside this many other bytes isn't too long, and they aren't too large together.
pub record IsSmallSource (others : ℕ) (bytes : Listed ℕ) : Type 0 where
  pub short : length bytes.items ≤ longest_file
  pub together : others + length bytes.items ≤ largest_set

-- What was read for one more line beside this many other bytes: the file that it names, if it names one, and the bytes
-- of all.
pub record ReadsLine (statement : Statement) (old : LoadFilesView) (others : ℕ) (new : LoadFilesView) (total : ℕ) : Type 0 where
  pub bytes : List ℕ
  pub is : new ≡ with_file old statement bytes
  pub short : length bytes ≤ longest_file
  pub total_is : total ≡ others + length bytes
  pub some : source_in statement ≡ [] → bytes ≡ []
  pub small : total ≤ largest_set

-- What was read for the lines of a load beside this many other bytes.
pub record ReadsFiles (own : List Statement) (others : ℕ) (files : LoadFilesView) (total : ℕ) : Type 0 where
  pub are : AreFiles own files
  pub total_is : total ≡ others + files_length files
  pub small : total ≤ largest_set

-- with the file that a line names, if it names one, of the bytes of its source
abbrev pub with_source : Sources → LoadFilesView → Statement → LoadFilesView
with_source sources old statement = record {
  data_files = old.data_files ++ map (bytes_from sources) (data_in statement);
  support_files = old.support_files ++ map (bytes_from sources) (support_in statement);
}

-- What was taken for one more line: the file of its source, and the bytes of all.
pub record TakesLine (statement : Statement) (old : LoadFilesView) (others : ℕ) (files : Files) (read : LoadFilesView × ℕ) : Type 0 where
  pub new : read.0 ≡ with_source (sources_in files) old statement
  pub total : read.1 ≡ others + total_of files (source_in statement)

-- What was taken for all lines of a load: the files of their sources, and the bytes of all.
pub record TakesFiles (own : List Statement) (others : ℕ) (files : Files) (read : LoadFilesView × ℕ) : Type 0 where
  pub new : read.0 ≡ files_from (sources_in files) own
  pub total : read.1 ≡ others + total_of files (flat_map source_in own)

-- ---- the files of the set

-- the name of a file, and the member that has it
abbrev pub body_place : BodyView → List ℕ × ℕ
body_place body = (body.name, body.member)

-- at most 16,777,215 bytes
abbrev pub IsShortView : BodyView → Type 0
IsShortView body = length body.bytes ≤ longest_file

-- how many bytes files have together
abbrev pub bodies_length : List BodyView → ℕ
bodies_length bodies = sum_by (λ body. length body.bytes) bodies

-- What a load adds to the files of the set beside this many bytes of headers and sources: its files, whatever their
-- bytes are, and the bytes of its sources.
pub record AddsLoad (load : RecipeLoadView) (others : ℕ) (old new : List BodyView) (total : ℕ) : Type 0 where
  pub bodies : List BodyView
  pub new_are : new ≡ old ++ bodies
  pub places : map body_place bodies ≡ map body_place (load_bodies unread load)
  pub short : All IsShortView bodies
  pub together : others + bodies_length bodies ≡ header_length load + total
  pub small : total ≤ largest_set

-- What was taken for a load: its files as the recipe names them, and the bytes of all.
pub record TakesLoad (load : RecipeLoadView) (others : ℕ) (old : List BodyView) (files : Files) (read : Listed Placed × ℕ) : Type 0 where
  pub new : map body_view read.0.items ≡ old ++ load_bodies (sources_in files) load
  pub total : read.1 ≡ others + total_of files (sources_of load)

-- These are the files of the loads, whatever their bytes are. None is too long, and beside this many other bytes they have no
-- more than headers and the largest set.
pub record AreLoadBodies (lines : List RecipeLine) (others : ℕ) (bodies : List BodyView) : Type 0 where
  pub places : map body_place bodies ≡ map body_place (flat_map (load_bodies unread) (loads_of lines))
  pub short : All IsShortView bodies
  pub together : others + bodies_length bodies ≤ headers_length (loads_of lines) + largest_set

-- These are the files of the set, whatever their bytes are; none is too long, and they aren't too large together.
pub record AreBodies (lines : List RecipeLine) (bodies : List BodyView) : Type 0 where
  pub places : map body_place bodies ≡ map body_place (recipe_bodies unread lines)
  pub short : All IsShortView bodies
  pub together : bodies_length bodies ≤ largest_set

-- ---- lists

-- the same list of another member
abbrev pub of_member : {E : Type 0} → ListView E → (member : ℕ) → ListView E
of_member list member = record { set = list.set; member = member; members = list.members; entries = list.entries; user = list.user }

abbrev pub loads_bytes : LoadsListView → List ℕ
loads_bytes list = concat (list_fields 0x9004 load_body_fields list)

abbrev pub files_bytes : FilesListView → List ℕ
files_bytes list = concat (list_fields 0xA004 file_body_fields list)

abbrev pub batches_bytes : BatchesListView → List ℕ
batches_bytes list = concat (list_fields 0xB004 batch_body_fields list)

-- the part number of a set, and how many members it has, as the first two lines of a recipe say
abbrev pub start_in : (first second : Statement) → Option (List ℕ × ℕ)
start_in (Set set) (Members members) = Some (set, members)
start_in first second = None

abbrev pub start_of : List RecipeLine → Option (List ℕ × ℕ)
start_of (first ∷ second ∷ later) = start_in first.statement second.statement
start_of lines = None

-- the list of loads of a recipe, or the refusal of one that breaks a limit of its format
abbrev pub AnswersLoads : List RecipeLine → Result LoadsList BuildFault → Type 0
AnswersLoads lines (Ok list) = (loads_list_view list ≡ recipe_loads lines 1) × IsLoadsList (recipe_loads lines 1)
AnswersLoads lines (Err ListTooLong) = ¬ IsLoadsList (recipe_loads lines 1)
AnswersLoads lines (Err Memory) = Unit {0}
AnswersLoads lines (Err fault) = ⊥

-- a list of files of a set with this list of loads
abbrev pub files_beside : LoadsListView → List Placed → (member : ℕ) → FilesListView
files_beside loads bodies member = record {
  set = loads.set;
  member = member;
  members = loads.members;
  entries = map (λ body. listed_body (body_view body)) bodies;
  user = [];
}

-- a list of these batches, of a set with this list of loads
abbrev pub batches_beside : LoadsListView → List RecipeBatchView → (member : ℕ) → BatchesListView
batches_beside loads batches member = record {
  set = loads.set;
  member = member;
  members = loads.members;
  entries = map batch_entry batches;
  user = [];
}

-- Each member has this list of loads, a list of these files, and one of these batches, if there are any.
pub record HasLists (loads : LoadsListView) (bodies : List Placed) (batches : List RecipeBatchView) (built : Built) : Type 0 where
  pub loads_are : map (λ list. list.items) built.loads.items ≡ map (λ member. loads_bytes (of_member loads member)) (range_with_len 1 loads.members)
  pub files_are : map (λ list. list.items) built.files.items ≡ map (λ member. files_bytes (files_beside loads bodies member)) (range_with_len 1 loads.members)
  pub batches_are : map (λ list. list.items) built.batches.items
      ≡ all_where_some batches (map (λ member. batches_bytes (batches_beside loads batches member)) (range_with_len 1 loads.members))
  pub bodies_are : built.bodies.items ≡ bodies
