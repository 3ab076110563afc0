-- The media set that a recipe names (docs/FORMATS.md, "Recipe").
use Rattle.std.specs.Prelude.{ℕ, ◌-◌, List, [], ◌∷◌, ◌++◌, length, map, filter, take, codes, not, Option, Some, None}
use Rattle.std.specs.List.{concat, flat_map, range_with_len, take_while}
use Rattle.batch_lists.specs.Batch.{BatchView, BatchTargetView}
use Rattle.batch_lists.specs.BatchFields.{batch_fields}
use Rattle.batch_lists.specs.Batches.{BatchesListView, batch_body_fields}
use Rattle.batch_lists.specs.declared.batches.BatchEntry.{BatchEntry}
use Rattle.crc_fields.specs.CheckSums.{crc16_of, crc32_of}
use Rattle.load_base.specs.Bytes.{same_bytes}
use Rattle.load_header.specs.Header.{HeaderView, HardwareAtView}
use Rattle.load_header.specs.HeaderFields.{header_fields}
use Rattle.load_header.specs.HeaderChanges.{with_load_crc}
use Rattle.load_header.specs.declared.header.FileEntry.{FileEntry}
use Rattle.media_lists.specs.Files.{FilesListView, file_body_fields}
use Rattle.media_lists.specs.ListFields.{list_fields}
use Rattle.media_lists.specs.Loads.{LoadsListView, LoadEntryView, load_body_fields}
use Rattle.media_lists.specs.declared.lists.ListedFile.{ListedFile}
use Rattle.media_build.specs.Lines.{ends_load, is_target, members_of}
use Rattle.media_build.specs.declared.statements.BatchLine.{BatchLine}
use Rattle.media_build.specs.declared.statements.FileLine.{FileLine}
use Rattle.media_build.specs.declared.statements.LoadLine.{LoadLine}
use Rattle.media_build.specs.declared.statements.RecipeLine.{RecipeLine}
use Rattle.media_build.specs.declared.statements.Statement.{Statement}
use Rattle.media_build.specs.declared.statements.Statement.TheVariants.{Set, Load, Hardware, Position, Data, Support, User, Batch, Target}
use Rattle.media_build.specs.declared.statements.TargetLine.{TargetLine}

-- ---- what single lines say

abbrev pub set_in : Statement → List (List ℕ)
set_in (Set part) = part ∷ []
set_in statement = []

abbrev pub hardware_in : Statement → List (List ℕ)
hardware_in (Hardware id) = id ∷ []
hardware_in statement = []

-- a hardware and a position of it
abbrev pub position_in : Statement → List (List ℕ × List ℕ)
position_in (Position hardware position) = (hardware, position) ∷ []
position_in statement = []

abbrev pub data_in : Statement → List FileLine
data_in (Data file) = file ∷ []
data_in statement = []

abbrev pub support_in : Statement → List FileLine
support_in (Support file) = file ∷ []
support_in statement = []

abbrev pub user_in : Statement → List ℕ
user_in (User bytes) = bytes
user_in statement = []

-- ---- loads

-- a load: the number of its line, what that says, and what the lines say that follow it up to the next load or batch
pub record RecipeLoadView : Type 0 where
  pub number : ℕ
  pub load : LoadLine
  pub own : List Statement

-- the load that begins with this line, if one does
abbrev pub load_at : (number : ℕ) → Statement → (later : List RecipeLine) → List RecipeLoadView
load_at number (Load load) later = record {
  number = number;
  load = load;
  own = map (λ line. line.statement) (take_while (λ line. not (ends_load line.statement)) later);
} ∷ []
load_at number statement later = []

-- the loads of a recipe, in their order
abbrev pub loads_of : List RecipeLine → List RecipeLoadView
loads_of [] = []
loads_of (line ∷ later) = load_at line.number line.statement later ++ loads_of later

-- ---- batches

abbrev pub targets_in : Statement → List TargetLine
targets_in (Target target) = target ∷ []
targets_in statement = []

-- a batch: what its line says, and the targets on the lines that follow it
pub record RecipeBatchView : Type 0 where
  pub batch : BatchLine
  pub targets : List TargetLine

-- the batch that begins with this line, if one does
abbrev pub batch_at : Statement → (later : List RecipeLine) → List RecipeBatchView
batch_at (Batch batch) later = record {
  batch = batch;
  targets = flat_map (λ line. targets_in line.statement) (take_while (λ line. is_target line.statement) later);
} ∷ []
batch_at statement later = []

-- the batches of a recipe, in their order
abbrev pub batches_of : List RecipeLine → List RecipeBatchView
batches_of [] = []
batches_of (line ∷ later) = batch_at line.statement later ++ batches_of later

-- ---- what a load says

abbrev pub hardware_of : RecipeLoadView → List (List ℕ)
hardware_of load = flat_map hardware_in load.own

abbrev pub data_of : RecipeLoadView → List FileLine
data_of load = flat_map data_in load.own

abbrev pub support_of : RecipeLoadView → List FileLine
support_of load = flat_map support_in load.own

-- the data files and then the support files
abbrev pub files_of : RecipeLoadView → List FileLine
files_of load = data_of load ++ support_of load

-- each of these texts once, where it stands first
abbrev pub distinct : List (List ℕ) → List (List ℕ)
distinct [] = []
distinct (text ∷ texts) = text ∷ filter (λ other. not (same_bytes text other)) (distinct texts)

-- all positions of this hardware
abbrev pub positions_at : List (List ℕ × List ℕ) → (hardware : List ℕ) → HardwareAtView
positions_at pairs hardware = record { hardware = hardware; positions = map (λ pair. pair.1) (filter (λ pair. same_bytes hardware pair.0) pairs) }

-- The positions of a load are gathered by their hardware, in the order of the first line of each.
abbrev pub gathered : List (List ℕ × List ℕ) → List HardwareAtView
gathered pairs = map (positions_at pairs) (distinct (map (λ pair. pair.0) pairs))

-- ---- headers

-- the bytes of the sources, by the host's names
abbrev pub Sources : Type 0
Sources = List ℕ → List ℕ

abbrev pub bytes_of : Sources → FileLine → List ℕ
bytes_of sources file = sources file.source

-- a file, as a header names it
abbrev pub file_entry : Sources → FileLine → FileEntry
file_entry sources file = record { name = file.name; part = file.part; length = length (bytes_of sources file); crc16 = crc16_of (bytes_of sources file) }

-- the header of a load but for its load CRC, which is 0
unfoldable pub header_start : Sources → RecipeLoadView → HeaderView
header_start sources load = record {
  flags = 0;
  part = load.load.part;
  type_name = load.load.type_name;
  type_id = load.load.type_id;
  hardware = hardware_of load;
  positions = gathered (flat_map position_in load.own);
  data_files = map (file_entry sources) (data_of load);
  support_files = map (file_entry sources) (support_of load);
  user = flat_map user_in load.own;
  load_crc = 0;
}

abbrev pub header_bytes : HeaderView → List ℕ
header_bytes h = concat (header_fields h)

-- the CRC-32 over the header but its last 4 bytes, and its files
unfoldable pub load_crc_of : Sources → RecipeLoadView → ℕ
load_crc_of sources load =
    let start = header_bytes (header_start sources load) in
    crc32_of (take (length start - 4) start ++ flat_map (bytes_of sources) (files_of load))

-- the header of a load
unfoldable pub header_of : Sources → RecipeLoadView → HeaderView
header_of sources load = with_load_crc (header_start sources load) (load_crc_of sources load)

-- ---- files

-- a file of the set: its name, its member and its bytes
pub record BodyView : Type 0 where
  pub name : List ℕ
  pub member : ℕ
  pub bytes : List ℕ

abbrev pub file_body : Sources → FileLine → BodyView
file_body sources file = record { name = file.name; member = file.member; bytes = bytes_of sources file }

-- the header of a load, its data files and its support files
unfoldable pub load_bodies : Sources → RecipeLoadView → List BodyView
load_bodies sources load =
    record { name = load.load.name; member = load.load.member; bytes = header_bytes (header_of sources load) } ∷ map (file_body sources) (files_of load)

abbrev pub batch_target : TargetLine → BatchTargetView
batch_target target = record { hw = target.hw; pos = target.pos; parts = target.parts }

-- a batch, as its file has it
abbrev pub batch_of : RecipeBatchView → BatchView
batch_of batch = record { part = batch.batch.part; targets = map batch_target batch.targets }

abbrev pub batch_body : RecipeBatchView → BodyView
batch_body batch = record { name = batch.batch.name; member = batch.batch.member; bytes = concat (batch_fields (batch_of batch)) }

-- All files of the set, load by load, and then those of the batches.
unfoldable pub recipe_bodies : Sources → List RecipeLine → List BodyView
recipe_bodies sources lines = flat_map (load_bodies sources) (loads_of lines) ++ map batch_body (batches_of lines)

-- ---- lists

-- the part number of the set
abbrev pub set_of : List RecipeLine → List ℕ
set_of lines = concat (flat_map (λ line. set_in line.statement) lines)

abbrev pub load_entry : RecipeLoadView → LoadEntryView
load_entry load = record { part = load.load.part; header_name = load.load.name; member = load.load.member; hardware = hardware_of load }

-- `LOADS.LUM` of a member
unfoldable pub recipe_loads : List RecipeLine → (member : ℕ) → LoadsListView
recipe_loads lines member = record { set = set_of lines; member = member; members = members_of lines; entries = map load_entry (loads_of lines); user = [] }

abbrev pub listed_body : BodyView → ListedFile
listed_body body = record { name = body.name; path = codes "\\"; member = body.member; crc16 = crc16_of body.bytes }

-- `FILES.LUM` of a member
unfoldable pub recipe_files : Sources → List RecipeLine → (member : ℕ) → FilesListView
recipe_files sources lines member = record {
  set = set_of lines;
  member = member;
  members = members_of lines;
  entries = map listed_body (recipe_bodies sources lines);
  user = [];
}

abbrev pub batch_entry : RecipeBatchView → BatchEntry
batch_entry batch = record { part = batch.batch.part; file = batch.batch.name; member = batch.batch.member }

-- `BATCHES.LUM` of a member
unfoldable pub recipe_batches : List RecipeLine → (member : ℕ) → BatchesListView
recipe_batches lines member = record { set = set_of lines; member = member; members = members_of lines; entries = map batch_entry (batches_of lines); user = [] }

unfoldable pub loads_list_bytes : List RecipeLine → (member : ℕ) → List ℕ
loads_list_bytes lines member = concat (list_fields 0x9004 load_body_fields (recipe_loads lines member))

unfoldable pub files_list_bytes : Sources → List RecipeLine → (member : ℕ) → List ℕ
files_list_bytes sources lines member = concat (list_fields 0xA004 file_body_fields (recipe_files sources lines member))

unfoldable pub batches_list_bytes : List RecipeLine → (member : ℕ) → List ℕ
batches_list_bytes lines member = concat (list_fields 0xB004 batch_body_fields (recipe_batches lines member))

-- something, where some stand there, and else nothing
abbrev pub where_some : {A B : Type 0} → List A → B → Option B
where_some [] value = None
where_some (x ∷ xs) value = Some value

-- the same of a list
abbrev pub all_where_some : {A B : Type 0} → List A → List B → List B
all_where_some [] values = []
all_where_some (x ∷ xs) values = values

-- `BATCHES.LUM` of a member; none has one where the recipe has no batch
abbrev pub batches_list_of : List RecipeLine → (member : ℕ) → Option (List ℕ)
batches_list_of lines member = where_some (batches_of lines) (batches_list_bytes lines member)

-- ---- the whole

-- A set that is built: the lists of each member, and the files in the order of FILES.LUM.
pub record BuiltView : Type 0 where
  pub loads : List (List ℕ)
  pub files : List (List ℕ)
  pub batches : List (List ℕ)
  pub bodies : List BodyView

-- The set that a recipe names, of sources with these bytes.
unfoldable pub recipe_set : Sources → List RecipeLine → BuiltView
recipe_set sources lines = record {
  loads = map (loads_list_bytes lines) (range_with_len 1 (members_of lines));
  files = map (files_list_bytes sources lines) (range_with_len 1 (members_of lines));
  batches = all_where_some (batches_of lines) (map (batches_list_bytes lines) (range_with_len 1 (members_of lines)));
  bodies = recipe_bodies sources lines;
}
