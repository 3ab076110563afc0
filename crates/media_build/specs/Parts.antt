-- The parts of a load, as building gathers them from its lines.
use Rattle.std.specs.Prelude.{◌≡◌, ℕ, ◌≤◌, List, All, length, [], ◌∷◌, ◌++◌, map, slice_index_or, slice_set, Option, Some, None, if◌then◌else◌, ◌-◌, take}
use Rattle.std.specs.List.{flat_map}
use Rattle.crc_fields.specs.CheckSums.{crc16_of, crc32_of}
use Rattle.load_base.specs.Bytes.{same_bytes}
use Rattle.load_base.specs.Host.{longest_file}
use Rattle.load_header.specs.Header.{HeaderView, HardwareAtView}
use Rattle.load_header.specs.HeaderChanges.{with_load_crc}
use Rattle.load_header.specs.declared.header.FileEntry.{FileEntry}
use Rattle.media_build.specs.RecipeSets.{RecipeLoadView, BodyView, Sources, bytes_of, hardware_of, gathered, position_in, data_in, support_in, user_in, header_bytes}
use Rattle.media_build.specs.declared.statements.BatchLine.{BatchLine}
use Rattle.media_build.specs.declared.statements.FileLine.{FileLine}
use Rattle.media_build.specs.declared.statements.LoadLine.{LoadLine}
use Rattle.media_build.specs.declared.statements.RecipeLine.{RecipeLine}
use Rattle.media_build.specs.declared.statements.Statement.{Statement}
use Rattle.media_build.specs.declared.statements.Statement.TheVariants.{Load, Batch}

-- what lines say
abbrev pub statements : List RecipeLine → List Statement
statements lines = map (λ line. line.statement) lines

-- the load that a line begins
abbrev pub load_of : Statement → Option LoadLine
load_of (Load load) = Some load
load_of statement = None

-- the batch that a line begins
abbrev pub batch_line_of : Statement → Option BatchLine
batch_line_of (Batch batch) = Some batch
batch_line_of statement = None

-- ---- files with their bytes

-- a data or support file, and the bytes of its source
pub record FileBytes : Type 0 where
  pub line : FileLine
  pub bytes : List ℕ

abbrev pub bytes_from : Sources → FileLine → FileBytes
bytes_from sources line = record { line = line; bytes = bytes_of sources line }

-- a file, as a header names it
abbrev pub entry_of : FileBytes → FileEntry
entry_of file = record { name = file.line.name; part = file.line.part; length = length file.bytes; crc16 = crc16_of file.bytes }

-- at most 16,777,215 bytes
abbrev pub IsShortSource : FileBytes → Type 0
IsShortSource file = length file.bytes ≤ longest_file

-- the files of a load, kind by kind
pub record LoadFilesView : Type 0 where
  pub data_files : List FileBytes
  pub support_files : List FileBytes

-- with the file that a line names, if it names one, of these bytes
abbrev pub with_file : LoadFilesView → Statement → List ℕ → LoadFilesView
with_file files statement bytes = record {
  data_files = files.data_files ++ map (λ line. let file : FileBytes = record { line = line; bytes = bytes } in file) (data_in statement);
  support_files = files.support_files ++ map (λ line. let file : FileBytes = record { line = line; bytes = bytes } in file) (support_in statement);
}

-- the files that lines of a load name, of sources with these bytes
abbrev pub files_from : Sources → List Statement → LoadFilesView
files_from sources own = record {
  data_files = map (bytes_from sources) (flat_map data_in own);
  support_files = map (bytes_from sources) (flat_map support_in own);
}

-- these files are those that lines of a load name, each with at most 16,777,215 bytes
pub record AreFiles (own : List Statement) (files : LoadFilesView) : Type 0 where
  pub data_lines : map (λ file. file.line) files.data_files ≡ flat_map data_in own
  pub support_lines : map (λ file. file.line) files.support_files ≡ flat_map support_in own
  pub data_short : All IsShortSource files.data_files
  pub support_short : All IsShortSource files.support_files

-- the header of a load with these files, but for its load CRC, which is 0
unfoldable pub header_with : RecipeLoadView → LoadFilesView → HeaderView
header_with load files = record {
  flags = 0;
  part = load.load.part;
  type_name = load.load.type_name;
  type_id = load.load.type_id;
  hardware = hardware_of load;
  positions = gathered (flat_map position_in load.own);
  data_files = map entry_of files.data_files;
  support_files = map entry_of files.support_files;
  user = flat_map user_in load.own;
  load_crc = 0;
}

-- ---- positions

-- a hardware with one position
abbrev pub one_position : (hardware position : List ℕ) → HardwareAtView
one_position hardware position = record { hardware = hardware; positions = position ∷ [] }

-- one more position: at the first kind of its hardware, or as a new kind at the end
abbrev pub with_position : (hardware position : List ℕ) → List HardwareAtView → List HardwareAtView
with_position hardware position [] = one_position hardware position ∷ []
with_position hardware position (kind ∷ kinds) =
    if same_bytes hardware kind.hardware then record { hardware = kind.hardware; positions = kind.positions ++ position ∷ [] } ∷ kinds
    else kind ∷ with_position hardware position kinds

-- the same with some
abbrev pub positioned : List HardwareAtView → List (List ℕ × List ℕ) → List HardwareAtView
positioned kinds [] = kinds
positioned kinds (pair ∷ pairs) = positioned (with_position pair.0 pair.1 kinds) pairs

-- The kind at this index has one more position, and each other is as it was.
pub record HasOneMore (index : ℕ) (position : List ℕ) (old new : List HardwareAtView) : Type 0 where
  pub kind : HardwareAtView
  pub hardware : kind.hardware ≡ (slice_index_or old index kind).hardware
  pub positions : kind.positions ≡ (slice_index_or old index kind).positions ++ position ∷ []
  pub is : new ≡ slice_set old index kind

-- ---- files of the set

-- a file, as one of the set
abbrev pub body_of : FileBytes → BodyView
body_of file = record { name = file.line.name; member = file.line.member; bytes = file.bytes }

-- the data files and then the support files
abbrev pub all_files : LoadFilesView → List FileBytes
all_files files = files.data_files ++ files.support_files

-- the CRC-32 over the header of a load but its last 4 bytes, and over its files
unfoldable pub crc_with : RecipeLoadView → LoadFilesView → ℕ
crc_with load files =
    let start = header_bytes (header_with load files) in
    crc32_of (take (length start - 4) start ++ flat_map (λ file. file.bytes) (all_files files))

-- the whole header of a load with these files
unfoldable pub whole_header : RecipeLoadView → LoadFilesView → HeaderView
whole_header load files = with_load_crc (header_with load files) (crc_with load files)

-- the header of a load, its data files and its support files
unfoldable pub bodies_with : RecipeLoadView → LoadFilesView → List BodyView
bodies_with load files =
    record { name = load.load.name; member = load.load.member; bytes = header_bytes (whole_header load files) } ∷ map body_of (all_files files)
