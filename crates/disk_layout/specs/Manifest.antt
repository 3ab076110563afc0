-- The manifest of a configuration (docs/DISK.md).
use Rattle.std.specs.Prelude.{◌≡◌, ℕ, ◌<◌, ◌≤◌, List, [], ◌∷◌, ◌++◌, length, map, nat_le, ◌==◌, ◌&&◌, ◌||◌, is_none, true, Option, Some, None, Result, Ok}
use Rattle.std.specs.List.{All, concat, flat_map, sum_by}
use Rattle.load_base.specs.Host.{longest_file}
use Rattle.load_base.specs.Name.{IsName}
use Rattle.load_base.specs.PartText.{IsPartText}
use Rattle.load_base.specs.Verdicts.{name_fault_of, part_text_fault_of}
use Rattle.field_grammar.specs.Cursor.{Cursor}
use Rattle.field_grammar.specs.Grammar.{Grammar, Fault, read, give, choose, pair, mapped, ended, times, ◌>>=◌, ◌>>◌, ◌then◌}
use Rattle.field_grammar.specs.Fields.{number, raw, short, number_fields, short_fields}
use Rattle.disk_layout.specs.Offsets.{most_loads, most_files, layout_mark}
use Rattle.disk_layout.specs.Fields.{sound}
use Rattle.disk_layout.specs.declared.manifest.Layout.{Layout}
use Rattle.disk_layout.specs.declared.manifest.Layout.TheVariants as layouts
use Rattle.disk_layout.specs.declared.manifest.Manifest.{Manifest}
use Rattle.disk_layout.specs.declared.manifest.ManifestFault.{ManifestFault}
use Rattle.disk_layout.specs.declared.manifest.ManifestFault.TheVariants.{Wrong, Memory}
use Rattle.disk_layout.specs.declared.manifest.ManifestFile.{ManifestFile}
use Rattle.disk_layout.specs.declared.manifest.ManifestLoad.{ManifestLoad}
use Rattle.disk_layout.specs.declared.manifest.ManifestReader.{ManifestReader}

-- a load of a manifest, without the spare capacity of its list
pub record LoadEntry : Type 0 where
  pub part : List ℕ
  pub type_id : Option ℕ  -- none where the manifest is of layout 1
  pub files : List ManifestFile

abbrev pub entry_view : ManifestLoad → LoadEntry
entry_view load = record { part = load.part; type_id = load.type_id; files = load.files.items }

abbrev pub manifest_view : Manifest → List LoadEntry
manifest_view manifest = map entry_view manifest.loads.items

-- how many bytes these files have together
abbrev pub entries_length : List ManifestFile → ℕ
entries_length files = sum_by (λ (f : ManifestFile). f.length) files

-- how many bytes the files of these loads have together
abbrev pub total_length : List LoadEntry → ℕ
total_length loads = entries_length (flat_map (λ (l : LoadEntry). l.files) loads)

-- ---- the fields

-- the first two bytes: the mark of layout 2, or how many loads a manifest of layout 1 has, 32 at most
unfoldable pub first_number : Grammar ManifestFault ℕ
first_number = sound Wrong (number 2) (λ n. n == layout_mark || nat_le n most_loads)

-- how many loads there are, in two bytes: 32 at most
unfoldable pub load_count : Grammar ManifestFault ℕ
load_count = sound Wrong (number 2) (λ n. nat_le n most_loads)

-- a part number, in 15 bytes; its check characters aren't tested
unfoldable pub part : Grammar ManifestFault (List ℕ)
part = sound Wrong (raw 15) (λ text. is_none (part_text_fault_of text))

-- a type id, in two bytes; each number may be one
unfoldable pub type_number : Grammar ManifestFault ℕ
type_number = sound Wrong (number 2) (λ n. true)

-- the type id of a load, which layout 1 doesn't say
abbrev pub type_of_load : Layout → Grammar ManifestFault (Option ℕ)
type_of_load layouts.One = give None
type_of_load layouts.Two = mapped (λ n. Some n) type_number

-- how many files a load has, in two bytes: 1 to 256
unfoldable pub file_count : Grammar ManifestFault ℕ
file_count = sound Wrong (number 2) (λ n. nat_le 1 n && nat_le n most_files)

-- the name of a file, as a short text
unfoldable pub file_name : Grammar ManifestFault (List ℕ)
file_name = sound Wrong short (λ text. is_none (name_fault_of text))

-- how many bytes a file has, in four bytes
unfoldable pub file_length : Grammar ManifestFault ℕ
file_length = sound Wrong (number 4) (λ n. nat_le n longest_file)

-- ---- the whole

abbrev pub to_file : List ℕ × ℕ → ManifestFile
to_file p = record { name = p.0; length = p.1 }

-- a file: its name and its length
unfoldable pub file_entry : Grammar ManifestFault ManifestFile
file_entry = mapped to_file (pair file_name file_length)

-- a count, and that many files
abbrev pub counted_files : Grammar ManifestFault (List ManifestFile)
counted_files = do
  count ← file_count
  times count file_entry

abbrev pub to_load : List ℕ × (Option ℕ × List ManifestFile) → LoadEntry
to_load p = record { part = p.0; type_id = p.1.0; files = p.1.1 }

-- a load: its part number, in layout 2 its type id, a count, and that many files
unfoldable pub load_entry : Layout → Grammar ManifestFault LoadEntry
load_entry layout = mapped to_load (pair part (pair (type_of_load layout) counted_files))

-- how a manifest begins: its layout, and how many loads it has
pub record Head : Type 0 where
  pub layout : Layout
  pub loads : ℕ

abbrev pub in_layout : Layout → ℕ → Head
in_layout layout n = record { layout = layout; loads = n }

-- A manifest that begins with the mark has layout 2, and the number of its loads comes after that; every other has layout 1,
-- and begins with that number.
abbrev pub head_after : ℕ → Grammar ManifestFault Head
head_after first = choose (first == layout_mark) (mapped (in_layout layouts.Two) load_count) (give (in_layout layouts.One first))

unfoldable pub manifest_head : Grammar ManifestFault Head
manifest_head = do
  first ← first_number
  head_after first

-- that many loads, in that layout
abbrev pub counted_loads : Grammar ManifestFault (List LoadEntry)
counted_loads = do
  head ← manifest_head
  times head.loads (load_entry head.layout)

-- the loads, and nothing more
unfoldable pub manifest : Grammar ManifestFault (List LoadEntry)
manifest = do
  loads ← counted_loads
  ended Wrong
  give loads

-- ---- as it is read load by load

-- this many loads, and nothing more
abbrev pub loads_only : Layout → ℕ → Grammar ManifestFault (List LoadEntry)
loads_only layout n = do
  loads ← times n (load_entry layout)
  ended Wrong
  give loads

-- this many loads from a position on, or the first fault
abbrev pub loads_from : Layout → ℕ → Cursor → Result (List LoadEntry) ManifestFault
loads_from layout n c = read (loads_only layout n) c then (λ x. Ok x.0)

-- the loads that a reader has left, or the first fault
abbrev pub left_in : ManifestReader → Result (List LoadEntry) ManifestFault
left_in r = loads_from r.layout r.left r.reader

-- this many loads are left, where nothing is wrong
abbrev pub AreLeftIn : ManifestReader → ℕ → Type 0
AreLeftIn r n = (loads : List LoadEntry) → left_in r ≡ Ok loads → length loads ≡ n

-- these loads before those
abbrev pub with_these : List LoadEntry → Result (List LoadEntry) ManifestFault → Result (List LoadEntry) ManifestFault
with_these loads r = r then (λ more. Ok (loads ++ more))

-- ---- as it is written

abbrev pub file_entry_fields : ManifestFile → List (List ℕ)
file_entry_fields f = short_fields f.name ++ number_fields 4 f.length

-- the type id of a load, in layout 2; there none is without one (HasTypeOf)
abbrev pub type_fields : Layout → Option ℕ → List (List ℕ)
type_fields layouts.One t = []
type_fields layouts.Two None = []
type_fields layouts.Two (Some n) = number_fields 2 n

abbrev pub load_entry_fields : Layout → LoadEntry → List (List ℕ)
load_entry_fields layout l = (l.part ∷ []) ++ (type_fields layout l.type_id ++ (number_fields 2 (length l.files) ++ flat_map file_entry_fields l.files))

-- the mark, in layout 2, and the number of the loads
abbrev pub head_fields : Layout → ℕ → List (List ℕ)
head_fields layouts.One n = number_fields 2 n
head_fields layouts.Two n = number_fields 2 layout_mark ++ number_fields 2 n

abbrev pub manifest_fields : Layout → List LoadEntry → List (List ℕ)
manifest_fields layout loads = head_fields layout (length loads) ++ flat_map (load_entry_fields layout) loads

pub record FileFits (f : ManifestFile) : Type 0 where
  pub name : IsName f.name
  pub length : f.length ≤ longest_file

-- a load has a type id in layout 2, and none in layout 1
abbrev pub HasTypeOf : Layout → Option ℕ → Type 0
HasTypeOf layouts.One t = t ≡ None
HasTypeOf layouts.Two t = (n : ℕ) × (t ≡ Some n) × (n < 65536)

pub record LoadFits (layout : Layout) (l : LoadEntry) : Type 0 where
  pub part : IsPartText l.part
  pub type_id : HasTypeOf layout l.type_id
  pub some : 1 ≤ length l.files
  pub count : length l.files ≤ most_files
  pub files : All (λ (f : ManifestFile). FileFits f) l.files

-- what a manifest of a layout can say
pub record ManifestFits (layout : Layout) (loads : List LoadEntry) : Type 0 where
  pub count : length loads ≤ most_loads
  pub each : All (λ (l : LoadEntry). LoadFits layout l) loads

-- what a manifest can say, in one layout or the other
pub record FitsALayout (loads : List LoadEntry) : Type 0 where
  pub layout : Layout
  pub fits : ManifestFits layout loads

-- the bytes are the fields of these loads in one of the layouts
abbrev pub IsManifestText : List ℕ → List LoadEntry → Type 0
IsManifestText bytes loads = (layout : Layout) × ManifestFits layout loads × (bytes ≡ concat (manifest_fields layout loads))

-- the bytes are no manifest from this offset on, or out of memory
abbrev pub RefusesManifestBytes : List ℕ → ManifestFault → Type 0
RefusesManifestBytes bytes (Wrong offset) = Fault manifest bytes (Wrong offset) × (offset ≤ length bytes)
RefusesManifestBytes bytes Memory = Unit {0}
