-- How a load header is written, field by field (docs/FORMATS.md).
use Rattle.std.specs.Prelude.{◌≡◌, ℕ, ◌+◌, ◌/◌, ◌%◌, ◌<◌, ◌≤◌, ◌^◌, List, ◌++◌, length}
use Rattle.std.specs.List.{concat, flat_map, AllByRecursion}
use Rattle.crc_fields.specs.CheckSums.{crc16_of}
use Rattle.load_base.specs.Name.{IsName}
use Rattle.load_base.specs.Text.{IsText}
use Rattle.part_number.specs.PartNumber.{IsPartNumberText}
use Rattle.field_grammar.specs.Grammar.{IsBytes}
use Rattle.field_grammar.specs.Spelling.{spelled_length}
use Rattle.field_grammar.specs.Fields.{number_fields, padded_fields}
use Rattle.header_sections.specs.SectionFields.{texts_fields, user_fields, entries_fields}
use Rattle.load_header.specs.Header.{HeaderView, HardwareAtView}
use Rattle.load_header.specs.declared.header.FileEntry.{FileEntry}
use Rattle.load_header.specs.declared.reading.Pointers.{Pointers}

-- ---- the sections

-- a kind of hardware and its positions
abbrev pub hardware_at_fields : HardwareAtView → List (List ℕ)
hardware_at_fields h = padded_fields h.hardware ++ texts_fields h.positions

-- a count, and the kinds of hardware with their positions
unfoldable pub positions_fields : List HardwareAtView → List (List ℕ)
positions_fields list = number_fields 2 (length list) ++ flat_map hardware_at_fields list

-- the fields of a file's entry after the distance: the length in words is that in bytes, halved and rounded up
unfoldable pub file_body_fields : FileEntry → List (List ℕ)
file_body_fields file =
    padded_fields file.name ++ (padded_fields file.part ++ (number_fields 4 ((file.length + 1) / 2) ++ (number_fields 8 file.length ++ number_fields 2 file.crc16)))

-- a count, and the entries
abbrev pub files_fields : List FileEntry → List (List ℕ)
files_fields files = entries_fields file_body_fields files

unfoldable pub type_fields : HeaderView → List (List ℕ)
type_fields h = padded_fields h.type_name ++ number_fields 2 h.type_id

-- ---- where the sections begin

-- the head has 40 bytes
abbrev pub head_size : ℕ
head_size = 40

abbrev pub type_offset : HeaderView → ℕ
type_offset h = head_size + spelled_length (padded_fields h.part)

abbrev pub hardware_offset : HeaderView → ℕ
hardware_offset h = type_offset h + spelled_length (type_fields h)

abbrev pub positions_offset : HeaderView → ℕ
positions_offset h = hardware_offset h + spelled_length (texts_fields h.hardware)

abbrev pub data_offset : HeaderView → ℕ
data_offset h = positions_offset h + spelled_length (positions_fields h.positions)

abbrev pub support_offset : HeaderView → ℕ
support_offset h = data_offset h + spelled_length (files_fields h.data_files)

abbrev pub user_offset : HeaderView → ℕ
user_offset h = support_offset h + spelled_length (files_fields h.support_files)

abbrev pub check_offset : HeaderView → ℕ
check_offset h = user_offset h + spelled_length (user_fields h.user)

-- the whole: the length of the check value, the check sum of the header and that of the load have 8 bytes
unfoldable pub header_size : HeaderView → ℕ
header_size h = check_offset h + 8

-- the pointers: half the offsets
unfoldable pub pointers_of : HeaderView → Pointers
pointers_of h = record {
  part = head_size / 2;
  type_name = type_offset h / 2;
  hardware = hardware_offset h / 2;
  positions = positions_offset h / 2;
  data_files = data_offset h / 2;
  support_files = support_offset h / 2;
  user = user_offset h / 2;
  check_value = check_offset h / 2;
}

-- ---- the whole

unfoldable pub pointers_fields : Pointers → List (List ℕ)
pointers_fields p =
    number_fields 4 p.part ++ (number_fields 4 p.type_name ++ (number_fields 4 p.hardware ++ (number_fields 4 p.positions
    ++ (number_fields 4 p.data_files ++ (number_fields 4 p.support_files ++ (number_fields 4 p.user ++ number_fields 4 p.check_value))))))

-- the head of a header of `size` bytes
unfoldable pub head_fields : ℕ → ℕ → Pointers → List (List ℕ)
head_fields size flags offsets = number_fields 4 (size / 2) ++ (number_fields 2 0x8004 ++ (number_fields 2 flags ++ pointers_fields offsets))

unfoldable pub identity_fields : HeaderView → List (List ℕ)
identity_fields h = padded_fields h.part ++ type_fields h

unfoldable pub targets_fields : HeaderView → List (List ℕ)
targets_fields h = texts_fields h.hardware ++ positions_fields h.positions

unfoldable pub all_files_fields : HeaderView → List (List ℕ)
all_files_fields h = files_fields h.data_files ++ files_fields h.support_files

-- all sections, the last of which is the length of the check value
unfoldable pub sections_fields : HeaderView → List (List ℕ)
sections_fields h = identity_fields h ++ (targets_fields h ++ (all_files_fields h ++ (user_fields h.user ++ number_fields 2 0)))

-- what the header's check sum covers
unfoldable pub covered_fields : HeaderView → List (List ℕ)
covered_fields h = head_fields (header_size h) h.flags (pointers_of h) ++ sections_fields h

unfoldable pub header_fields : HeaderView → List (List ℕ)
header_fields h = covered_fields h ++ (number_fields 2 (crc16_of (concat (covered_fields h))) ++ number_fields 4 h.load_crc)

-- ---- what can be written

-- at most 65,535 texts
abbrev pub AreTexts : List (List ℕ) → Type 0
AreTexts texts = (length texts < 2 ^ 16) × AllByRecursion IsText texts

abbrev pub IsHardwareAt : HardwareAtView → Type 0
IsHardwareAt h = IsText h.hardware × AreTexts h.positions

-- at most 16,777,215 bytes
pub record IsHeaderFile (file : FileEntry) : Type 0 where
  pub name : IsName file.name
  pub part : IsText file.part
  pub size : file.length ≤ 16777215
  pub sum : file.crc16 < 2 ^ 16

-- A header of at most 65,536 bytes and 255 files, with an even number of bytes of user data.
pub record IsHeader (h : HeaderView) : Type 0 where
  pub flags : h.flags < 2 ^ 16
  pub part : IsPartNumberText h.part
  pub type_name : IsText h.type_name
  pub type_id : h.type_id < 2 ^ 16
  pub hardware : AreTexts h.hardware
  pub positions_count : length h.positions < 2 ^ 16
  pub positions : AllByRecursion IsHardwareAt h.positions
  pub data_files : AllByRecursion IsHeaderFile h.data_files
  pub support_files : AllByRecursion IsHeaderFile h.support_files
  pub files : length h.data_files + length h.support_files ≤ 255
  pub user : IsBytes h.user
  pub user_even : length h.user % 2 ≡ 0
  pub load_crc : h.load_crc < 2 ^ 32
  pub size : header_size h ≤ 65536

-- The header has this one spelling, and can be written.
abbrev pub HeaderSpells : HeaderView → List ℕ → Type 0
HeaderSpells h bytes = IsHeader h × (bytes ≡ concat (header_fields h))
