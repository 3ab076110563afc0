-- Load headers (docs/FORMATS.md).
use Rattle.std.specs.Prelude.{ℕ, ◌+◌, ◌/◌, List, [], length, map, nat_le, ◌==◌, Bool, ◌&&◌}
use Rattle.crc_fields.specs.CheckSums.{crc16_of}
use Rattle.field_grammar.specs.Grammar.{Grammar, give, check, prefix, left, renamed, times, listed, ◌>>=◌, ◌>>◌}
use Rattle.field_grammar.specs.Fields.{number}
use Rattle.field_grammar.specs.declared.fault.FieldFault.{FieldFault}
use Rattle.field_grammar.specs.declared.fault.FieldFault.TheVariants as fields
use Rattle.header_sections.specs.Sections.{text, name, part, texts, start, section_at, user_data, entry, end}
use Rattle.header_sections.specs.declared.fault.SectionFault.{SectionFault}
use Rattle.header_sections.specs.declared.fault.SectionFault.TheVariants as sections
use Rattle.load_header.specs.declared.fault.HeaderFault.{HeaderFault}
use Rattle.load_header.specs.declared.fault.HeaderFault.TheVariants as faults
use Rattle.load_header.specs.declared.header.FileEntry.{FileEntry}
use Rattle.load_header.specs.declared.header.HardwareAt.{HardwareAt}
use Rattle.load_header.specs.declared.header.LoadHeader.{LoadHeader}
use Rattle.load_header.specs.declared.reading.Pointers.{Pointers}

-- ---- what a header holds, without the spare capacity of its lists

pub record HardwareAtView : Type 0 where
  pub hardware : List ℕ
  pub positions : List (List ℕ)

pub record HeaderView : Type 0 where
  pub flags : ℕ
  pub part : List ℕ
  pub type_name : List ℕ
  pub type_id : ℕ
  pub hardware : List (List ℕ)
  pub positions : List HardwareAtView
  pub data_files : List FileEntry
  pub support_files : List FileEntry
  pub user : List ℕ
  pub load_crc : ℕ

abbrev pub hardware_at_view : HardwareAt → HardwareAtView
hardware_at_view h = record { hardware = h.hardware; positions = h.positions.items }

abbrev pub header_view : LoadHeader → HeaderView
header_view h = record {
  flags = h.flags;
  part = h.part;
  type_name = h.type_name;
  type_id = h.type_id;
  hardware = h.hardware.items;
  positions = map hardware_at_view h.positions.items;
  data_files = h.data_files.items;
  support_files = h.support_files.items;
  user = h.user.items;
  load_crc = h.load_crc;
}

-- ---- fields

-- the refusal of a field, as that of a header
abbrev pub named : FieldFault → HeaderFault
named (fields.Short offset) = faults.Short offset
named (fields.BadPad offset) = faults.Pad offset

abbrev pub u16 : Grammar HeaderFault ℕ
u16 = renamed named (number 2)

abbrev pub u32 : Grammar HeaderFault ℕ
u32 = renamed named (number 4)

-- the refusal of a piece that headers share with the lists of a media set, as that of a header
abbrev pub refused : SectionFault → HeaderFault
refused (sections.Short offset) = faults.Short offset
refused (sections.Pad offset) = faults.Pad offset
refused (sections.Length said found) = faults.Length said found
refused (sections.Version found) = faults.Version found
refused (sections.Pointer which said expected) = faults.Pointer which said expected
refused (sections.Name offset fault) = faults.Name offset fault
refused (sections.Part offset fault) = faults.Part fault
refused (sections.Text offset fault) = faults.Text offset fault
refused (sections.Rest offset) = faults.Rest offset
refused (sections.Sum said found) = faults.HeaderCrc said found
refused sections.Memory = faults.Memory

abbrev pub shared : {A : Type 0} → Grammar SectionFault A → Grammar HeaderFault A
shared piece = renamed refused piece

-- a count, and the texts
unfoldable pub counted_texts : Grammar HeaderFault (List (List ℕ))
counted_texts = do
  count ← u16
  shared (texts count)

-- ---- the head

-- four pointers
unfoldable pub four : Grammar HeaderFault (ℕ × ℕ × ℕ × ℕ)
four = do
  a ← u32
  b ← u32
  c ← u32
  d ← u32
  give (a, b, c, d)

-- the pointers to the eight sections
unfoldable pub pointers : Grammar HeaderFault Pointers
pointers = do
  a ← four
  b ← four
  give (record { part = a.0; type_name = a.1; hardware = a.2; positions = a.3; data_files = b.0; support_files = b.1; user = b.2; check_value = b.3 })

-- the length in words, the version, the flags and the pointers
unfoldable pub head : Grammar HeaderFault (ℕ × Pointers)
head = do
  _ ← shared (start 0x8004)
  flags ← u16
  offsets ← pointers
  give (flags, offsets)

-- ---- what the load is, and what it is for

-- the part number, the name of the type and its number
unfoldable pub identity : Pointers → Grammar HeaderFault (List ℕ × List ℕ × ℕ)
identity offsets = do
  shared (section_at 1 offsets.part)
  number ← shared part
  shared (section_at 2 offsets.type_name)
  type_name ← shared text
  id ← u16
  give (number, type_name, id)

-- a kind of hardware and its positions
unfoldable pub hardware_at : Grammar HeaderFault HardwareAtView
hardware_at = do
  hardware ← shared text
  positions ← counted_texts
  give (record { hardware = hardware; positions = positions })

-- a count, and the kinds of hardware with their positions
unfoldable pub positions : Grammar HeaderFault (List HardwareAtView)
positions = do
  count ← u16
  times count hardware_at

-- the hardware that the load is for, and its positions
unfoldable pub targets : Pointers → Grammar HeaderFault (List (List ℕ) × List HardwareAtView)
targets offsets = do
  shared (section_at 3 offsets.hardware)
  hardware ← counted_texts
  shared (section_at 4 offsets.positions)
  at ← positions
  give (hardware, at)

-- ---- files

-- at most 16,777,215 bytes, in words rounded up
abbrev pub is_size : ℕ → ℕ → Bool
is_size words bytes = nat_le bytes 16777215 && (words == (bytes + 1) / 2)

-- the length of this file in words and in bytes
unfoldable pub file_size : ℕ → Grammar HeaderFault ℕ
file_size file = do
  words ← u32
  bytes ← renamed named (number 8)
  check (is_size words bytes) (faults.Sizes file)
  give bytes

-- what an entry holds of this file
unfoldable pub file_body : ℕ → Grammar HeaderFault FileEntry
file_body file = do
  title ← shared name
  number ← shared text
  size ← file_size file
  sum ← u16
  give (record { name = title; part = number; length = size; crc16 = sum })

-- the entry of this file
unfoldable pub file_entry : ℕ → Bool → Grammar HeaderFault FileEntry
file_entry file last = entry u16 (faults.Distance file) (file_body file) last

-- the entry after those so far, in a list of `count` that follows `others` other files
abbrev pub entry_after : ℕ → ℕ → List FileEntry → Grammar HeaderFault FileEntry
entry_after others count so_far = file_entry (others + length so_far + 1) (length so_far + 1 == count)

-- the section of a list of files that follows `others` other files: a count and the entries
unfoldable pub files : ℕ → ℕ → ℕ → Grammar HeaderFault (List FileEntry)
files which said others = do
  shared (section_at which said)
  count ← u16
  check (nat_le (others + count) 255) (faults.TooMany (others + count))
  listed count (entry_after others count) []

-- the data files and the support files
unfoldable pub all_files : Pointers → Grammar HeaderFault (List FileEntry × List FileEntry)
all_files offsets = do
  data_files ← files 5 offsets.data_files 0
  support_files ← files 6 offsets.support_files (length data_files)
  give (data_files, support_files)

-- ---- the end

-- the length of the check value, of which there is none
unfoldable pub no_check_value : ℕ → Grammar HeaderFault (Unit {0})
no_check_value said = do
  shared (section_at 8 said)
  size ← u16
  check (size == 0) faults.CheckValuePresent

-- The CRC-16 of all before it and the CRC-32 of the load, and nothing after them. The CRC-16 is compared last.
unfoldable pub check_sums : Grammar HeaderFault ℕ
check_sums = do
  before ← prefix
  said ← u16
  load_crc ← u32
  shared (end said (crc16_of before))
  give load_crc

-- the user data and the check sum of the load
unfoldable pub tail : Pointers → Grammar HeaderFault (List ℕ × ℕ)
tail offsets = do
  user ← shared (user_data 7 offsets.user)
  no_check_value offsets.check_value
  load_crc ← check_sums
  give (user, load_crc)

-- ---- the whole

-- at most 65,536 bytes
unfoldable pub limit : Grammar HeaderFault (Unit {0})
limit = do
  size ← left
  check (nat_le size 65536) faults.TooLong

unfoldable pub header : Grammar HeaderFault HeaderView
header = do
  limit
  first ← head
  what ← identity first.1
  whom ← targets first.1
  parts ← all_files first.1
  stop ← tail first.1
  give (record {
    flags = first.0;
    part = what.0;
    type_name = what.1;
    type_id = what.2;
    hardware = whom.0;
    positions = whom.1;
    data_files = parts.0;
    support_files = parts.1;
    user = stop.0;
    load_crc = stop.1;
  })
