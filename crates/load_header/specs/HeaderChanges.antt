-- Headers that differ in numbers alone, for callers that know the texts of a header before its numbers.
use Rattle.std.specs.Prelude.{◌≡◌, ℕ, ◌<◌, ◌≤◌, ◌^◌, List, map}
use Rattle.std.specs.List.{AllByRecursion}
use Rattle.load_header.specs.Header.{HeaderView}
use Rattle.load_header.specs.declared.header.FileEntry.{FileEntry}

-- the texts of a file's entry
abbrev pub file_texts : FileEntry → List ℕ × List ℕ
file_texts file = (file.name, file.part)

-- The same header but for its flags, the number of its type, the lengths and check sums of its files and its load CRC.
pub record HaveSameTexts (one other : HeaderView) : Type 0 where
  pub part : one.part ≡ other.part
  pub type_name : one.type_name ≡ other.type_name
  pub hardware : one.hardware ≡ other.hardware
  pub positions : one.positions ≡ other.positions
  pub data_files : map file_texts one.data_files ≡ map file_texts other.data_files
  pub support_files : map file_texts one.support_files ≡ map file_texts other.support_files
  pub user : one.user ≡ other.user

-- at most 16,777,215 bytes, and a CRC-16
abbrev pub HasFileNumbers : FileEntry → Type 0
HasFileNumbers file = (file.length ≤ 16777215) × (file.crc16 < 2 ^ 16)

-- each number fits its field
pub record HasNumbers (h : HeaderView) : Type 0 where
  pub flags : h.flags < 2 ^ 16
  pub type_id : h.type_id < 2 ^ 16
  pub data_files : AllByRecursion HasFileNumbers h.data_files
  pub support_files : AllByRecursion HasFileNumbers h.support_files
  pub load_crc : h.load_crc < 2 ^ 32

-- the same header with another load CRC
abbrev pub with_load_crc : HeaderView → ℕ → HeaderView
with_load_crc h crc = record {
  flags = h.flags;
  part = h.part;
  type_name = h.type_name;
  type_id = h.type_id;
  hardware = h.hardware;
  positions = h.positions;
  data_files = h.data_files;
  support_files = h.support_files;
  user = h.user;
  load_crc = crc;
}
