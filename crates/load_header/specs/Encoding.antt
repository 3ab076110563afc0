-- What the encoder of a load header computes, and how it tests the limits. Its contract names none of it.
use Rattle.std.specs.Prelude.{◌≡◌, ℕ, ◌+◌, ◌/◌, ◌%◌, ◌<◌, ◌≤◌, ◌^◌, List, length, ◌==◌, nat_lt, nat_le, ◌&&◌, Bool}
use Rattle.std.specs.List.{AllByRecursion, list_all}
use Rattle.load_base.specs.Text.{IsText}
use Rattle.part_number.specs.PartNumber.{IsPartNumberText}
use Rattle.field_grammar.specs.Grammar.{IsBytes}
use Rattle.field_grammar.specs.Spelling.{spelled_length}
use Rattle.field_grammar.specs.Fields.{padded_fields}
use Rattle.load_header.specs.Header.{HeaderView, HardwareAtView, hardware_at_view}
use Rattle.header_sections.specs.SectionFields.{texts_fields, user_fields}
use Rattle.load_header.specs.HeaderFields.{hardware_at_fields, positions_fields, files_fields, type_fields, header_size, AreTexts, IsHardwareAt, IsHeaderFile}
use Rattle.load_header.specs.declared.header.HardwareAt.{HardwareAt}
use Rattle.load_header.specs.declared.reading.Pointers.{Pointers}
use Rattle.load_header.specs.declared.measuring.Sizes.{Sizes}

-- ---- the limits, as the code tests them

abbrev pub few_positions : HardwareAtView → Bool
few_positions h = nat_lt (length h.positions) 65536

-- at most 65,535 kinds of hardware, with and without positions, and as many positions of each
unfoldable pub few_members : HeaderView → Bool
few_members h = nat_lt (length h.hardware) 65536 && (nat_lt (length h.positions) 65536 && list_all few_positions h.positions)

-- at most 255 files, each as it has to be
pub record HasFiles (h : HeaderView) : Type 0 where
  pub few : length h.data_files + length h.support_files ≤ 255
  pub data_files : AllByRecursion IsHeaderFile h.data_files
  pub support_files : AllByRecursion IsHeaderFile h.support_files

-- an even number of bytes of user data, and at most 65,536 bytes in all
unfoldable pub short_enough : HeaderView → Bool
short_enough h = (length h.user % 2 == 0) && nat_le (header_size h) 65536

-- ---- how long it is

-- how many bytes the sections take
pub record AreSizes (h : HeaderView) (s : Sizes) : Type 0 where
  pub part : s.part ≡ spelled_length (padded_fields h.part)
  pub type_name : s.type_name ≡ spelled_length (type_fields h)
  pub hardware : s.hardware ≡ spelled_length (texts_fields h.hardware)
  pub positions : s.positions ≡ spelled_length (positions_fields h.positions)
  pub data_files : s.data_files ≡ spelled_length (files_fields h.data_files)
  pub support_files : s.support_files ≡ spelled_length (files_fields h.support_files)
  pub user : s.user ≡ spelled_length (user_fields h.user)

-- small enough to be added in 64 bits
pub record AreSmall (s : Sizes) : Type 0 where
  pub part : s.part < 2 ^ 50
  pub type_name : s.type_name < 2 ^ 50
  pub hardware : s.hardware < 2 ^ 50
  pub positions : s.positions < 2 ^ 50
  pub data_files : s.data_files < 2 ^ 50
  pub support_files : s.support_files < 2 ^ 50
  pub user : s.user < 2 ^ 50

-- the bytes of a header whose sections take these
abbrev pub whole_size : Sizes → ℕ
whole_size s = 40 + s.part + s.type_name + s.hardware + s.positions + s.data_files + s.support_files + s.user + 8

-- the pointers to sections of these sizes
unfoldable pub pointers_by : Sizes → Pointers
pointers_by s = record {
  part = 20;
  type_name = (40 + s.part) / 2;
  hardware = (40 + s.part + s.type_name) / 2;
  positions = (40 + s.part + s.type_name + s.hardware) / 2;
  data_files = (40 + s.part + s.type_name + s.hardware + s.positions) / 2;
  support_files = (40 + s.part + s.type_name + s.hardware + s.positions + s.data_files) / 2;
  user = (40 + s.part + s.type_name + s.hardware + s.positions + s.data_files + s.support_files) / 2;
  check_value = (40 + s.part + s.type_name + s.hardware + s.positions + s.data_files + s.support_files + s.user) / 2;
}

-- a kind of hardware and its positions, as it is kept
abbrev pub kind_fields : HardwareAt → List (List ℕ)
kind_fields h = hardware_at_fields (hardware_at_view h)

abbrev pub IsKind : HardwareAt → Type 0
IsKind h = IsHardwareAt (hardware_at_view h)

-- the texts, part number, type number and user data of a header are such by their types
pub record HasParts (h : HeaderView) : Type 0 where
  pub type_id : h.type_id < 2 ^ 16
  pub user : IsBytes h.user
  pub part : IsPartNumberText h.part
  pub type_name : IsText h.type_name
  pub hardware : AreTexts h.hardware
  pub positions : AllByRecursion IsHardwareAt h.positions
