-- The fields of the lists of a media set, as they are shown (docs/FORMATS.md, "Printed text").
use Rattle.std.specs.Prelude.{ℕ, ◌-◌, ◌/◌, List, [], ◌∷◌, ◌++◌, length, drop, codes}
use Rattle.std.specs.List.{flat_map}
use Rattle.std.specs.Fmt.{decimal}
use Rattle.media_lists.specs.Files.{FilesListView}
use Rattle.media_lists.specs.Loads.{LoadEntryView, LoadsListView}
use Rattle.media_lists.specs.declared.lists.ListedFile.{ListedFile}
use Rattle.media_lists.specs.declared.lists.TheConstants.{FILES_VERSION, LOADS_VERSION}
use Rattle.printed_text.specs.Lines.{line, field_line, hex_8, hex_16}
use Rattle.shown_files.specs.UserLine.{user_line}

-- `member N of M`
unfoldable pub member_line : (member members : ℕ) → List ℕ
member_line member members = line (codes "member" ∷ decimal member ∷ codes "of" ∷ decimal members ∷ [])

-- `loads WORDS VERSION`, `files WORDS VERSION`, or what another kind has in place of the first word
unfoldable pub kind_line : (kind : List ℕ) (words version : ℕ) → List ℕ
kind_line kind words version = line (kind ∷ decimal words ∷ hex_16 version ∷ [])

-- `set PART` and `member N of M`
unfoldable pub set_lines : (set : List ℕ) (member members : ℕ) → List ℕ
set_lines set member members = field_line (codes "set") set ++ member_line member members

-- `crc XXXX`, the sum that stands at the end, which reading has tested
unfoldable pub crc_line : List ℕ → List ℕ
crc_line bytes = field_line (codes "crc") (flat_map hex_8 (drop (length bytes - 2) bytes))

-- `file NAME PATH MEMBER CRC`
unfoldable pub listed_file_line : ListedFile → List ℕ
listed_file_line file = line (codes "file" ∷ file.name ∷ file.path ∷ decimal file.member ∷ hex_16 file.crc16 ∷ [])

-- the list of files that these bytes spell
unfoldable pub shown_files_list : List ℕ → FilesListView → List ℕ
shown_files_list bytes l =
    kind_line (codes "files") (length bytes / 2) FILES_VERSION ++ set_lines l.set l.member l.members
    ++ flat_map listed_file_line l.entries ++ user_line l.user ++ crc_line bytes

-- `load PART HEADER MEMBER HARDWARE`, with the number of its hardware
unfoldable pub listed_load_line : LoadEntryView → List ℕ
listed_load_line load =
    line (codes "load" ∷ load.part ∷ load.header_name ∷ decimal load.member ∷ decimal (length load.hardware) ∷ [])

-- `hardware ID`
abbrev pub load_hardware_line : List ℕ → List ℕ
load_hardware_line hardware = field_line (codes "hardware") hardware

-- a load, and a line for each of its hardware
unfoldable pub listed_load_lines : LoadEntryView → List ℕ
listed_load_lines load = listed_load_line load ++ flat_map load_hardware_line load.hardware

-- the list of loads that these bytes spell
unfoldable pub shown_loads_list : List ℕ → LoadsListView → List ℕ
shown_loads_list bytes l =
    kind_line (codes "loads") (length bytes / 2) LOADS_VERSION ++ set_lines l.set l.member l.members
    ++ flat_map listed_load_lines l.entries ++ user_line l.user ++ crc_line bytes
