-- The fields of a load header, as they are shown (docs/FORMATS.md, "Printed text").
use Rattle.std.specs.Prelude.{ℕ, ◌-◌, ◌/◌, List, [], ◌∷◌, ◌++◌, length, take, drop, codes}
use Rattle.std.specs.List.{flat_map}
use Rattle.std.specs.Fmt.{decimal}
use Rattle.load_header.specs.Header.{HeaderView, HardwareAtView}
use Rattle.load_header.specs.declared.header.FileEntry.{FileEntry}
use Rattle.printed_text.specs.Lines.{line, hex_8, hex_16, hex_32}
use Rattle.shown_files.specs.UserLine.{user_line}

-- `header WORDS VERSION FLAGS`, `part PART` and `type ID NAME`
unfoldable pub head_lines : (words : ℕ) → HeaderView → List ℕ
head_lines words h =
    line (codes "header" ∷ decimal words ∷ codes "8004" ∷ hex_16 h.flags ∷ [])
    ++ line (codes "part" ∷ h.part ∷ [])
    ++ line (codes "type" ∷ decimal h.type_id ∷ h.type_name ∷ [])

-- `hardware ID`
unfoldable pub hardware_line : List ℕ → List ℕ
hardware_line hardware = line (codes "hardware" ∷ hardware ∷ [])

-- `position ID POS`
unfoldable pub position_line : List ℕ → List ℕ → List ℕ
position_line hardware position = line (codes "position" ∷ hardware ∷ position ∷ [])

-- one line a position, or `position ID` where an entry has none
unfoldable pub position_lines : HardwareAtView → List ℕ
position_lines at = lines_of at.hardware at.positions
  where
    lines_of : List ℕ → List (List ℕ) → List ℕ
    lines_of hardware [] = line (codes "position" ∷ hardware ∷ [])
    lines_of hardware (position ∷ positions) = flat_map (position_line hardware) (position ∷ positions)

-- `data NAME LENGTH CRC PART`, or `support` in place of `data`
unfoldable pub file_line : (kind : List ℕ) → FileEntry → List ℕ
file_line kind file = kind ++ line (file.name ∷ decimal file.length ∷ hex_16 file.crc16 ∷ file.part ∷ [])

-- `headercrc CRC`, the sum that stands before the last four bytes, which reading has tested
unfoldable pub header_crc_line : (end : List ℕ) → List ℕ
header_crc_line end = line (codes "headercrc" ∷ flat_map hex_8 (take (length end - 4) end) ∷ [])

-- `loadcrc CRC`
unfoldable pub load_crc_line : ℕ → List ℕ
load_crc_line sum = line (codes "loadcrc" ∷ hex_32 sum ∷ [])

-- the header that these bytes spell
unfoldable pub shown_header : List ℕ → HeaderView → List ℕ
shown_header bytes h =
    head_lines (length bytes / 2) h
    ++ flat_map hardware_line h.hardware
    ++ flat_map position_lines h.positions
    ++ flat_map (file_line (codes "data ")) h.data_files
    ++ flat_map (file_line (codes "support ")) h.support_files
    ++ user_line h.user
    ++ header_crc_line (drop (length bytes - 6) bytes)
    ++ load_crc_line h.load_crc
