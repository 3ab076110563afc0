-- The listing of a configuration (docs/FORMATS.md, "Printed text").
use Rattle.std.specs.Prelude.{ℕ, List, [], ◌∷◌, ◌++◌, length, codes}
use Rattle.std.specs.List.{flat_map}
use Rattle.std.specs.Fmt.{decimal}
use Rattle.load_base.specs.Config.{FileView, LoadView}
use Rattle.crc_fields.specs.CheckSums.{crc16_of}
use Rattle.printed_text.specs.Lines.{line, hex_16}
use Rattle.disk_layout.specs.Holds.{StandingView}
use Rattle.disk_layout.specs.declared.identity.Identity.{Identity}

-- `target HW POS SERIAL`
abbrev pub target_line : Identity → List ℕ
target_line id = line (codes "target" ∷ id.hw ∷ id.pos ∷ id.serial ∷ [])

-- `bank BANK sequence SEQUENCE`
abbrev pub bank_line : (bank sequence : ℕ) → List ℕ
bank_line bank sequence = line (codes "bank" ∷ decimal bank ∷ codes "sequence" ∷ decimal sequence ∷ [])

-- `loads COUNT`
abbrev pub loads_line : (count : ℕ) → List ℕ
loads_line count = line (codes "loads" ∷ decimal count ∷ [])

-- `file NAME LENGTH CRC`, the check sum in hexadecimal
abbrev pub file_line_of : (name : List ℕ) → (size sum : ℕ) → List ℕ
file_line_of name size sum = line (codes "file" ∷ name ∷ decimal size ∷ hex_16 sum ∷ [])

-- a file, with the CRC-16 of its contents
unfoldable pub file_line : FileView → List ℕ
file_line file = file_line_of file.name (length file.bytes) (crc16_of file.bytes)

-- `load PART HEADER FILES`, with the number of its files
abbrev pub load_line_of : (part header_name : List ℕ) → (files : ℕ) → List ℕ
load_line_of part header_name files = line (codes "load" ∷ part ∷ header_name ∷ decimal files ∷ [])

unfoldable pub load_line : LoadView → List ℕ
load_line load = load_line_of load.part load.header_name (length load.files)

-- a load, and each of its files
unfoldable pub load_lines : LoadView → List ℕ
load_lines load = load_line load ++ flat_map file_line load.files

-- the target, its active bank with the sequence number, and its loads
abbrev pub listing : StandingView → List ℕ
listing s = target_line s.identity ++ bank_line s.bank s.sequence ++ loads_line (length s.loads) ++ flat_map load_lines s.loads
