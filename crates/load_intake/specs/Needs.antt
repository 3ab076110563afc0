-- How many bytes of a bank loads need with their manifest (docs/EXCHANGE.md, "Upload"; docs/DISK.md).
use Rattle.std.specs.Prelude.{ℕ, ◌+◌, List, length}
use Rattle.std.specs.List.{sum_by}
use Rattle.load_header.specs.declared.header.FileEntry.{FileEntry}
use Rattle.load_header.specs.Header.{HeaderView}
use Rattle.load_protocol_files.specs.declared.lur.Wanted.{Wanted}
use Rattle.session_rules.specs.Uploads.{files_of}

-- a file and its entry in the manifest: its bytes, its name after a byte of length, and four bytes for its length
abbrev pub file_need : (name : List ℕ) (size : ℕ) → ℕ
file_need name size = size + length name + 5

abbrev pub entry_need : FileEntry → ℕ
entry_need entry = file_need entry.name entry.length

-- data or support files
abbrev pub entries_need : List FileEntry → ℕ
entries_need entries = sum_by entry_need entries

-- a load with this header, of this many bytes: 15 bytes of its part number, two for its type id, two for the number of its
-- files, and these
abbrev pub load_need : Wanted → HeaderView → (size : ℕ) → ℕ
load_need wanted h size = 19 + file_need wanted.header size + entries_need (files_of h)
