-- What a manifest says of the loads in its bank (docs/DISK.md).
use Rattle.std.specs.Prelude.{◌≡◌, ℕ, List, [], ◌∷◌, length, map}
use Rattle.std.specs.List.{All, flat_map}
use Rattle.load_base.specs.Config.{FileView, LoadView}
use Rattle.disk_layout.specs.Manifest.{LoadEntry}
use Rattle.disk_layout.specs.declared.manifest.ManifestFile.{ManifestFile}

-- a file by its name and its length
abbrev pub file_entry_of : FileView → ManifestFile
file_entry_of file = record { name = file.name; length = length file.bytes }

-- a load by its part number, and the names and lengths of its files
abbrev pub entry_of : LoadView → LoadEntry
entry_of load = record { part = load.part; type_id = load.type_id; files = map file_entry_of load.files }

abbrev pub entries_of : List LoadView → List LoadEntry
entries_of loads = map entry_of loads

-- the bytes of these files, back to back
abbrev pub bytes_of : List FileView → List ℕ
bytes_of files = flat_map (λ (f : FileView). f.bytes) files

-- the bytes of all files of these loads, back to back
abbrev pub contents_of_loads : List LoadView → List ℕ
contents_of_loads loads = bytes_of (flat_map (λ (l : LoadView). l.files) loads)

abbrev pub first_name : List FileView → List ℕ
first_name [] = []
first_name (file ∷ files) = file.name

-- the header of a load is its first file
abbrev pub HeaderIsFirst : LoadView → Type 0
HeaderIsFirst load = load.header_name ≡ first_name load.files

abbrev pub HeadersAreFirst : List LoadView → Type 0
HeadersAreFirst loads = All (λ (l : LoadView). HeaderIsFirst l) loads
