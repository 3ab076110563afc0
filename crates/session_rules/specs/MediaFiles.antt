-- What the loader uses of a media set (docs/EXCHANGE.md, "Operations").
use Rattle.std.specs.Prelude.{ℕ, List, [], ◌∷◌, bytes_eq, Option, Some, None, Result, Ok, Err, if◌then◌else◌}
use Rattle.load_base.specs.Config.{FileView}
use Rattle.load_protocol_files.specs.declared.lur.Wanted.{Wanted}

-- the entries of its list of loads, each by the name of its header and its part number, and the bytes of the files that are
-- there, by their names
pub record Media : Type 0 where
  pub loads : List Wanted
  pub file : (name : List ℕ) → Option (List ℕ)

-- the bytes of the first of these files with this name
abbrev pub file_named : List FileView → (name : List ℕ) → Option (List ℕ)
file_named [] name = None
file_named (file ∷ files) name = if bytes_eq file.name name then Some file.bytes else file_named files name

-- the first of these entries with this part number
abbrev pub entry_with : List ℕ → List Wanted → Option Wanted
entry_with part [] = None
entry_with part (entry ∷ entries) = if bytes_eq entry.part part then Some entry else entry_with part entries

abbrev pub after_entry : Wanted → Result (List Wanted) (List ℕ) → Result (List Wanted) (List ℕ)
after_entry entry (Ok entries) = Ok (entry ∷ entries)
after_entry entry (Err part) = Err part

abbrev pub with_entry : (part : List ℕ) → Option Wanted → Result (List Wanted) (List ℕ) → Result (List Wanted) (List ℕ)
with_entry part None later = Err part
with_entry part (Some entry) later = after_entry entry later

-- the entries of these parts, in their order, or the first part that has none
abbrev pub wanted_of : List Wanted → List (List ℕ) → Result (List Wanted) (List ℕ)
wanted_of entries [] = Ok []
wanted_of entries (part ∷ parts) = with_entry part (entry_with part entries) (wanted_of entries parts)
