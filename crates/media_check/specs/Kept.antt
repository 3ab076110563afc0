-- What is kept of the lists of a set and of a listed file.
use Rattle.std.specs.Prelude.{ℕ, ◌≤◌, List, [], length, map, Option, Some, None, option_map, Result, Ok, Err}
use Rattle.load_base.specs.Host.{longest_file}
use Rattle.load_base.specs.Listed.{Listed}
use Rattle.field_grammar.specs.Answers.{answer}
use Rattle.field_grammar.specs.Grammar.{Grammar, IsBytes}
use Rattle.media_lists.specs.Lists.{ListView}
use Rattle.media_check.specs.declared.found.Found.{Found}
use Rattle.media_check.specs.declared.found.Found.TheVariants.{Missing, Refused, Read}
use Rattle.media_check.specs.declared.set.KeptFile.{KeptFile}

-- ---- what is found of a file

-- what reading its bytes gives: its value, or the first fault
abbrev pub found_as : {V F : Type 0} → Result V F → Found V F
found_as (Ok v) = Read v
found_as (Err fault) = Refused fault

-- what is found of a file that has these bytes, or is absent
abbrev pub found_in : {V F : Type 0} → Grammar F V → Option (List ℕ) → Found V F
found_in format None = Missing
found_in format (Some bytes) = found_as (answer format bytes)

-- what was found, with the value as it is seen
abbrev pub found_view : {L V F : Type 0} → (L → V) → Found L F → Found V F
found_view view Missing = Missing
found_view view (Refused fault) = Refused fault
found_view view (Read list) = Read (view list)

-- the entries of a list; none where it wasn't read
abbrev pub entries_of : {E F : Type 0} → Found (ListView E) F → List E
entries_of (Read list) = list.entries
entries_of Missing = []
entries_of (Refused fault) = []

-- ---- a listed file

-- the member that its entry names, and its bytes, or None where it is absent
pub record ListedFileView : Type 0 where
  pub member : ℕ
  pub bytes : Option (List ℕ)

-- bytes, or none of a file that is absent
abbrev pub contents : Option (List ℕ) → List ℕ
contents None = []
contents (Some bytes) = bytes

-- the same without spare capacity
abbrev pub bytes_view : Option (Listed ℕ) → Option (List ℕ)
bytes_view bytes = option_map (λ b. b.items) bytes

abbrev pub file_view : KeptFile → ListedFileView
file_view file = record { member = file.member; bytes = bytes_view file.bytes }

-- files by their names
abbrev pub files_view : List (List ℕ × KeptFile) → List (List ℕ × ListedFileView)
files_view files = map (λ e. (e.0, file_view e.1)) files

-- at most 16,777,215 bytes
abbrev pub IsShortFile : KeptFile → Type 0
IsShortFile file = length (contents (bytes_view file.bytes)) ≤ longest_file

-- numbers that a byte can have
abbrev pub IsBytesFile : KeptFile → Type 0
IsBytesFile file = IsBytes (contents (bytes_view file.bytes))
