-- What all protocol files have about their fields (docs/FORMATS.md).
use Rattle.std.specs.Prelude.{◌≡◌, ◌↔◌, ℕ, ◌+◌, ◌<◌, ◌^◌, List, ◌∷◌, ◌++◌, length}
use Rattle.std.specs.List.{concat}
use Rattle.field_grammar.specs.Grammar.{Grammar, Spelled, IsBytes, IsDecided, give, renamed, sized, expected, ended, ◌>>=◌, ◌>>◌}
use Rattle.field_grammar.specs.Fields.{number, number_bytes}
use Rattle.field_grammar.specs.OneSpelling.{HasOneSpelling}
use Rattle.load_protocol_files.specs.declared.fault.FileFault.{FileFault}
use Rattle.load_protocol_files.specs.declared.fault.FileFault.TheVariants as faults
use Rattle.load_protocol_files.specs.Faults.{named}
use Rattle.load_protocol_files.specs.Pieces.{u16}

-- the length of the whole file in bytes, and the version
unfoldable pub head : Grammar FileFault ℕ
head = do
  said ← sized (renamed named (number 4)) (λ n. n) faults.Length
  expected u16 0x4133 faults.Version
  give said

-- nothing more
unfoldable pub tail : Grammar FileFault (Unit {0})
tail = ended faults.Rest

-- the head, the fields of one type, and nothing more
abbrev pub file : {A : Type 0} → Grammar FileFault A → Grammar FileFault A
file body = do
  said ← head
  value ← body
  tail
  give value

-- a file of these fields: its length, the version, and the fields
unfoldable pub file_fields : List (List ℕ) → List (List ℕ)
file_fields fields = number_bytes 4 (6 + length (concat fields)) ∷ number_bytes 2 0x4133 ∷ fields

-- the bytes are the length of the whole, the version and this body, and the length fits its four bytes
pub record IsFileOf (body bytes : List ℕ) : Type 0 where
  pub small : 6 + length body < 2 ^ 32
  pub written : bytes ≡ number_bytes 4 (6 + length body) ++ number_bytes 2 0x4133 ++ body

-- the value fits, and the bytes are the file of its fields
abbrev pub FileSpells : {A : Type 0} → (A → List (List ℕ)) → (A → Type 0) → A → List ℕ → Type 0
FileSpells fields Fits value bytes = Fits value × IsFileOf (concat (fields value)) bytes

-- Bytes spell one file or have one first fault, and never both; a file has one spelling, and is read from it.
pub record IsExact {A : Type 0} (format : Grammar FileFault A) (Spells : A → List ℕ → Type 0) : Type 0 where
  pub one : HasOneSpelling format Spells
  pub spelled : (bytes : List ℕ) (value : A) → Spelled format bytes value ↔ Spells value bytes
  pub decided : (bytes : List ℕ) → IsBytes bytes → IsDecided format bytes
