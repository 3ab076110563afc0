-- The fields that this project's formats share (docs/FORMATS.md).
use Rattle.std.specs.Prelude.{ℕ, ◌/◌, ◌%◌, List, [], ◌∷◌, ◌++◌, length, replicate, ◌==◌, slice_index, Result}
use Rattle.byteorder.specs.Endian.{big_number, big_bytes}
use Rattle.field_grammar.specs.Grammar.{Grammar, give, check, field, prefix, renamed, judged, ◌>>=◌, ◌>>◌}
use Rattle.field_grammar.specs.declared.fault.FieldFault.{FieldFault}
use Rattle.field_grammar.specs.declared.fault.FieldFault.TheVariants.{Short, BadPad}

-- ---- numbers

-- the number that the first n bytes say, the highest byte first
unfoldable pub number_in : ℕ → List ℕ → ℕ
number_in n bytes = big_number n bytes

-- the n bytes of a number, the highest byte first
unfoldable pub number_bytes : ℕ → ℕ → List ℕ
number_bytes n value = big_bytes n value

-- ---- fields as formats

-- N bytes
unfoldable pub raw : ℕ → Grammar FieldFault (List ℕ)
raw n = field Short n

-- an unsigned number of N bytes
unfoldable pub number : ℕ → Grammar FieldFault ℕ
number n = do
  bytes ← raw n
  give (number_in n bytes)

-- what fills a text of N bytes up to an even number: one byte, which is zero, or none
unfoldable pub pad : ℕ → Grammar FieldFault (Unit {0})
pad n = do
  before ← prefix
  bytes ← raw (n % 2)
  check (slice_index bytes 0 == 0) (BadPad (length before))

-- a length in two bytes, N bytes, and the pad: each field is short at its own offset
unfoldable pub padded_parts : Grammar FieldFault (List ℕ)
padded_parts = do
  n ← number 2
  text ← raw n
  pad n
  give text

-- a length in one byte, and N bytes: each field is short at its own offset
unfoldable pub short_parts : Grammar FieldFault (List ℕ)
short_parts = do
  n ← number 1
  raw n

-- a fault of a text's part as one of the text that begins at this offset
abbrev pub text_fault : ℕ → FieldFault → FieldFault
text_fault offset (Short part) = Short offset
text_fault offset (BadPad part) = BadPad part

-- the same format, short where it begins whichever of its parts is short
abbrev pub as_one : Grammar FieldFault (List ℕ) → Grammar FieldFault (List ℕ)
as_one g = do
  before ← prefix
  renamed (text_fault (length before)) g

-- a padded text, which is short where it begins
unfoldable pub padded : Grammar FieldFault (List ℕ)
padded = as_one padded_parts

-- a short text, which is short where it begins
unfoldable pub short : Grammar FieldFault (List ℕ)
short = as_one short_parts

-- a short text, whose bytes a verdict judges as soon as they were read
abbrev pub judged_short : {F B : Type 0} → (FieldFault → F) → (ℕ → List ℕ → Result B F) → Grammar F B
judged_short named verdict = do
  n ← renamed named (number 1)
  judged (renamed named (raw n)) verdict

-- a padded text, whose bytes a verdict judges before its pad is read
abbrev pub judged_padded : {F B : Type 0} → (FieldFault → F) → (ℕ → List ℕ → Result B F) → Grammar F B
judged_padded named verdict = do
  n ← renamed named (number 2)
  text ← judged (renamed named (raw n)) verdict
  renamed named (pad n)
  give text

-- nothing, where half of the offset is the word at which a pointer says that a section begins
unfoldable pub section : {F : Type 0} → (ℕ → F) → ℕ → Grammar F (Unit {0})
section wrong said = do
  before ← prefix
  check (said == length before / 2) (wrong (length before / 2))

-- ---- such fields as they are written

-- the pad of a text of N bytes
unfoldable pub pad_bytes : ℕ → List ℕ
pad_bytes n = replicate (n % 2) 0

-- a short text
abbrev pub short_text : List ℕ → List ℕ
short_text text = number_bytes 1 (length text) ++ text

-- a padded text
abbrev pub padded_text : List ℕ → List ℕ
padded_text text = number_bytes 2 (length text) ++ text ++ pad_bytes (length text)

-- the fields of a number of N bytes
abbrev pub number_fields : ℕ → ℕ → List (List ℕ)
number_fields n value = number_bytes n value ∷ []

-- the fields of a short text
abbrev pub short_fields : List ℕ → List (List ℕ)
short_fields text = number_bytes 1 (length text) ∷ text ∷ []

-- the fields of a padded text
abbrev pub padded_fields : List ℕ → List (List ℕ)
padded_fields text = number_bytes 2 (length text) ∷ text ∷ pad_bytes (length text) ∷ []
