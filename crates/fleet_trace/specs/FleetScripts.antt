-- What a text says as a script of a fleet (docs/FORMATS.md, "Script of a fleet").
use Rattle.std.specs.Prelude.{ℕ, List, [], ◌∷◌, length, codes, Bool, false, ◌==◌, nat_lt, nat_le, ◌&&◌, Option, Some, None, Result, Ok, Err, if◌then◌else◌}
use Rattle.load_base.specs.Bytes.{same_bytes}
use Rattle.exchange_trace.specs.Scripts.{◌>>=◌, Keyword, count_word, found_in, keywords, line_said, part_word, required, info, upload, give, lose, next, tick, inject, power, boot, blksize, finish}
use Rattle.text_words.specs.Words.{WrittenLine, decimal_between, written_lines}
use Rattle.exchange_trace.specs.declared.fault.ScriptFault.{ScriptFault}
use Rattle.exchange_trace.specs.declared.fault.ScriptFault.TheVariants.{Word, TooLong, Unit}
use Rattle.fleet_trace.specs.FleetLines.{FleetLine, Line_at, Give_numbered, Lose_numbered, Next_of_all, Finish_all, Begin_batch, Ask_next, Finish_batch}

-- ---- lines of a unit

-- so many words may stand after this one, where the line is one of a unit
abbrev pub takes : Keyword → (count : ℕ) → Bool
takes info count = count == 2
takes upload count = nat_le 3 count && nat_le count 66
takes tick count = count == 1
takes inject count = count == 4
takes power count = count == 2
takes boot count = count == 0
takes blksize count = count == 1
takes keyword count = false

-- a unit's number: a decimal from 1 to the number of units
abbrev pub unit_word : (line units : ℕ) → List ℕ → Result ℕ ScriptFault
unit_word line units word = required (Unit line) (decimal_between 1 units word)

-- the unit's word is tested before the words of its line
abbrev pub at_unit_said : (line units : ℕ) (unit : List ℕ) → Keyword → (words : List (List ℕ)) → Result FleetLine ScriptFault
at_unit_said line units unit keyword words = do
  number ← unit_word line units unit
  said ← line_said line keyword words
  Ok (Line_at number said)

-- the number of words is tested before any of them, and before the unit's word
abbrev pub unit_line_said : (line units : ℕ) (unit : List ℕ) → Option Keyword → (words : List (List ℕ)) → Result FleetLine ScriptFault
unit_line_said line units unit None words = Err (Word line)
unit_line_said line units unit (Some keyword) words =
    if takes keyword (length words) then at_unit_said line units unit keyword words
    else Err (Word line)

-- what the words after `at` say
abbrev pub at_said : (line units : ℕ) → List (List ℕ) → Result FleetLine ScriptFault
at_said line units (unit ∷ word ∷ words) = unit_line_said line units unit (found_in keywords word) words
at_said line units words = Err (Word line)

-- ---- lines of no unit

abbrev pub fleet_line_said : (line : ℕ) → Option Keyword → List (List ℕ) → Result FleetLine ScriptFault
fleet_line_said line (Some give) (n ∷ []) = count_word line n >>= λ number. Ok (Give_numbered number)
fleet_line_said line (Some lose) (n ∷ []) = count_word line n >>= λ number. Ok (Lose_numbered number)
fleet_line_said line (Some next) (k ∷ []) = count_word line k >>= λ count. Ok (Next_of_all count)
fleet_line_said line (Some finish) [] = Ok Finish_all
fleet_line_said line keyword words = Err (Word line)

-- ---- lines of batches

-- what the words after `batch` say
abbrev pub batch_said : (line : ℕ) → List (List ℕ) → Result FleetLine ScriptFault
batch_said line (part ∷ []) = part_word line part >>= λ number. Ok (Begin_batch number)
batch_said line words = Err (Word line)

-- no word stands behind this one
abbrev pub alone_said : (line : ℕ) → FleetLine → List (List ℕ) → Result FleetLine ScriptFault
alone_said line says [] = Ok says
alone_said line says words = Err (Word line)

-- ---- texts

-- a line has at least one word, which may be empty
abbrev pub fleet_words_said : (line units : ℕ) → List (List ℕ) → Result FleetLine ScriptFault
fleet_words_said line units [] = Err (Word line)
fleet_words_said line units (word ∷ words) =
    if same_bytes word (codes "at") then at_said line units words
    else if same_bytes word (codes "batch") then batch_said line words
    else if same_bytes word (codes "asknext") then alone_said line Ask_next words
    else if same_bytes word (codes "finishbatch") then alone_said line Finish_batch words
    else fleet_line_said line (found_in keywords word) words

-- the lines in their order, or the fault of the first that is wrong
abbrev pub fleet_lines_said : (units : ℕ) → List WrittenLine → Result (List FleetLine) ScriptFault
fleet_lines_said units [] = Ok []
fleet_lines_said units (written ∷ later) = do
  line ← fleet_words_said written.number units written.words
  lines ← fleet_lines_said units later
  Ok (line ∷ lines)

-- What a text says as a script of so many units: its lines, or its first fault.
unfoldable pub fleet_script_said : (units : ℕ) → List ℕ → Result (List FleetLine) ScriptFault
fleet_script_said units text = if nat_lt 1000000 (length text) then Err TooLong else fleet_lines_said units (written_lines text)
