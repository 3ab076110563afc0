-- What a text says as a script (docs/FORMATS.md, "Script").
use Rattle.std.specs.Prelude.{ℕ, suc, List, [], ◌∷◌, length, codes, nat_lt, nat_le, ◌&&◌, Option, Some, None, is_none, Result, Ok, Err, if◌then◌else◌}
use Rattle.hex.specs.Hex.{decode_of}
use Rattle.hex.specs.declared.error.FromHexError.{FromHexError}
use Rattle.load_base.specs.Bytes.{same_bytes}
use Rattle.load_base.specs.Verdicts.{ident_fault_of, part_text_fault_of}
use Rattle.exchange_trace.specs.declared.fault.ScriptFault.{ScriptFault}
use Rattle.exchange_trace.specs.declared.fault.ScriptFault.TheVariants.{Word, Number, Hex, Name, TooLong}
use Rattle.exchange_trace.specs.declared.trace.Side.{Side}
use Rattle.exchange_trace.specs.declared.trace.Side.TheVariants as sides
use Rattle.exchange_trace.specs.Happenings.{other}
use Rattle.text_words.specs.Words.{WrittenLine, written_lines, decimal_between}
use Rattle.exchange_trace.specs.Lines.{Line, Info, Upload, Give, Lose, Next, Tick, Inject, Power, Boot, Blksize, Finish}

-- ---- words

infixl 10 ◌>>=◌
-- what follows, where nothing was refused
abbrev pub ◌>>=◌ : {A B : Type 0} → Result A ScriptFault → (A → Result B ScriptFault) → Result B ScriptFault
Ok a >>= next = next a
Err fault >>= next = Err fault

-- a value, where there is one, and else the fault
abbrev pub required : {A : Type 0} → ScriptFault → Option A → Result A ScriptFault
required fault (Some a) = Ok a
required fault None = Err fault

abbrev pub number_word : (line low high : ℕ) → List ℕ → Result ℕ ScriptFault
number_word line low high word = required (Number line) (decimal_between low high word)

-- a datagram's number, and how many are to be delivered
abbrev pub count_word : (line : ℕ) → List ℕ → Result ℕ ScriptFault
count_word line word = number_word line 1 4294967295 word

abbrev pub port_word : (line : ℕ) → List ℕ → Result ℕ ScriptFault
port_word line word = number_word line 0 65535 word

-- a block size, or 0 for none
abbrev pub size_word : (line : ℕ) → List ℕ → Result (Option ℕ) ScriptFault
size_word line word = if same_bytes word (codes "0") then Ok None else number_word line 8 65464 word >>= λ n. Ok (Some n)

abbrev pub ident_word : (line : ℕ) → List ℕ → Result (List ℕ) ScriptFault
ident_word line word = if is_none (ident_fault_of word) then Ok word else Err (Name line)

abbrev pub part_word : (line : ℕ) → List ℕ → Result (List ℕ) ScriptFault
part_word line word = if is_none (part_text_fault_of word) then Ok word else Err (Name line)

abbrev pub part_words : (line : ℕ) → List (List ℕ) → Result (List (List ℕ)) ScriptFault
part_words line [] = Ok []
part_words line (word ∷ words) = do
  part ← part_word line word
  parts ← part_words line words
  Ok (part ∷ parts)

abbrev pub side_word : (line : ℕ) → List ℕ → Result Side ScriptFault
side_word line word =
    if same_bytes word (codes "loader") then Ok sides.Loader
    else if same_bytes word (codes "target") then Ok sides.Target
    else Err (Word line)

-- an even number of hexadecimal digits of either case, for 1 to 65,468 bytes
abbrev pub bytes_word : (line : ℕ) → List ℕ → Result (List ℕ) ScriptFault
bytes_word line word = if nat_le 2 (length word) && nat_le (length word) 130936 then said (decode_of word) else Err (Hex line)
  where
    said : Result (List ℕ) FromHexError → Result (List ℕ) ScriptFault
    said (Ok bytes) = Ok bytes
    said (Err wrong) = Err (Hex line)

-- ---- lines

pub data Keyword : Type 0 where
  info : Keyword
  upload : Keyword
  give : Keyword
  lose : Keyword
  next : Keyword
  tick : Keyword
  inject : Keyword
  power : Keyword
  boot : Keyword
  blksize : Keyword
  finish : Keyword

-- the first words of lines
abbrev pub keywords : List (List ℕ × Keyword)
keywords =
    (codes "info", info) ∷ (codes "upload", upload) ∷ (codes "give", give) ∷ (codes "lose", lose)
    ∷ (codes "next", next) ∷ (codes "tick", tick) ∷ (codes "inject", inject) ∷ (codes "power", power)
    ∷ (codes "boot", boot) ∷ (codes "blksize", blksize) ∷ (codes "finish", finish) ∷ []

abbrev pub found_in : List (List ℕ × Keyword) → List ℕ → Option Keyword
found_in [] word = None
found_in (entry ∷ entries) word = if same_bytes word entry.0 then Some entry.1 else found_in entries word

abbrev pub upload_said : (line : ℕ) (hw pos : List ℕ) (parts : List (List ℕ)) → Result Line ScriptFault
upload_said line hw pos parts = do
  target ← ident_word line hw
  position ← ident_word line pos
  numbers ← part_words line parts
  Ok (Upload target position numbers)

abbrev pub inject_said : (line : ℕ) (side from to hex : List ℕ) → Result Line ScriptFault
inject_said line side from to hex = do
  reached ← side_word line side
  source ← port_word line from
  goal ← port_word line to
  bytes ← bytes_word line hex
  Ok (Inject (record { side = other reached; from = source; to = goal; bytes = bytes }))

-- what the words after a keyword say; too few or too many are refused first, then the first word that is wrong
abbrev pub line_said : (line : ℕ) → Keyword → List (List ℕ) → Result Line ScriptFault
line_said line info (hw ∷ pos ∷ []) = do
  target ← ident_word line hw
  position ← ident_word line pos
  Ok (Info target position)
line_said line upload (hw ∷ pos ∷ part ∷ parts) = if nat_le (suc (length parts)) 64 then upload_said line hw pos (part ∷ parts) else Err (Word line)
line_said line give (n ∷ []) = count_word line n >>= λ number. Ok (Give number)
line_said line lose (n ∷ []) = count_word line n >>= λ number. Ok (Lose number)
line_said line next (k ∷ []) = count_word line k >>= λ count. Ok (Next count)
line_said line tick (word ∷ []) = side_word line word >>= λ side. Ok (Tick side)
line_said line inject (side ∷ from ∷ to ∷ hex ∷ []) = inject_said line side from to hex
line_said line power (calls ∷ pick ∷ []) = do
  count ← number_word line 0 4294967295 calls
  choice ← number_word line 0 4294967295 pick
  Ok (Power count choice)
line_said line boot [] = Ok Boot
line_said line blksize (n ∷ []) = size_word line n >>= λ size. Ok (Blksize size)
line_said line finish [] = Ok Finish
line_said line keyword words = Err (Word line)

abbrev pub by_keyword : (line : ℕ) → Option Keyword → List (List ℕ) → Result Line ScriptFault
by_keyword line None words = Err (Word line)
by_keyword line (Some keyword) words = line_said line keyword words

-- the first word is tested first; a line has at least one, which may be empty
abbrev pub words_said : (line : ℕ) → List (List ℕ) → Result Line ScriptFault
words_said line [] = Err (Word line)
words_said line (word ∷ words) = by_keyword line (found_in keywords word) words

-- the lines in their order, or the fault of the first that is wrong
abbrev pub lines_said : List WrittenLine → Result (List Line) ScriptFault
lines_said [] = Ok []
lines_said (written ∷ later) = do
  line ← words_said written.number written.words
  lines ← lines_said later
  Ok (line ∷ lines)

-- What a text says as a script: its lines, or its first fault.
unfoldable pub script_said : List ℕ → Result (List Line) ScriptFault
script_said text = if nat_lt 1000000 (length text) then Err TooLong else lines_said (written_lines text)
