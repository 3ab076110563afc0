-- What a text says as a recipe (docs/FORMATS.md, "Recipe").
use Rattle.std.specs.Prelude.{◌≡◌, ℕ, ◌+◌, ◌-◌, ◌%◌, List, [], ◌∷◌, ◌++◌, length, drop, codes, count_by, slice_index, Bool, not, ◌==◌, nat_lt, nat_le, ◌&&◌, ◌||◌, Option, Some, None, Result, Ok, Err, if◌then◌else◌}
use Rattle.std.specs.List.{list_all, slice_split}
use Rattle.hex.specs.Hex.{decode_of}
use Rattle.hex.specs.declared.error.FromHexError.{FromHexError}
use Rattle.load_base.specs.Bytes.{same_bytes}
use Rattle.load_base.specs.PartText.{is_graphic}
use Rattle.load_base.specs.Verdicts.{verdict, name_fault_of, ident_fault_of}
use Rattle.part_number.specs.Verdicts.{part_fault_of}
use Rattle.text_words.specs.Words.{WrittenLine, written_lines, is_passed_over, decimal_between}
use Rattle.media_build.specs.Lines.{keyword_of, stage_of, is_whole, may_follow, target_of, names_of, members_of, files_of_load, has_user, is_used, is_loaded, target_count}
use Rattle.text_words.specs.Words.{one_of, two_of, three_of, four_of, five_of}
use Rattle.media_build.specs.declared.fault.RecipeFault.{RecipeFault}
use Rattle.media_build.specs.declared.fault.RecipeFault.TheVariants.{Word, Number, Name, Part, Order, Repeated, Hex, Limit, NotInRecipe}
use Rattle.media_build.specs.declared.keywords.Keyword.{Keyword}
use Rattle.media_build.specs.declared.keywords.Keyword.TheVariants as keywords
use Rattle.media_build.specs.declared.statements.BatchLine.{BatchLine}
use Rattle.media_build.specs.declared.statements.FileLine.{FileLine}
use Rattle.media_build.specs.declared.statements.LoadLine.{LoadLine}
use Rattle.media_build.specs.declared.statements.RecipeLine.{RecipeLine}
use Rattle.media_build.specs.declared.statements.Statement.{Statement}
use Rattle.media_build.specs.declared.statements.Statement.TheVariants.{Set, Members, Load, Hardware, Position, Data, Support, User, Batch, Target}
use Rattle.media_build.specs.declared.statements.TargetLine.{TargetLine}

infixl 10 ◌>>=◌
-- what follows, where nothing was refused
abbrev ◌>>=◌ : {A B : Type 0} → Result A RecipeFault → (A → Result B RecipeFault) → Result B RecipeFault
Ok a >>= next = next a
Err fault >>= next = Err fault

-- a value, where there is one, and else the fault
abbrev pub required : {A : Type 0} → RecipeFault → Option A → Result A RecipeFault
required fault (Some a) = Ok a
required fault None = Err fault

-- a value that passes its test, and else the fault
abbrev pub passed : {A : Type 0} → Bool → RecipeFault → A → Result A RecipeFault
passed test fault value = if test then Ok value else Err fault

-- ---- words

-- a decimal number in this range
abbrev pub number_word : (line low high : ℕ) → List ℕ → Result ℕ RecipeFault
number_word line low high word = required (Number line) (decimal_between low high word)

unfoldable pub part_word : (line : ℕ) → List ℕ → Result (List ℕ) RecipeFault
part_word line word = verdict (λ _. Part line) (part_fault_of word) word

-- 1 to this many bytes 0x21 to 0x7E
abbrev pub is_graphic_word : (most : ℕ) → List ℕ → Bool
is_graphic_word most word = nat_lt 0 (length word) && nat_le (length word) most && list_all is_graphic word

unfoldable pub text_word : (line most : ℕ) → List ℕ → Result (List ℕ) RecipeFault
text_word line most word = passed (is_graphic_word most word) (Name line) word

unfoldable pub ends_with : (end : List ℕ) → List ℕ → Bool
ends_with end name = same_bytes (drop (length name - length end) name) end

-- the name of a header
abbrev pub is_header_name : List ℕ → Bool
is_header_name name = ends_with (codes ".LUH") name

-- the name of a data or support file
abbrev pub is_body_name : List ℕ → Bool
is_body_name name = not (ends_with (codes ".LUH") name) && not (ends_with (codes ".LUM") name)

-- the name of a batch's file
abbrev pub is_batch_name : List ℕ → Bool
is_batch_name name = ends_with (codes ".LUB") name

-- the hardware or the position of a target
unfoldable pub ident_word : (line : ℕ) → List ℕ → Result (List ℕ) RecipeFault
ident_word line word = verdict (λ _. Name line) (ident_fault_of word) word

unfoldable pub name_word : (line : ℕ) → List ℕ → Result (List ℕ) RecipeFault
name_word line word = verdict (λ _. Name line) (name_fault_of word) word

-- the member that has a file
abbrev pub member_word : (line : ℕ) → List RecipeLine → List ℕ → Result ℕ RecipeFault
member_word line before word = number_word line 1 (members_of before) word

-- some multiple of four hexadecimal digits of either case
unfoldable pub user_word : (line : ℕ) → List ℕ → Result (List ℕ) RecipeFault
user_word line word = if nat_lt 0 (length word) && (length word % 4 == 0) then said (decode_of word) else Err (Hex line)
  where
    said : Result (List ℕ) FromHexError → Result (List ℕ) RecipeFault
    said (Ok bytes) = Ok bytes
    said (Err wrong) = Err (Hex line)

-- ---- lines

-- a name that isn't used before, and the member that has the file
unfoldable pub new_place : (line : ℕ) → List RecipeLine → (name member : List ℕ) → Result (List ℕ × ℕ) RecipeFault
new_place line before name member = do
  file ← passed (not (is_used before name)) (Repeated line) name
  place ← member_word line before member
  Ok (file, place)

-- the same, of a name of a kind that may stand here
unfoldable pub placed_words : (line : ℕ) → List RecipeLine → (may : List ℕ → Bool) → (name member : List ℕ) → Result (List ℕ × ℕ) RecipeFault
placed_words line before may name member = do
  file ← name_word line name
  right ← passed (may file) (Name line) file
  new_place line before right member

-- fewer than 1,024 files stand before
abbrev pub has_room : List RecipeLine → Bool
has_room before = nat_lt (length (names_of before)) 1024

-- and fewer than 255 data and support files of the load
abbrev pub load_has_room : List RecipeLine → Bool
load_has_room before = nat_lt (files_of_load before) 255 && has_room before

unfoldable pub type_words : (line : ℕ) → (id name : List ℕ) → Result (ℕ × List ℕ) RecipeFault
type_words line id name = do
  number ← number_word line 0 65535 id
  text ← text_word line 64 name
  Ok (number, text)

-- `set PART`
unfoldable pub set_line : (line : ℕ) → List (List ℕ) → Result (List ℕ) RecipeFault
set_line line words = required (Word line) (one_of words) >>= λ part. part_word line part

-- `members N`
unfoldable pub members_line : (line : ℕ) → List (List ℕ) → Result ℕ RecipeFault
members_line line words = required (Word line) (one_of words) >>= λ count. number_word line 1 255 count

unfoldable pub load_said : (line : ℕ) → List RecipeLine → (part name member id type_name : List ℕ) → Result LoadLine RecipeFault
load_said line before part name member id type_name = do
  number ← part_word line part
  file ← placed_words line before is_header_name name member
  kind ← type_words line id type_name
  passed (has_room before) (Limit line) (record { part = number; name = file.0; member = file.1; type_id = kind.0; type_name = kind.1 })

-- `load PART NAME MEMBER TYPEID TYPENAME`
unfoldable pub load_line : (line : ℕ) → List RecipeLine → List (List ℕ) → Result LoadLine RecipeFault
load_line line before words = required (Word line) (five_of words) >>= λ w. load_said line before w.0 w.1.0 w.1.1 w.1.2 w.1.3

-- `hardware ID`
unfoldable pub hardware_line : (line : ℕ) → List (List ℕ) → Result (List ℕ) RecipeFault
hardware_line line words = required (Word line) (one_of words) >>= λ id. text_word line 64 id

-- `position ID POS`
unfoldable pub position_line : (line : ℕ) → List (List ℕ) → Result (List ℕ × List ℕ) RecipeFault
position_line line words = do
  w ← required (Word line) (two_of words)
  hardware ← text_word line 64 w.0
  position ← text_word line 64 w.1
  Ok (hardware, position)

unfoldable pub source_words : (line : ℕ) → (source part : List ℕ) → Result (List ℕ × List ℕ) RecipeFault
source_words line source part = do
  origin ← text_word line 150 source
  text ← text_word line 64 part
  Ok (origin, text)

unfoldable pub file_said : (line : ℕ) → List RecipeLine → (name member source part : List ℕ) → Result FileLine RecipeFault
file_said line before name member source part = do
  file ← placed_words line before is_body_name name member
  origin ← source_words line source part
  passed (load_has_room before) (Limit line) (record { name = file.0; member = file.1; source = origin.0; part = origin.1 })

-- `data NAME MEMBER SOURCE PARTTEXT`, or the same of `support`
unfoldable pub file_line : (line : ℕ) → List RecipeLine → List (List ℕ) → Result FileLine RecipeFault
file_line line before words = required (Word line) (four_of words) >>= λ w. file_said line before w.0 w.1 w.2 w.3

-- `user HEX`
unfoldable pub user_line : (line : ℕ) → List RecipeLine → List (List ℕ) → Result (List ℕ) RecipeFault
user_line line before words = do
  hex ← required (Word line) (one_of words)
  bytes ← user_word line hex
  passed (not (has_user before)) (Limit line) bytes

unfoldable pub batch_said : (line : ℕ) → List RecipeLine → (part name member : List ℕ) → Result BatchLine RecipeFault
batch_said line before part name member = do
  number ← part_word line part
  file ← placed_words line before is_batch_name name member
  passed (has_room before) (Limit line) (record { part = number; name = file.0; member = file.1 })

-- `batch PART NAME MEMBER`
unfoldable pub batch_line : (line : ℕ) → List RecipeLine → List (List ℕ) → Result BatchLine RecipeFault
batch_line line before words = required (Word line) (three_of words) >>= λ w. batch_said line before w.0 w.1 w.2

-- a part number that is that of a load
unfoldable pub load_part_word : (line : ℕ) → List RecipeLine → List ℕ → Result (List ℕ) RecipeFault
load_part_word line before word = do
  part ← part_word line word
  passed (is_loaded before part) (NotInRecipe line) part

-- each of them, up to the first that is wrong
abbrev pub load_part_words : (line : ℕ) → List RecipeLine → List (List ℕ) → Result (List (List ℕ)) RecipeFault
load_part_words line before [] = Ok []
load_part_words line before (word ∷ words) = load_part_word line before word >>= λ part. (load_part_words line before words >>= λ parts. Ok (part ∷ parts))

-- the hardware and the position of a target
unfoldable pub place_words : (line : ℕ) → (hw pos : List ℕ) → Result (List ℕ × List ℕ) RecipeFault
place_words line hw pos = do
  hardware ← ident_word line hw
  position ← ident_word line pos
  Ok (hardware, position)

-- the batch has fewer than 64 targets before
abbrev pub batch_has_room : List RecipeLine → Bool
batch_has_room before = nat_lt (target_count before) 64

unfoldable pub target_said : (line : ℕ) → List RecipeLine → (hw pos : List ℕ) → (parts : List (List ℕ)) → Result TargetLine RecipeFault
target_said line before hw pos parts = do
  place ← place_words line hw pos
  loads ← load_part_words line before parts
  passed (batch_has_room before) (Limit line) (record { hw = place.0; pos = place.1; parts = loads })

-- `target HW POS PART ..`
unfoldable pub target_line : (line : ℕ) → List RecipeLine → List (List ℕ) → Result TargetLine RecipeFault
target_line line before words = required (Word line) (target_of words) >>= λ w. target_said line before w.0 w.1 w.2

-- What the words after a keyword say, after the lines before: their number is tested first, then each word, and the
-- limits last.
abbrev pub statement_said : (line : ℕ) → List RecipeLine → Keyword → List (List ℕ) → Result Statement RecipeFault
statement_said line before keywords.Set words = set_line line words >>= λ part. Ok (Set part)
statement_said line before keywords.Members words = members_line line words >>= λ count. Ok (Members count)
statement_said line before keywords.Load words = load_line line before words >>= λ load. Ok (Load load)
statement_said line before keywords.Hardware words = hardware_line line words >>= λ hardware. Ok (Hardware hardware)
statement_said line before keywords.Position words = position_line line words >>= λ at. Ok (Position at.0 at.1)
statement_said line before keywords.Data words = file_line line before words >>= λ file. Ok (Data file)
statement_said line before keywords.Support words = file_line line before words >>= λ file. Ok (Support file)
statement_said line before keywords.User words = user_line line before words >>= λ bytes. Ok (User bytes)
statement_said line before keywords.Batch words = batch_line line before words >>= λ batch. Ok (Batch batch)
statement_said line before keywords.Target words = target_line line before words >>= λ target. Ok (Target target)

-- a line's keyword, where it may stand after these lines
unfoldable pub keyword_said : (line : ℕ) → List RecipeLine → List ℕ → Result Keyword RecipeFault
keyword_said line before word = required (Word line) (keyword_of word) >>= λ keyword. passed (may_follow before keyword) (Order line) keyword

-- What a line says after those before it: its keyword is tested first, then whether it may stand there, then the rest.
unfoldable pub words_said : (line : ℕ) → List RecipeLine → List (List ℕ) → Result Statement RecipeFault
words_said line before [] = Err (Word line)
words_said line before (word ∷ words) = keyword_said line before word >>= λ keyword. statement_said line before keyword words

-- ---- the whole

-- these lines and those after them, or the fault of the first that is wrong
abbrev pub lines_said : List RecipeLine → List WrittenLine → Result (List RecipeLine) RecipeFault
lines_said before [] = Ok before
lines_said before (written ∷ later) =
    words_said written.number before written.words >>= λ statement. lines_said (before ++ record { number = written.number; statement = statement } ∷ []) later

-- these lines with the next one, unless it is passed over
abbrev pub line_said : (number : ℕ) → List RecipeLine → List ℕ → Result (List RecipeLine) RecipeFault
line_said number before line =
    if is_passed_over line then Ok before
    else (words_said number before (slice_split (λ byte. byte == 32) line) >>= λ statement. Ok (before ++ record { number = number; statement = statement } ∷ []))

-- how many lines a text has: each line feed ends one, and what stands after the last one is a line too
abbrev pub line_count : List ℕ → ℕ
line_count text = count_by (λ byte. byte == 10) text + (if (length text == 0) || (slice_index text (length text - 1) == 10) then 0 else 1)

-- Three lines stand in each recipe: `set`, `members` and a load; and each batch has a target. The end has the number of
-- the line that is missing.
abbrev pub complete : (last : ℕ) → List RecipeLine → Result (List RecipeLine) RecipeFault
complete last lines = passed (nat_le 3 (length lines) && is_whole (stage_of lines)) (Order (last + 1)) lines

-- What a text says as a recipe: its lines, or its first fault.
unfoldable pub recipe_said : List ℕ → Result (List RecipeLine) RecipeFault
recipe_said text =
    if nat_lt 1000000 (length text) then Err (Limit 0)
    else (lines_said [] (written_lines text) >>= λ lines. complete (line_count text) lines)

-- ---- the first wrong line

-- Among these lines this is the first that is wrong: those before it say something, and it is refused after them.
pub record IsFirstWrong (written : List WrittenLine) (fault : RecipeFault) : Type 0 where
  pub before : List WrittenLine
  pub line : WrittenLine
  pub after : List WrittenLine
  pub stands : written ≡ before ++ line ∷ after
  pub lines : List RecipeLine
  pub said : lines_said [] before ≡ Ok lines
  pub wrong : words_said line.number lines line.words ≡ Err fault
