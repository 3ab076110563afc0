-- How a script is read, line by line and word by word (docs/FORMATS.md, "Script").
use Rattle.std.specs.Prelude.{ℕ, List, [], ◌∷◌, ◌++◌, length, ◌==◌, nat_le, Option, Some, None, Result, Ok, Err, if◌then◌else◌}
use Rattle.std.specs.List.{slice_split}
use Rattle.text_words.specs.Words.{is_passed_over, pieces_left, written_from}
use Rattle.exchange_trace.specs.Lines as spec
use Rattle.exchange_trace.specs.Scripts as scripts
use Rattle.exchange_trace.specs.declared.fault.ScriptFault.{ScriptFault}
use Rattle.exchange_trace.specs.declared.fault.ScriptFault.TheVariants.{Word}
use Rattle.link_net.specs.declared.line.Keyword.{Keyword}
use Rattle.link_net.specs.declared.line.Keyword.TheVariants as keywords

-- the words that are left of a line
abbrev pub words_of : Option (List ℕ) → List (List ℕ)
words_of text = pieces_left 32 text

-- the words of a text
abbrev pub words_in : List ℕ → List (List ℕ)
words_in text = words_of (Some text)

-- the first two words and the others, of which there is one at least
abbrev pub more_than_two : List (List ℕ) → Option (List ℕ × List ℕ × List (List ℕ))
more_than_two (first ∷ second ∷ third ∷ words) = Some (first, second, third ∷ words)
more_than_two words = None

abbrev pub keyword_view : Keyword → scripts.Keyword
keyword_view keywords.Info = scripts.info
keyword_view keywords.Upload = scripts.upload
keyword_view keywords.Give = scripts.give
keyword_view keywords.Lose = scripts.lose
keyword_view keywords.Next = scripts.next
keyword_view keywords.Tick = scripts.tick
keyword_view keywords.Inject = scripts.inject
keyword_view keywords.Power = scripts.power
keyword_view keywords.Boot = scripts.boot
keyword_view keywords.Blksize = scripts.blksize
keyword_view keywords.Finish = scripts.finish

-- these members, and then those that are said
abbrev pub and_later : {T : Type 0} → List T → Result (List T) ScriptFault → Result (List T) ScriptFault
and_later members (Ok later) = Ok (members ++ later)
and_later members (Err fault) = Err fault

-- what lines say
abbrev pub Said : Type 0
Said = Result (List spec.Line) ScriptFault

-- a line, and then what later ones say
abbrev pub line_then : Result spec.Line ScriptFault → Said → Said
line_then (Ok line) later = and_later (line ∷ []) later
line_then (Err fault) later = Err fault

-- what a line says, unless it is passed over, and then what later ones say
abbrev pub and_said : (number : ℕ) → List ℕ → Said → Said
and_said number text later =
    if is_passed_over text then later
    else line_then (scripts.words_said number (slice_split (λ byte. byte == 32) text)) later

-- what lines from this one on say, where this is left of the text
abbrev pub lines_left : (number : ℕ) → Option (List ℕ) → Said
lines_left number text = scripts.lines_said (written_from number (pieces_left 10 text))

-- ---- what the words after a keyword say, by how many they are

abbrev pub info_of : (line : ℕ) → Option (List ℕ × List ℕ) → Result spec.Line ScriptFault
info_of line None = Err (Word line)
info_of line (Some words) = scripts.line_said line scripts.info (words.0 ∷ words.1 ∷ [])

abbrev pub upload_of : (line : ℕ) → Option (List ℕ × List ℕ × List (List ℕ)) → Result spec.Line ScriptFault
upload_of line None = Err (Word line)
upload_of line (Some words) = if nat_le (length words.2) 64 then scripts.upload_said line words.0 words.1 words.2 else Err (Word line)

abbrev pub tick_of : (line : ℕ) → Option (List ℕ) → Result spec.Line ScriptFault
tick_of line None = Err (Word line)
tick_of line (Some word) = scripts.line_said line scripts.tick (word ∷ [])

abbrev pub inject_of : (line : ℕ) → Option (List ℕ × List ℕ × List ℕ × List ℕ) → Result spec.Line ScriptFault
inject_of line None = Err (Word line)
inject_of line (Some words) = scripts.inject_said line words.0 words.1 words.2 words.3

abbrev pub power_of : (line : ℕ) → Option (List ℕ × List ℕ) → Result spec.Line ScriptFault
power_of line None = Err (Word line)
power_of line (Some words) = scripts.line_said line scripts.power (words.0 ∷ words.1 ∷ [])

abbrev pub blksize_of : (line : ℕ) → Option (List ℕ) → Result spec.Line ScriptFault
blksize_of line None = Err (Word line)
blksize_of line (Some word) = scripts.line_said line scripts.blksize (word ∷ [])

-- the number that the only word writes
abbrev pub count_of : (line : ℕ) → Option (List ℕ) → Result ℕ ScriptFault
count_of line None = Err (Word line)
count_of line (Some word) = scripts.count_word line word

-- the line with a number
abbrev pub with_count : (ℕ → spec.Line) → Result ℕ ScriptFault → Result spec.Line ScriptFault
with_count line (Ok count) = Ok (line count)
with_count line (Err fault) = Err fault
