-- What the words of a line of no unit say, by how many they are.
use Rattle.std.proofs.Common.{◌≡◌, ℕ, ◌+◌, ◌==◌, List, [], ◌∷◌, length, Option, Some, None, Result, Ok, Err, refl, arith}
use Rattle.std.proofs.lemmas.List.Splits.{length-slice_split}
use Rattle.exchange_trace.specs.Scripts.{◌>>=◌, give, lose, next, finish, part_word}
use Rattle.exchange_trace.specs.declared.fault.ScriptFault.{ScriptFault}
use Rattle.exchange_trace.specs.declared.fault.ScriptFault.TheVariants.{Word}
use Rattle.text_words.specs.Words.{one_of}
use Rattle.link_net.specs.Reading.{count_of, words_of}
use Rattle.fleet_trace.specs.FleetLines.{FleetLine, Begin_batch, Give_numbered, Lose_numbered, Next_of_all}
use Rattle.fleet_trace.specs.FleetScripts.{alone_said, batch_said, fleet_line_said}

-- nothing may stand behind `finish`
pub finish_alone : (line : ℕ) (text : List ℕ) → fleet_line_said line (Some finish) (words_of (Some text)) ≡ Err (Word line)
finish_alone line text = refused (words_of (Some text)) _ (length-slice_split (λ byte. byte == 32) text)
  where
    refused : (words : List (List ℕ)) (spaces : ℕ) → length words ≡ spaces + 1 → fleet_line_said line (Some finish) words ≡ Err (Word line)
    refused [] spaces counted = absurd (omega arith)
    refused (word ∷ words) spaces counted = refl

-- nothing may stand behind a word that stands alone
pub alone : (line : ℕ) (says : FleetLine) (text : List ℕ) → alone_said line says (words_of (Some text)) ≡ Err (Word line)
alone line says text = refused (words_of (Some text)) _ (length-slice_split (λ byte. byte == 32) text)
  where
    refused : (words : List (List ℕ)) (spaces : ℕ) → length words ≡ spaces + 1 → alone_said line says words ≡ Err (Word line)
    refused [] spaces counted = absurd (omega arith)
    refused (word ∷ words) spaces counted = refl

-- the part number of a batch, where one word stands
abbrev the_part : (line : ℕ) → Option (List ℕ) → Result (List ℕ) ScriptFault
the_part line None = Err (Word line)
the_part line (Some word) = part_word line word

pub batch_words : (line : ℕ) (words : List (List ℕ)) → batch_said line words ≡ (the_part line (one_of words) >>= λ part. Ok (Begin_batch part))
batch_words line [] = refl
batch_words line (word ∷ []) = refl
batch_words line (first ∷ second ∷ words) = refl

-- the line that the only word's number makes
abbrev numbered_line : (ℕ → FleetLine) → Result ℕ ScriptFault → Result FleetLine ScriptFault
numbered_line says number = number >>= λ n. Ok (says n)

pub give_number : (line : ℕ) (words : List (List ℕ)) → fleet_line_said line (Some give) words ≡ numbered_line Give_numbered (count_of line (one_of words))
give_number line [] = refl
give_number line (word ∷ []) = refl
give_number line (first ∷ second ∷ words) = refl

pub lose_number : (line : ℕ) (words : List (List ℕ)) → fleet_line_said line (Some lose) words ≡ numbered_line Lose_numbered (count_of line (one_of words))
lose_number line [] = refl
lose_number line (word ∷ []) = refl
lose_number line (first ∷ second ∷ words) = refl

pub next_number : (line : ℕ) (words : List (List ℕ)) → fleet_line_said line (Some next) words ≡ numbered_line Next_of_all (count_of line (one_of words))
next_number line [] = refl
next_number line (word ∷ []) = refl
next_number line (first ∷ second ∷ words) = refl
