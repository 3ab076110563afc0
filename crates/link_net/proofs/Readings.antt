-- What the lines that are left of a text say, line by line.
use Rattle.std.proofs.Common.{◌≡◌, ◌⊎◌, ⊎_elim, inl, inr, if◌then◌else◌, ℕ, ◌+◌, ◌==◌, Bool, true, false, List, [], ◌∷◌, Option, Some, Result, Ok, Err, refl, ap, ◌∙◌}
use Rattle.std.specs.List.{slice_split}
use Rattle.exchange_trace.specs.Lines as spec
use Rattle.exchange_trace.specs.Scripts.{lines_said, words_said}
use Rattle.text_words.specs.Words.{pieces_left, WrittenLine, is_passed_over, written_from}
use Rattle.exchange_trace.specs.declared.fault.ScriptFault.{ScriptFault}
use Rattle.exchange_trace.specs.declared.fault.ScriptFault.TheVariants.{Memory}
use Rattle.link_net.specs.Reading.{Said, and_later, and_said, line_then, lines_left}

pub from_start : (said : Said) → said ≡ and_later [] said
from_start (Ok lines) = refl
from_start (Err fault) = refl

both : (r : Result spec.Line ScriptFault) (s : Said)
    → (elim r as (λ x. (spec.Line → Said) → Said) [
      | Ok a ↦ λ next. next a
      | Err fault ↦ λ next. Err fault
    ]) (λ line. (elim s as (λ x. (List spec.Line → Said) → Said) [
      | Ok a ↦ λ next. next a
      | Err fault ↦ λ next. Err fault
    ]) (λ lines. Ok (line ∷ lines))) ≡ line_then r s
both (Ok line) (Ok lines) = refl
both (Ok line) (Err fault) = refl
both (Err fault) s = refl

one_line : (passed : Bool) (written : WrittenLine) (later : List WrittenLine)
    → lines_said (if passed then later else written ∷ later) ≡ (if passed then lines_said later else line_then (words_said written.number written.words) (lines_said later))
one_line true written later = refl
one_line false written later = both (words_said written.number written.words) (lines_said later)

-- what the lines that are left say is what the first of them says, and then the others
pub lines_cut : (number : ℕ) (text first : List ℕ) (rest : Option (List ℕ)) → slice_split (λ byte. byte == 10) text ≡ first ∷ pieces_left 10 rest
    → lines_left number (Some text) ≡ and_said number first (lines_left (number + 1) rest)
lines_cut number text first rest cut =
    rw cut (one_line (is_passed_over first) (record { number = number; words = slice_split (λ byte. byte == 32) first }) (written_from (number + 1) (pieces_left 10 rest)))

-- a fault of a line is that of the text, where all lines before it say something
pub wrong_line : (fault : ScriptFault) (whole later : Said) (before : List spec.Line) (number : ℕ) (text : List ℕ)
    → whole ≡ and_later before (and_said number text later)
    → (fault ≡ Memory) ⊎ ((later : Said) → and_said number text later ≡ Err fault) → (fault ≡ Memory) ⊎ (whole ≡ Err fault)
wrong_line fault whole later before number text e h =
    ⊎_elim (λ memory. inl memory) (λ wrong. inr (e ∙ ap (and_later before) (wrong later))) h
