-- What the words of a line say by their number.
use Rattle.std.proofs.Common.{◌≡◌, ℕ, suc, ◌+◌, ◌-◌, ◌≤◌, ◌==◌, Bool, true, false, not, cond, nat_lt, List, [], ◌∷◌, length, take, drop, Some, None, option_map, Result, Ok, Err, refl, subst, arith}
use Rattle.std.specs.List.{count_by, position, position_or_len, slice_split, onto_first}
use Rattle.std.proofs.lemmas.List.Splits.{length-slice_split, slice_split_first}
use Rattle.std.proofs.lemmas.Bool.{ltb-true, ltb-false}
use Rattle.std.proofs.lemmas.Grind.{common_steps}
use Rattle.exchange_trace.specs.Lines as spec
use Rattle.exchange_trace.specs.Scripts as scripts
use Rattle.exchange_trace.specs.declared.fault.ScriptFault.{ScriptFault}
use Rattle.exchange_trace.specs.declared.fault.ScriptFault.TheVariants.{Word}
use Rattle.text_words.specs.Words.{four_of, one_of, two_of}
use Rattle.link_net.specs.Reading.{blksize_of, count_of, info_of, inject_of, more_than_two, power_of, tick_of, upload_of, with_count, words_in, words_of}

-- ---- words by their number

-- behind a space stands a word
module _ (P : List (List ℕ) → Type 0) (some : (word : List ℕ) (words : List (List ℕ)) → P (word ∷ words)) where
  has_word : (words : List (List ℕ)) (n : ℕ) → length words ≡ n + 1 → P words
  has_word [] n e = absurd (omega arith)
  has_word (word ∷ words) n e = some word words

pub finish_words : (line : ℕ) (text : List ℕ) → scripts.line_said line scripts.finish (words_of (Some text)) ≡ Err (Word line)
finish_words line text =
    has_word (λ words. scripts.line_said line scripts.finish words ≡ Err (Word line)) (λ word words. refl) _ _ (length-slice_split (λ byte. byte == 32) text)

pub third_word : (first second text : List ℕ) → more_than_two (first ∷ second ∷ words_in text) ≡ Some (first, second, words_in text)
third_word first second text =
    has_word (λ words. more_than_two (first ∷ second ∷ words) ≡ Some (first, second, words)) (λ word words. refl) _ _ (length-slice_split (λ byte. byte == 32) text)

pub info_words : (line : ℕ) (words : List (List ℕ)) → scripts.line_said line scripts.info words ≡ info_of line (two_of words)
info_words line [] = refl
info_words line (a ∷ []) = refl
info_words line (a ∷ b ∷ []) = refl
info_words line (a ∷ b ∷ c ∷ words) = refl

pub upload_words : (line : ℕ) (words : List (List ℕ)) → scripts.line_said line scripts.upload words ≡ upload_of line (more_than_two words)
upload_words line [] = refl
upload_words line (a ∷ []) = refl
upload_words line (a ∷ b ∷ []) = refl
upload_words line (a ∷ b ∷ c ∷ words) = refl

pub inject_words : (line : ℕ) (words : List (List ℕ)) → scripts.line_said line scripts.inject words ≡ inject_of line (four_of words)
inject_words line [] = refl
inject_words line (a ∷ []) = refl
inject_words line (a ∷ b ∷ []) = refl
inject_words line (a ∷ b ∷ c ∷ []) = refl
inject_words line (a ∷ b ∷ c ∷ d ∷ []) = refl
inject_words line (a ∷ b ∷ c ∷ d ∷ e ∷ words) = refl

pub power_words : (line : ℕ) (words : List (List ℕ)) → scripts.line_said line scripts.power words ≡ power_of line (two_of words)
power_words line [] = refl
power_words line (a ∷ []) = refl
power_words line (a ∷ b ∷ []) = refl
power_words line (a ∷ b ∷ c ∷ words) = refl

pub boot_words : (line : ℕ) (text : List ℕ) → scripts.line_said line scripts.boot (words_of (Some text)) ≡ Err (Word line)
boot_words line text =
    has_word (λ words. scripts.line_said line scripts.boot words ≡ Err (Word line)) (λ word words. refl) _ _ (length-slice_split (λ byte. byte == 32) text)

pub blksize_words : (line : ℕ) (words : List (List ℕ)) → scripts.line_said line scripts.blksize words ≡ blksize_of line (one_of words)
blksize_words line [] = refl
blksize_words line (a ∷ []) = refl
blksize_words line (a ∷ b ∷ words) = refl

pub tick_words : (line : ℕ) (words : List (List ℕ)) → scripts.line_said line scripts.tick words ≡ tick_of line (one_of words)
tick_words line [] = refl
tick_words line (a ∷ []) = refl
tick_words line (a ∷ b ∷ words) = refl

counted : (f : ℕ → spec.Line) (r : Result ℕ ScriptFault) → (elim r as (λ x. (ℕ → Result spec.Line ScriptFault) → Result spec.Line ScriptFault) [
  | Ok a ↦ λ next. next a
  | Err fault ↦ λ next. Err fault
]) (λ n. Ok (f n)) ≡ with_count f r
counted f (Ok n) = refl
counted f (Err fault) = refl

pub give_words : (line : ℕ) (words : List (List ℕ)) → scripts.line_said line scripts.give words ≡ with_count spec.Give (count_of line (one_of words))
give_words line [] = refl
give_words line (a ∷ []) = counted spec.Give (scripts.count_word line a)
give_words line (a ∷ b ∷ words) = refl

pub lose_words : (line : ℕ) (words : List (List ℕ)) → scripts.line_said line scripts.lose words ≡ with_count spec.Lose (count_of line (one_of words))
lose_words line [] = refl
lose_words line (a ∷ []) = counted spec.Lose (scripts.count_word line a)
lose_words line (a ∷ b ∷ words) = refl

pub next_words : (line : ℕ) (words : List (List ℕ)) → scripts.line_said line scripts.next words ≡ with_count spec.Next (count_of line (one_of words))
next_words line [] = refl
next_words line (a ∷ []) = counted spec.Next (scripts.count_word line a)
next_words line (a ∷ b ∷ words) = refl
