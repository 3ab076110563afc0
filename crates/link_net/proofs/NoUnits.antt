-- A script of one target is never refused for a unit.
use Rattle.std.proofs.Common.{◌≡◌, ◌⊎◌, inl, inr, ◌∙◌, ℕ, suc, ◌&&◌, codes, List, [], ◌∷◌, length, Bool, true, false, Option, Some, None, Result, Ok, Err, if◌then◌else◌, nat_le, is_none, ap}
use Rattle.hex.specs.Hex.{decode_of}
use Rattle.hex.specs.declared.error.FromHexError.{FromHexError}
use Rattle.load_base.specs.Bytes.{same_bytes}
use Rattle.load_base.specs.Verdicts.{ident_fault_of, part_text_fault_of}
use Rattle.exchange_trace.specs.Happenings.{other}
use Rattle.exchange_trace.specs.Lines.{Info, Upload, Give, Lose, Next, Tick, Inject, Power, Boot, Blksize, Finish}
use Rattle.exchange_trace.specs.Scripts.{◌>>=◌, Keyword, bytes_word, by_keyword, count_word, found_in, ident_word, keywords, line_said, lines_said, number_word, part_word, part_words, port_word, required, side_word, size_word, upload_said, words_said, info, upload, give, lose, next, tick, inject, power, boot, blksize, finish}
use Rattle.text_words.specs.Words.{WrittenLine, decimal_between}
use Rattle.exchange_trace.specs.declared.fault.ScriptFault.{ScriptFault}
use Rattle.exchange_trace.specs.declared.fault.ScriptFault.TheVariants.{Word, Number, Hex, Name, Unit, Memory}

-- it isn't refused for a unit
abbrev pub NoUnit : {A : Type 0} → Result A ScriptFault → Type 0
NoUnit r = (line : ℕ) → r ≡ Err (Unit line) → ⊥

read : {A : Type 0} (a : A) → NoUnit (Ok a)
read a line e = absurd cc

word : {A : Type 0} (n : ℕ) → NoUnit {A = A} (Err (Word n))
word n line e = absurd cc

number : {A : Type 0} (n : ℕ) → NoUnit {A = A} (Err (Number n))
number n line e = absurd cc

hexadecimal : {A : Type 0} (n : ℕ) → NoUnit {A = A} (Err (Hex n))
hexadecimal n line e = absurd cc

name : {A : Type 0} (n : ℕ) → NoUnit {A = A} (Err (Name n))
name n line e = absurd cc

then_none : {A B : Type 0} (r : Result A ScriptFault) (later : A → Result B ScriptFault) → NoUnit r → ((a : A) → NoUnit (later a)) → NoUnit (r >>= later)
then_none (Ok a) later first others = others a
then_none (Err fault) later first others = λ line e. first line (let same : fault ≡ Unit line = cc in ap Err same)

either : {A : Type 0} (b : Bool) {x y : Result A ScriptFault} → NoUnit x → NoUnit y → NoUnit (if b then x else y)
either true one other = one
either false one other = other

numbers : (n low high : ℕ) (text : List ℕ) → NoUnit (number_word n low high text)
numbers n low high text = of (decimal_between low high text)
  where
    of : (given : Option ℕ) → NoUnit (required (Number n) given)
    of (Some a) = read a
    of None = number n

idents : (n : ℕ) (text : List ℕ) → NoUnit (ident_word n text)
idents n text = either (is_none (ident_fault_of text)) (read text) (name n)

part : (n : ℕ) (text : List ℕ) → NoUnit (part_word n text)
part n text = either (is_none (part_text_fault_of text)) (read text) (name n)

parts : (n : ℕ) (texts : List (List ℕ)) → NoUnit (part_words n texts)
parts n [] = read []
parts n (text ∷ texts) = then_none (part_word n text) _ (part n text) (λ a. then_none (part_words n texts) _ (parts n texts) (λ others. read (a ∷ others)))

sides : (n : ℕ) (text : List ℕ) → NoUnit (side_word n text)
sides n text = either (same_bytes text _) (read _) (either (same_bytes text _) (read _) (word n))

payload : (n : ℕ) (text : List ℕ) → NoUnit (bytes_word n text)
payload n text = either (nat_le 2 (length text) && nat_le (length text) 130936) (of (decode_of text)) (hexadecimal n)
  where
    of : (r : Result (List ℕ) FromHexError) → NoUnit (elim r [
      | Ok bytes ↦ Ok bytes
      | Err wrong ↦ Err (Hex n)
    ])
    of (Ok bytes) = read bytes
    of (Err wrong) = hexadecimal n

sizes : (n : ℕ) (text : List ℕ) → NoUnit (size_word n text)
sizes n text = either (same_bytes text (codes "0")) (read None) (then_none (number_word n 8 65464 text) _ (numbers n 8 65464 text) (λ size. read (Some size)))

uploads : (n : ℕ) (hw pos : List ℕ) (texts : List (List ℕ)) → NoUnit (upload_said n hw pos texts)
uploads n hw pos texts =
    then_none (ident_word n hw) _ (idents n hw) (λ target. then_none (ident_word n pos) _ (idents n pos) (λ position. then_none (part_words n texts) _ (parts n texts) (λ numbers. read (Upload target position numbers))))

-- ---- lines

line_never : (n : ℕ) (k : Keyword) (words : List (List ℕ)) → NoUnit (line_said n k words)
line_never n info [] = word n
line_never n info (a ∷ []) = word n
line_never n info (a ∷ b ∷ []) = then_none (ident_word n a) _ (idents n a) (λ target. then_none (ident_word n b) _ (idents n b) (λ position. read (Info target position)))
line_never n info (a ∷ b ∷ c ∷ more) = word n
line_never n upload [] = word n
line_never n upload (a ∷ []) = word n
line_never n upload (a ∷ b ∷ []) = word n
line_never n upload (a ∷ b ∷ c ∷ more) = either (nat_le (suc (length more)) 64) (uploads n a b (c ∷ more)) (word n)
line_never n give [] = word n
line_never n give (a ∷ []) = then_none (count_word n a) _ (numbers n 1 4294967295 a) (λ k. read (Give k))
line_never n give (a ∷ b ∷ more) = word n
line_never n lose [] = word n
line_never n lose (a ∷ []) = then_none (count_word n a) _ (numbers n 1 4294967295 a) (λ k. read (Lose k))
line_never n lose (a ∷ b ∷ more) = word n
line_never n next [] = word n
line_never n next (a ∷ []) = then_none (count_word n a) _ (numbers n 1 4294967295 a) (λ k. read (Next k))
line_never n next (a ∷ b ∷ more) = word n
line_never n tick [] = word n
line_never n tick (a ∷ []) = then_none (side_word n a) _ (sides n a) (λ side. read (Tick side))
line_never n tick (a ∷ b ∷ more) = word n
line_never n inject [] = word n
line_never n inject (a ∷ []) = word n
line_never n inject (a ∷ b ∷ []) = word n
line_never n inject (a ∷ b ∷ c ∷ []) = word n
line_never n inject (a ∷ b ∷ c ∷ d ∷ []) =
    then_none (side_word n a) _ (sides n a) (λ reached. then_none (port_word n b) _ (numbers n 0 65535 b) (λ source. then_none (port_word n c) _ (numbers n 0 65535 c) (λ goal. then_none (bytes_word n d) _ (payload n d) (λ bytes. read (Inject (record { side = other reached; from = source; to = goal; bytes = bytes }))))))
line_never n inject (a ∷ b ∷ c ∷ d ∷ e ∷ more) = word n
line_never n power [] = word n
line_never n power (a ∷ []) = word n
line_never n power (a ∷ b ∷ []) =
    then_none (number_word n 0 4294967295 a) _ (numbers n 0 4294967295 a) (λ count. then_none (number_word n 0 4294967295 b) _ (numbers n 0 4294967295 b) (λ choice. read (Power count choice)))
line_never n power (a ∷ b ∷ c ∷ more) = word n
line_never n boot [] = read Boot
line_never n boot (a ∷ more) = word n
line_never n blksize [] = word n
line_never n blksize (a ∷ []) = then_none (size_word n a) _ (sizes n a) (λ size. read (Blksize size))
line_never n blksize (a ∷ b ∷ more) = word n
line_never n finish [] = read Finish
line_never n finish (a ∷ more) = word n

keyword_never : (n : ℕ) (k : Option Keyword) (words : List (List ℕ)) → NoUnit (by_keyword n k words)
keyword_never n None words = word n
keyword_never n (Some k) words = line_never n k words

words_never : (n : ℕ) (words : List (List ℕ)) → NoUnit (words_said n words)
words_never n [] = word n
words_never n (first ∷ words) = keyword_never n (found_in keywords first) words

lines_never : (lines : List WrittenLine) → NoUnit (lines_said lines)
lines_never [] = read []
lines_never (written ∷ later) =
    then_none (words_said written.number written.words) _ (words_never written.number written.words) (λ line. then_none (lines_said later) _ (lines_never later) (λ lines. read (line ∷ lines)))

-- a refusal of these lines, or that there is no memory, is none for a unit
pub refused_never : (written : List WrittenLine) (fault : ScriptFault) → (fault ≡ Memory) ⊎ (lines_said written ≡ Err fault) → (line : ℕ) → fault ≡ Unit line → ⊥
refused_never written fault (inl memory) line e = absurd cc
refused_never written fault (inr said) line e = lines_never written line (said ∙ ap Err e)
