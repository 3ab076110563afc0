-- What a fleet's script says of a unit it says of one of its units.
use Rattle.std.proofs.Common.{◌≡◌, ℕ, zero, suc, ◌≤◌, ◌&&◌, Bool, true, false, cond, List, [], ◌∷◌, length, nat_le, codes, Option, Some, None, Result, Ok, Err, refl, sym, subst}
use Rattle.std.specs.Prelude.{slice_get}
use Rattle.std.specs.Str.Parse.{digits_value}
use Rattle.std.proofs.lemmas.Bool.{leb-true}
use Rattle.load_base.specs.Bytes.{same_bytes}
use Rattle.exchange_trace.specs.Lines.{Line}
use Rattle.exchange_trace.specs.Scripts.{◌>>=◌, Keyword, count_word, found_in, keywords, line_said, part_word, required, info, upload, give, lose, next, tick, inject, power, boot, blksize, finish}
use Rattle.text_words.specs.Words.{WrittenLine, decimal_between, is_decimal}
use Rattle.exchange_trace.specs.declared.fault.ScriptFault.{ScriptFault}
use Rattle.exchange_trace.specs.declared.fault.ScriptFault.TheVariants.{Unit, Word}
use Rattle.fleet_trace.specs.FleetLines.{FleetLine, Ask_next, Begin_batch, Finish_all, Finish_batch, Give_numbered, Line_at, Lose_numbered, Next_of_all}
use Rattle.fleet_trace.specs.FleetScripts.{alone_said, at_said, at_unit_said, batch_said, fleet_line_said, fleet_lines_said, fleet_words_said, takes, unit_line_said}
use Rattle.fleet_link.specs.Lines.{AreAtUnits, IsAtUnit}

-- what is said is of one of the units
AtUnit : ℕ → Result FleetLine ScriptFault → Type 0
AtUnit units said = (line : FleetLine) → said ≡ Ok line → IsAtUnit units line

refused : (units : ℕ) (fault : ScriptFault) → AtUnit units (Err fault)
unfolding AtUnit
refused units fault line e = absurd cc

number_within : (units n : ℕ) (word : List ℕ) → decimal_between 1 units word ≡ Some n → (1 ≤ n) × (n ≤ units)
unfolding decimal_between
number_within units n word e = by (is_decimal word) (nat_le 1 (digits_value 10 word)) (nat_le (digits_value 10 word) units) refl refl e
  where
    by : (d low high : Bool) → nat_le 1 (digits_value 10 word) ≡ low → nat_le (digits_value 10 word) units ≡ high
        → cond d (cond (low && high) (Some (digits_value 10 word)) None) None ≡ Some n → (1 ≤ n) × (n ≤ units)
    by false low high l h e = absurd cc
    by true false high l h e = absurd cc
    by true true false l h e = absurd cc
    by true true true l h e =
        let same : digits_value 10 word ≡ n = cc in
        let both : (1 ≤ digits_value 10 word) × (digits_value 10 word ≤ units) = (leb-true 1 (digits_value 10 word) l, leb-true (digits_value 10 word) units h) in
        subst (λ m. (1 ≤ m) × (m ≤ units)) same both

-- ---- lines

module _ (units n : ℕ) where
  at_unit : (unit : List ℕ) (keyword : Keyword) (words : List (List ℕ)) → AtUnit units (at_unit_said n units unit keyword words)
  unfolding AtUnit
  at_unit unit keyword words = by (decimal_between 1 units unit) refl (line_said n keyword words)
    where
      by : (found : Option ℕ) → decimal_between 1 units unit ≡ found → (said : Result Line ScriptFault) (line : FleetLine) → (required (Unit n) found >>= λ number. said >>= λ l. Ok (Line_at number l)) ≡ Ok line → IsAtUnit units line
      by None is said line e = absurd cc
      by (Some number) is (Err fault) line e = absurd cc
      by (Some number) is (Ok said) line e = let same : Line_at number said ≡ line = cc in subst (λ l. IsAtUnit units l) same (number_within units number unit is)

  at_line : (words : List (List ℕ)) → AtUnit units (at_said n units words)
  at_line [] = refused units (Word n)
  at_line (unit ∷ []) = refused units (Word n)
  at_line (unit ∷ word ∷ words) = by (found_in keywords word)
    where
      taken : (keyword : Keyword) (b : Bool) → AtUnit units (cond b (at_unit_said n units unit keyword words) (Err (Word n)))
      taken keyword true = at_unit unit keyword words
      taken keyword false = refused units (Word n)

      by : (keyword : Option Keyword) → AtUnit units (unit_line_said n units unit keyword words)
      by None = refused units (Word n)
      by (Some keyword) = taken keyword (takes keyword (length words))

  numbered : (says : ℕ → FleetLine) → ((k : ℕ) → IsAtUnit units (says k)) → (count : Result ℕ ScriptFault) → AtUnit units (count >>= λ k. Ok (says k))
  unfolding AtUnit
  numbered says each (Err fault) = λ line e. absurd cc
  numbered says each (Ok k) = λ line e. let same : says k ≡ line = cc in subst (λ l. IsAtUnit units l) same (each k)

  of_no_unit : (keyword : Option Keyword) (words : List (List ℕ)) → AtUnit units (fleet_line_said n keyword words)
  unfolding AtUnit
  of_no_unit None words = refused units (Word n)
  of_no_unit (Some give) [] = refused units (Word n)
  of_no_unit (Some give) (word ∷ []) = numbered Give_numbered (λ k. tt) (count_word n word)
  of_no_unit (Some give) (word ∷ second ∷ words) = refused units (Word n)
  of_no_unit (Some lose) [] = refused units (Word n)
  of_no_unit (Some lose) (word ∷ []) = numbered Lose_numbered (λ k. tt) (count_word n word)
  of_no_unit (Some lose) (word ∷ second ∷ words) = refused units (Word n)
  of_no_unit (Some next) [] = refused units (Word n)
  of_no_unit (Some next) (word ∷ []) = numbered Next_of_all (λ k. tt) (count_word n word)
  of_no_unit (Some next) (word ∷ second ∷ words) = refused units (Word n)
  of_no_unit (Some finish) [] = λ line e. let same : Finish_all ≡ line = cc in subst (λ l. IsAtUnit units l) same tt
  of_no_unit (Some finish) (word ∷ words) = refused units (Word n)
  of_no_unit (Some info) words = refused units (Word n)
  of_no_unit (Some upload) words = refused units (Word n)
  of_no_unit (Some tick) words = refused units (Word n)
  of_no_unit (Some inject) words = refused units (Word n)
  of_no_unit (Some power) words = refused units (Word n)
  of_no_unit (Some boot) words = refused units (Word n)
  of_no_unit (Some blksize) words = refused units (Word n)

  named : (part : Result (List ℕ) ScriptFault) → AtUnit units (part >>= λ number. Ok (Begin_batch number))
  unfolding AtUnit
  named (Err fault) = λ line e. absurd cc
  named (Ok part) = λ line e. let same : Begin_batch part ≡ line = cc in subst (λ l. IsAtUnit units l) same tt

  of_batch : (words : List (List ℕ)) → AtUnit units (batch_said n words)
  of_batch [] = refused units (Word n)
  of_batch (word ∷ []) = named (part_word n word)
  of_batch (word ∷ second ∷ words) = refused units (Word n)

  of_alone : (says : FleetLine) → IsAtUnit units says → (words : List (List ℕ)) → AtUnit units (alone_said n says words)
  unfolding AtUnit
  of_alone says is [] = λ line e. let same : says ≡ line = cc in subst (λ l. IsAtUnit units l) same is
  of_alone says is (word ∷ words) = refused units (Word n)

  words_at_unit : (words : List (List ℕ)) → AtUnit units (fleet_words_said n units words)
  words_at_unit [] = refused units (Word n)
  words_at_unit (word ∷ words) = by (same_bytes word (codes "at")) (same_bytes word (codes "batch")) (same_bytes word (codes "asknext")) (same_bytes word (codes "finishbatch"))
    where
      by : (at batch asks finishes : Bool) → AtUnit units (cond at (at_said n units words) (cond batch (batch_said n words)
          (cond asks (alone_said n Ask_next words) (cond finishes (alone_said n Finish_batch words) (fleet_line_said n (found_in keywords word) words)))))
      by true batch asks finishes = at_line words
      by false true asks finishes = of_batch words
      by false false true finishes = of_alone Ask_next tt words
      by false false false true = of_alone Finish_batch tt words
      by false false false false = of_no_unit (found_in keywords word) words

-- ---- texts

pub lines_at_units : (units : ℕ) (written : List WrittenLine) (lines : List FleetLine) → fleet_lines_said units written ≡ Ok lines → AreAtUnits units lines
unfolding AtUnit
lines_at_units units [] lines e = λ k line there. let same : [] ≡ lines = cc in absurd (let nothing : slice_get {X = FleetLine} [] k ≡ Some line = subst (λ (ls : List FleetLine). slice_get ls k ≡ Some line) (sym same) there in cc)
lines_at_units units (written ∷ later) lines e =
    by (fleet_words_said written.number units written.words) (fleet_lines_said units later) refl refl (lines_at_units units later) e
  where
    by : (first : Result FleetLine ScriptFault) (others : Result (List FleetLine) ScriptFault) → fleet_words_said written.number units written.words ≡ first → fleet_lines_said units later ≡ others
        → ((ls : List FleetLine) → fleet_lines_said units later ≡ Ok ls → AreAtUnits units ls)
        → (first >>= λ line. others >>= λ ls. Ok (line ∷ ls)) ≡ Ok lines → AreAtUnits units lines
    by (Err fault) others is are each e = absurd cc
    by (Ok first) (Err fault) is are each e = absurd cc
    by (Ok first) (Ok others) is are each e = λ k line there. at k line (let same : first ∷ others ≡ lines = cc in subst (λ (ls : List FleetLine). slice_get ls k ≡ Some line) (sym same) there)
      where
        at : (k : ℕ) (line : FleetLine) → slice_get (first ∷ others) k ≡ Some line → IsAtUnit units line
        at zero line there = let same : first ≡ line = cc in subst (λ l. IsAtUnit units l) same (words_at_unit units written.number written.words first is)
        at (suc k) line there = each others are k line there
