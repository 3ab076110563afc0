-- Texts as fields, each judged by the function that says what is wrong with its bytes.
use Rattle.std.proofs.Common.{ℕ, ◌<◌, ◌^◌, List, length, Option, refl, subst}
use Rattle.load_base.specs.Verdicts.{verdict, TellsFaults}
use Rattle.load_base.proofs.VerdictLemmas.{accepted}
use Rattle.field_grammar.specs.Fields.{judged_short, judged_padded, short_fields, padded_fields}
use Rattle.field_grammar.specs.Spelling.{IsSpelledBy}
use Rattle.field_grammar.specs.declared.fault.FieldFault.{FieldFault}
use Rattle.field_grammar.proofs.CombinedLemmas.{spelled-as}
use Rattle.field_grammar.proofs.TextLemmas.{Judges, spelled-judged_short, spelled-judged_padded}

-- a function that says the faults of a text judges the bytes of such a text, by the name that a format has for its faults
pub judges_by : {E F : Type 0} (wrong : ℕ → E → F) (fault_of : List ℕ → Option E) (IsRight : List ℕ → Type 0) (IsFault : List ℕ → E → Type 0) → TellsFaults fault_of IsRight IsFault
    → Judges (λ offset bytes. verdict (wrong offset) (fault_of bytes) bytes) (λ text. text) IsRight
judges_by wrong fault_of IsRight IsFault tells = record {
  there = λ offset bytes value fit e.
      let a = accepted (wrong offset) (fault_of bytes) bytes value e in
      (a.1, subst IsRight a.1 ((tells.right bytes).1 a.0));
  again = λ offset value is. (tells.small value is, rw ((tells.right value).0 is) refl);
}

-- so a short text that is right is spelled by its length and its bytes
pub spelled-right_short : {E F : Type 0} (named : FieldFault → F) (wrong : ℕ → E → F) (fault_of : List ℕ → Option E) (IsRight : List ℕ → Type 0) (IsFault : List ℕ → E → Type 0)
    → TellsFaults fault_of IsRight IsFault → ((text : List ℕ) → IsRight text → length text < 2 ^ 8)
    → IsSpelledBy (judged_short named (λ offset bytes. verdict (wrong offset) (fault_of bytes) bytes)) short_fields IsRight
spelled-right_short named wrong fault_of IsRight IsFault tells few =
    spelled-as (judged_short named (λ offset bytes. verdict (wrong offset) (fault_of bytes) bytes)) short_fields (λ t. (length t < 2 ^ 8) × IsRight t) IsRight (λ t both. both.1) (λ t is. (few t is, is))
    (spelled-judged_short named (λ offset bytes. verdict (wrong offset) (fault_of bytes) bytes) (λ t. t) IsRight (judges_by wrong fault_of IsRight IsFault tells))

-- and a padded one by its length, its bytes and its pad
pub spelled-right_padded : {E F : Type 0} (named : FieldFault → F) (wrong : ℕ → E → F) (fault_of : List ℕ → Option E) (IsRight : List ℕ → Type 0) (IsFault : List ℕ → E → Type 0)
    → TellsFaults fault_of IsRight IsFault → ((text : List ℕ) → IsRight text → length text < 2 ^ 16)
    → IsSpelledBy (judged_padded named (λ offset bytes. verdict (wrong offset) (fault_of bytes) bytes)) padded_fields IsRight
spelled-right_padded named wrong fault_of IsRight IsFault tells few =
    spelled-as (judged_padded named (λ offset bytes. verdict (wrong offset) (fault_of bytes) bytes)) padded_fields (λ t. (length t < 2 ^ 16) × IsRight t) IsRight (λ t both. both.1) (λ t is. (few t is, is))
    (spelled-judged_padded named (λ offset bytes. verdict (wrong offset) (fault_of bytes) bytes) (λ t. t) IsRight (judges_by wrong fault_of IsRight IsFault tells))
