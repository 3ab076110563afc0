-- What reading the bytes of a list or a batch gives.
use Rattle.std.proofs.Common.{◌≡◌, ◌≢◌, ℕ, List, Ok, Err, sym, ap, ◌⊎◌, inl, inr}
use Rattle.field_grammar.specs.Answers.{answer}
use Rattle.field_grammar.proofs.ExactLemmas.{answer-spelled, answer-fault, spelled_at_start}
use Rattle.field_grammar.specs.Grammar.{Grammar, Spelled, Fault}
use Rattle.load_header.specs.Header.{header, HeaderView}
use Rattle.load_header.specs.declared.fault.HeaderFault.{HeaderFault}
use Rattle.media_check.specs.Kept.{found_as}
use Rattle.media_check.specs.declared.found.Found.TheVariants.{Refused, Read}

pub as_read : {V F : Type 0} (format : Grammar F V) (bytes : List ℕ) (v : V) → Spelled format bytes v → Read v ≡ found_as (answer format bytes)
as_read format bytes v spelled = ap found_as (sym (answer-spelled format bytes v (spelled_at_start format bytes v spelled)))

pub as_refused : {V F : Type 0} (format : Grammar F V) (bytes : List ℕ) (none fault : F) → fault ≢ none → (fault ≡ none) ⊎ Fault format bytes fault
    → Refused fault ≡ found_as (answer format bytes)
as_refused format bytes none fault other refused =
    elim refused [ inl is ↦ absurd (other is) | inr wrong ↦ ap found_as (sym (answer-fault format bytes fault wrong)) ]

-- the same of a header
pub header_read : (bytes : List ℕ) (h : HeaderView) → Spelled header bytes h → answer header bytes ≡ Ok h
header_read bytes h spelled = answer-spelled header bytes h (spelled_at_start header bytes h spelled)

pub header_refused : (bytes : List ℕ) (none fault : HeaderFault) → fault ≢ none → (fault ≡ none) ⊎ Fault header bytes fault → answer header bytes ≡ Err fault
header_refused bytes none fault other refused = elim refused [ inl is ↦ absurd (other is) | inr wrong ↦ answer-fault header bytes fault wrong ]
