-- The identity, as the reader of its bytes found it.
use Rattle.std.proofs.Common.{◌≡◌, ℕ, List, Result, Ok, Err, IfOk, refl, sym, ap, ◌∙◌}
use Rattle.std.specs.Prelude.{IfErr}
use Rattle.field_grammar.specs.Cursor.{Cursor, start}
use Rattle.field_grammar.specs.Grammar.{IsBytes, SpelledAtStart, Fault, read}
use Rattle.field_grammar.specs.Answers.{answer}
use Rattle.field_grammar.proofs.ExactLemmas.{answer_is_spelled, answer_is_fault}
use Rattle.disk_layout.specs.Identity.{identity}
use Rattle.disk_layout.specs.declared.identity.Identity.{Identity}
use Rattle.disk_layout.specs.Reading.{Parses}

abbrev ParsesPrefix : List ℕ → Cursor → Result Identity ℕ → Cursor → Type 0
ParsesPrefix prefix from result to = Parses (λ id. id) identity from result to

found_answer : (prefix : List ℕ) (id : Identity) (to : Cursor) → read identity (start prefix) ≡ Ok (id, to) → answer identity prefix ≡ Ok id
found_answer prefix id to e = rw e refl

refused_answer : (prefix : List ℕ) (offset : ℕ) → read identity (start prefix) ≡ Err offset → answer identity prefix ≡ Err offset
refused_answer prefix offset e = rw e refl

-- what was found is spelled at the start
pub found_at_start : (prefix : List ℕ) (from to : Cursor) (result : Result Identity ℕ) → IsBytes prefix → from ≡ start prefix → ParsesPrefix prefix from result to
    → IfOk result (λ id. SpelledAtStart identity prefix id)
found_at_start prefix from to (Ok id) fits is parses =
    answer_is_spelled identity prefix id fits (found_answer prefix id to (ap (λ (c : Cursor). read identity c) (sym is) ∙ parses))
found_at_start prefix from to (Err offset) fits is parses = tt

-- what was refused is the fault at the start
pub refused_at_start : (prefix : List ℕ) (from to : Cursor) (result : Result Identity ℕ) → IsBytes prefix → from ≡ start prefix → ParsesPrefix prefix from result to
    → IfErr result (λ offset. Fault identity prefix offset)
refused_at_start prefix from to (Ok id) fits is parses = tt
refused_at_start prefix from to (Err offset) fits is parses =
    answer_is_fault identity prefix offset fits (refused_answer prefix offset (ap (λ (c : Cursor). read identity c) (sym is) ∙ parses))
