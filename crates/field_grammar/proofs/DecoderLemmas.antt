-- What a decoder promises that gives a format's answer.
use Rattle.std.proofs.Common.{◌≡◌, ℕ, List, [], length, Result, Ok, Err, refl, sym, ap, ◌∙◌, ◌⊎◌, inl, inr}
use Rattle.std.proofs.lemmas.List.{append-nil, nil_from_length}
use Rattle.std.specs.Prelude.{IfOk, IfErr}
use Rattle.std.specs.List.{concat}
use Rattle.field_grammar.specs.Grammar.{Grammar, IsBytes, Spelled, SpelledAtStart, Fault, EndsTheBytes}
use Rattle.field_grammar.specs.Answers.{answer, AnswersAs}
use Rattle.field_grammar.specs.Spelling.{SpellsWhole}
use Rattle.field_grammar.proofs.ExactLemmas.{answer-spelled, answer-fault, answer_is_spelled, answer_is_fault, spelled_at_start, spelled_whole}

-- two answers to one question
gives_also : {F T X : Type 0} (memory : F) (view : T → X) (r : Result T F) (a b : Result X F) → AnswersAs memory view r a → a ≡ b → AnswersAs memory view r b
gives_also memory view (Ok x) a b gives same = sym same ∙ gives
gives_also memory view (Err f) a b gives same = elim gives [ inl wants ↦ inl wants | inr is ↦ inr (sym same ∙ is) ]

-- ---- refusals

-- a refusal is out of memory, or the fault
pub refused : {F T X : Type 0} (memory : F) (view : T → X) (g : Grammar F X) (bytes : List ℕ) (r : Result T F) → IsBytes bytes
    → AnswersAs memory view r (answer g bytes) → IfErr r (λ e. (e ≡ memory) ⊎ Fault g bytes e)
refused memory view g bytes (Ok x) fit gives = tt
refused memory view g bytes (Err e) fit gives = elim gives [ inl wants ↦ inl wants | inr is ↦ inr (answer_is_fault g bytes e fit is) ]

-- a fault is refused
pub faulty : {F T X : Type 0} (memory : F) (view : T → X) (g : Grammar F X) (bytes : List ℕ) (r : Result T F)
    → AnswersAs memory view r (answer g bytes) → (f : F) → Fault g bytes f → AnswersAs memory view r (Err f)
faulty memory view g bytes r gives f fault = gives_also memory view r (answer g bytes) (Err f) gives (answer-fault g bytes f fault)

-- ---- values at the start of bytes

-- what was read is spelled at the start
pub found_at_start : {F T X : Type 0} (memory : F) (view : T → X) (g : Grammar F X) (bytes : List ℕ) (r : Result T F) → IsBytes bytes
    → AnswersAs memory view r (answer g bytes) → IfOk r (λ x. SpelledAtStart g bytes (view x))
found_at_start memory view g bytes (Err e) fit gives = tt
found_at_start memory view g bytes (Ok x) fit gives = answer_is_spelled g bytes (view x) fit gives

-- what is spelled at the start is read
pub only_at_start : {F T X : Type 0} (memory : F) (view : T → X) (g : Grammar F X) (bytes : List ℕ) (r : Result T F)
    → AnswersAs memory view r (answer g bytes) → (v : X) → SpelledAtStart g bytes v → AnswersAs memory view r (Ok v)
only_at_start memory view g bytes r gives v spelled = gives_also memory view r (answer g bytes) (Ok v) gives (answer-spelled g bytes v spelled)

-- ---- values of whole bytes

-- what was read is spelled
pub found : {F T X : Type 0} (memory : F) (view : T → X) (g : Grammar F X) (bytes : List ℕ) (r : Result T F) → EndsTheBytes g → IsBytes bytes
    → AnswersAs memory view r (answer g bytes) → IfOk r (λ x. Spelled g bytes (view x))
found memory view g bytes (Err e) ends fit gives = tt
found memory view g bytes (Ok x) ends fit gives = spelled_whole g bytes (view x) ends (answer_is_spelled g bytes (view x) fit gives)

-- what is spelled is read
pub only : {F T X : Type 0} (memory : F) (view : T → X) (g : Grammar F X) (bytes : List ℕ) (r : Result T F)
    → AnswersAs memory view r (answer g bytes) → (v : X) → Spelled g bytes v → AnswersAs memory view r (Ok v)
only memory view g bytes r gives v spelled = only_at_start memory view g bytes r gives v (spelled_at_start g bytes v spelled)

-- ---- values of whole bytes that have one spelling each

-- bytes that a format spells are the one spelling of a value that fits
pub spelling_is : {F X : Type 0} (g : Grammar F X) (s : X → List (List ℕ)) (P : X → Type 0) (bytes : List ℕ) (v : X) → SpellsWhole g s P → Spelled g bytes v → P v × (bytes ≡ concat (s v))
spelling_is g s P bytes v spells spelled =
    let (fields, parts, follows) = spelled in
    let a = spells.to fields 0 v follows in
    (a.1, parts ∙ ap concat a.0)

-- and the other way round
pub spelled_by : {F X : Type 0} (g : Grammar F X) (s : X → List (List ℕ)) (P : X → Type 0) (bytes : List ℕ) (v : X) → SpellsWhole g s P → P v × (bytes ≡ concat (s v)) → Spelled g bytes v
spelled_by g s P bytes v spells is = (s v, is.1, spells.from v is.0)

-- what was read is spelled so
pub found_spelling : {F T X : Type 0} (memory : F) (view : T → X) (g : Grammar F X) (s : X → List (List ℕ)) (P : X → Type 0) (bytes : List ℕ) (r : Result T F)
    → SpellsWhole g s P → IsBytes bytes → AnswersAs memory view r (answer g bytes) → IfOk r (λ x. P (view x) × (bytes ≡ concat (s (view x))))
found_spelling memory view g s P bytes (Err e) spells fit gives = tt
found_spelling memory view g s P bytes (Ok x) spells fit gives =
    let (fields, rest, parts, follows) = answer_is_spelled g bytes (view x) fit gives in
    let a = spells.to fields (length rest) (view x) follows in
    let none : rest ≡ [] = nil_from_length rest a.2 in
    (a.1, parts ∙ rw (none, a.0, append-nil) refl)

-- what is spelled so is read
pub only_spelling : {F T X : Type 0} (memory : F) (view : T → X) (g : Grammar F X) (s : X → List (List ℕ)) (P : X → Type 0) (bytes : List ℕ) (r : Result T F)
    → SpellsWhole g s P → AnswersAs memory view r (answer g bytes) → (v : X) → P v × (bytes ≡ concat (s v)) → AnswersAs memory view r (Ok v)
only_spelling memory view g s P bytes r spells gives v is = only memory view g bytes r gives v (spelled_by g s P bytes v spells is)
