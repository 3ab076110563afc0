-- What a function answers that reads a format.
use Rattle.std.specs.Prelude.{◌≡◌, ℕ, ◌≤◌, List, length, Result, Ok, Err, ◌⊎◌}
use Rattle.field_grammar.specs.Cursor.{Cursor, start, cursor_at}
use Rattle.field_grammar.specs.Grammar.{Grammar, read, ◌then◌}

-- What the format says at the start of the bytes, or its first fault.
abbrev pub answer : {F A : Type 0} → Grammar F A → List ℕ → Result A F
answer g bytes = read g (start bytes) then (λ x. Ok x.0)

-- A reader's answer, seen by view, is what the format reads there; the reader then stands after it,
-- and after a refusal where it stood.
abbrev pub Reads : {F T X : Type 0} → (T → X) → Grammar F X → Cursor → Result T F → Cursor → Type 0
Reads view g old (Ok x) new = read g old ≡ Ok (view x, new)
Reads view g old (Err e) new = (read g old ≡ Err e) × (new ≡ old)

-- The same of a function that is given bytes and a position, and answers the position after.
abbrev pub ReadsAt : {F T X : Type 0} → (T → X) → Grammar F X → List ℕ → ℕ → Result (T × ℕ) F → Type 0
ReadsAt view g bytes offset (Ok x) = (x.1 ≤ length bytes) × (read g (cursor_at bytes offset) ≡ Ok (view x.0, cursor_at bytes x.1))
ReadsAt view g bytes offset (Err e) = read g (cursor_at bytes offset) ≡ Err e

-- The same of a function that may run out of memory: nothing is said of its reader after a refusal.
abbrev pub Decodes : {F T X : Type 0} → F → (T → X) → Grammar F X → Cursor → Result T F → Cursor → Type 0
Decodes memory view g old (Ok x) new = read g old ≡ Ok (view x, new)
Decodes memory view g old (Err e) new = (e ≡ memory) ⊎ (read g old ≡ Err e)

-- The answer, seen by view, is this one, unless it was out of memory.
abbrev pub AnswersAs : {F T X : Type 0} → F → (T → X) → Result T F → Result X F → Type 0
AnswersAs memory view (Ok x) r = r ≡ Ok (view x)
AnswersAs memory view (Err e) r = (e ≡ memory) ⊎ (r ≡ Err e)
