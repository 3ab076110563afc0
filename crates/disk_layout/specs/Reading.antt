-- What is read from the bytes of a disk.
use Rattle.std.specs.Prelude.{◌≡◌, Result, Ok, Err}
use Rattle.field_grammar.specs.Cursor.{Cursor}
use Rattle.field_grammar.specs.Grammar.{Grammar, read}

-- A reader's answer, seen by view, is what the format reads there. Nothing is said of the reader after a refusal.
abbrev pub Parses : {F T X : Type 0} → (T → X) → Grammar F X → Cursor → Result T F → Cursor → Type 0
Parses view g old (Ok x) new = read g old ≡ Ok (view x, new)
Parses view g old (Err e) new = read g old ≡ Err e
