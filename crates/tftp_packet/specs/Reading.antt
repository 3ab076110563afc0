-- What the functions answer that read packets.
use Rattle.std.specs.Prelude.{◌≡◌, ℕ, ◌≤◌, Option, Some, None, IfSome, ⊤, Result, Ok, Err}
use Rattle.field_grammar.specs.Cursor.{Cursor}
use Rattle.field_grammar.specs.Grammar.{Grammar, read}
use Rattle.tftp_packet.specs.declared.options.Known.{Known}
use Rattle.tftp_packet.specs.Options.{most}

-- The answer, seen by view, is what the format reads from the reader's position on, and the reader stands after it; or it is
-- the first fault there, and nothing is said of the reader.
abbrev pub ReadsOn : {F T X : Type 0} → (T → X) → Grammar F X → Cursor → Result T F → Cursor → Type 0
ReadsOn view g old (Ok x) new = read g old ≡ Ok (view x, new)
ReadsOn view g old (Err e) new = read g old ≡ Err e

-- a value of the known option passes no limit
abbrev pub IsSmall : Option Known → Option ℕ → Type 0
IsSmall None said = ⊤
IsSmall (Some known) said = IfSome said (λ n. n ≤ most known)
