-- The line of user data (docs/FORMATS.md, "Printed text").
use Rattle.std.specs.Prelude.{ℕ, List, [], ◌∷◌, codes}
use Rattle.std.specs.List.{flat_map}
use Rattle.printed_text.specs.Lines.{line, hex_8}

-- `user HEX`, or `user -` for none
unfoldable pub user_line : List ℕ → List ℕ
user_line [] = line (codes "user" ∷ codes "-" ∷ [])
user_line (byte ∷ bytes) = line (codes "user" ∷ flat_map hex_8 (byte ∷ bytes) ∷ [])
