-- A position in bytes.
use Rattle.std.specs.Prelude.{ℕ, List, [], ◌++◌, take, drop}
use Rattle.std.specs.List.{concat}

-- what stands before the position, and what stands from it on
pub record Cursor : Type 0 where
  pub before : List ℕ
  pub rest : List ℕ

-- the position where the bytes begin
abbrev pub start : List ℕ → Cursor
start bytes = record { before = []; rest = bytes }

-- the position in the bytes that has N of them before it
abbrev pub cursor_at : List ℕ → ℕ → Cursor
cursor_at bytes offset = record { before = take offset bytes; rest = drop offset bytes }

-- n bytes further on
abbrev pub advanced : ℕ → Cursor → Cursor
advanced n c = record { before = c.before ++ take n c.rest; rest = drop n c.rest }

-- the position where these fields begin, after those bytes and before the rest
abbrev pub at : List ℕ → List (List ℕ) → List ℕ → Cursor
at before fields rest = record { before = before; rest = concat fields ++ rest }

-- the position after these fields
abbrev pub past : List ℕ → List (List ℕ) → List ℕ → Cursor
past before fields rest = record { before = before ++ concat fields; rest = rest }
