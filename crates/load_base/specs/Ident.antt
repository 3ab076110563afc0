-- The names of targets (docs/FORMATS.md, "Short texts").
use Rattle.std.specs.Prelude.{◌≡◌, ◌⊎◌, ℕ, ◌<◌, ◌≤◌, List, length, ◌==◌, nat_le, Bool, ◌&&◌, ◌||◌}
use Rattle.load_base.specs.Bytes.{AllGood, IsFirstBad}
use Rattle.load_base.specs.declared.ident.IdentFault.{IdentFault}
use Rattle.load_base.specs.declared.ident.IdentFault.TheVariants.{Length, BadByte}

-- A to Z, 0 to 9 or '-'
abbrev pub is_ident_byte : ℕ → Bool
is_ident_byte b = (nat_le 65 b && nat_le b 90) || (nat_le 48 b && nat_le b 57) || (b == 45)

abbrev pub HasIdentLength : List ℕ → Type 0
HasIdentLength bytes = (1 ≤ length bytes) × (length bytes ≤ 20)

-- 1 to 20 such bytes
pub record IsIdent (bytes : List ℕ) : Type 0 where
  pub size : HasIdentLength bytes
  pub good : AllGood is_ident_byte bytes

-- the first thing that is wrong with a text
abbrev pub IsIdentFault : List ℕ → IdentFault → Type 0
IsIdentFault bytes (Length found) = (found ≡ length bytes) × ((length bytes ≡ 0) ⊎ (20 < length bytes))
IsIdentFault bytes (BadByte offset) = HasIdentLength bytes × IsFirstBad is_ident_byte bytes offset
