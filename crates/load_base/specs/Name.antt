-- The names of files (docs/FORMATS.md, "Short texts").
use Rattle.std.specs.Prelude.{◌≡◌, ◌⊎◌, ℕ, ◌<◌, ◌≤◌, List, length, slice_index, ◌==◌, nat_le, Bool, not, ◌&&◌}
use Rattle.load_base.specs.Bytes.{AllGood, IsFirstBad}
use Rattle.load_base.specs.declared.name.NameFault.{NameFault}
use Rattle.load_base.specs.declared.name.NameFault.TheVariants.{Empty, TooLong, BadByte}

-- 0x21 to 0x7E, without the slash and the backslash
abbrev pub is_name_byte : ℕ → Bool
is_name_byte b = nat_le 0x21 b && nat_le b 0x7E && not (b == 0x2F) && not (b == 0x5C)

abbrev pub HasNameLength : List ℕ → Type 0
HasNameLength bytes = (1 ≤ length bytes) × (length bytes ≤ 64)

-- the first byte is a full stop
abbrev pub IsHidden : List ℕ → Type 0
IsHidden bytes = slice_index bytes 0 ≡ 0x2E

-- 1 to 64 such bytes, of which the first is no full stop
pub record IsName (bytes : List ℕ) : Type 0 where
  pub size : HasNameLength bytes
  pub visible : ¬ IsHidden bytes
  pub good : AllGood is_name_byte bytes

-- the first thing that is wrong with a text
abbrev pub IsNameFault : List ℕ → NameFault → Type 0
IsNameFault bytes Empty = length bytes ≡ 0
IsNameFault bytes TooLong = 64 < length bytes
IsNameFault bytes (BadByte offset) =
    HasNameLength bytes × ((IsHidden bytes × (offset ≡ 0)) ⊎ (¬ IsHidden bytes × IsFirstBad is_name_byte bytes offset))
