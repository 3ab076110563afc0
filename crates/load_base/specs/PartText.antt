-- The part numbers of loads, as text (docs/FORMATS.md, "Short texts").
use Rattle.std.specs.Prelude.{◌≡◌, ◌≢◌, ℕ, List, length, nat_le, Bool, ◌&&◌}
use Rattle.load_base.specs.Bytes.{AllGood, IsFirstBad}
use Rattle.load_base.specs.declared.part_text.PartTextFault.{PartTextFault}
use Rattle.load_base.specs.declared.part_text.PartTextFault.TheVariants.{Length, BadByte}

-- 0x21 to 0x7E
abbrev pub is_graphic : ℕ → Bool
is_graphic b = nat_le 0x21 b && nat_le b 0x7E

-- 15 such bytes
pub record IsPartText (bytes : List ℕ) : Type 0 where
  pub size : length bytes ≡ 15
  pub good : AllGood is_graphic bytes

-- the first thing that is wrong with a text
abbrev pub IsPartTextFault : List ℕ → PartTextFault → Type 0
IsPartTextFault bytes (Length found) = (found ≡ length bytes) × (length bytes ≢ 15)
IsPartTextFault bytes (BadByte offset) = (length bytes ≡ 15) × IsFirstBad is_graphic bytes offset
