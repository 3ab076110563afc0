-- Texts that people read (docs/FORMATS.md).
use Rattle.std.specs.Prelude.{◌≡◌, ℕ, ◌<◌, ◌≤◌, List, length, nat_le, Bool, ◌&&◌}
use Rattle.load_base.specs.Bytes.{AllGood, IsFirstBad}
use Rattle.load_base.specs.declared.text.TextFault.{TextFault}
use Rattle.load_base.specs.declared.text.TextFault.TheVariants.{TooLong, BadByte, Memory}

-- 0x20 to 0x7E
abbrev pub is_printable : ℕ → Bool
is_printable b = nat_le 0x20 b && nat_le b 0x7E

-- at most 255 such bytes
pub record IsText (bytes : List ℕ) : Type 0 where
  pub size : length bytes ≤ 255
  pub good : AllGood is_printable bytes

-- the first thing that is wrong with a text; Memory says nothing of it
abbrev pub IsTextFault : List ℕ → TextFault → Type 0
IsTextFault bytes (TooLong found) = (found ≡ length bytes) × (255 < length bytes)
IsTextFault bytes (BadByte offset) = (length bytes ≤ 255) × IsFirstBad is_printable bytes offset
IsTextFault bytes Memory = Unit {0}
