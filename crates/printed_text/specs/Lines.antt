-- Lines of printed text (docs/FORMATS.md, "Printed text").
use Rattle.std.specs.Prelude.{ℕ, ◌+◌, ◌-◌, ◌/◌, ◌%◌, nat_lt, if◌then◌else◌, List, [], ◌∷◌, ◌++◌}
use Rattle.std.specs.Fmt.{decimal}

-- words with one space between them, and a line feed
abbrev pub line : List (List ℕ) → List ℕ
line [] = 10 ∷ []
line (word ∷ []) = word ++ 10 ∷ []
line (word ∷ words) = word ++ 32 ∷ line words

-- an upper-case hexadecimal digit
abbrev pub hex_digit : ℕ → ℕ
hex_digit digit = if nat_lt digit 10 then digit + 48 else digit - 10 + 65

-- two of them, for a byte
unfoldable pub hex_8 : ℕ → List ℕ
hex_8 number = hex_digit (number / 16) ∷ hex_digit (number % 16) ∷ []

-- four of them
unfoldable pub hex_16 : ℕ → List ℕ
hex_16 number = hex_digit (number / 4096) ∷ hex_digit (number / 256 % 16) ∷ hex_digit (number / 16 % 16) ∷ hex_digit (number % 16) ∷ []

-- eight of them
abbrev pub hex_32 : ℕ → List ℕ
hex_32 number = hex_16 (number / 65536) ++ hex_16 (number % 65536)

-- `NAME VALUE`
unfoldable pub field_line : (name value : List ℕ) → List ℕ
field_line name value = line (name ∷ value ∷ [])

-- `NAME NUMBER`
abbrev pub number_line : (name : List ℕ) (number : ℕ) → List ℕ
number_line name number = field_line name (decimal number)
