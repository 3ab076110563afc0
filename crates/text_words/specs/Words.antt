-- Lines, words and decimal numbers of a text that people write (docs/FORMATS.md, "Script" and "Recipe").
use Rattle.std.specs.Prelude.{ℕ, ◌+◌, List, [], ◌∷◌, length, slice_index, Bool, true, not, ◌==◌, nat_lt, nat_le, ◌&&◌, ◌||◌, Option, Some, None, if◌then◌else◌}
use Rattle.std.specs.Char.{is_ascii_digit}
use Rattle.std.specs.List.{join_with_byte, list_all, slice_split}
use Rattle.std.specs.Str.Parse.{digits_value}

-- ---- lines

-- these lines with a line feed between two
abbrev pub lines : List (List ℕ) → List ℕ
lines texts = join_with_byte 10 texts

-- a line that is empty or begins with `#`
abbrev pub is_passed_over : List ℕ → Bool
is_passed_over [] = true
is_passed_over (byte ∷ bytes) = byte == 35

-- a line that isn't passed over: its number, from 1, and its words, which stand one space apart
pub record WrittenLine : Type 0 where
  pub number : ℕ
  pub words : List (List ℕ)

abbrev pub written_from : ℕ → List (List ℕ) → List WrittenLine
written_from number [] = []
written_from number (line ∷ lines) =
    if is_passed_over line then written_from (number + 1) lines
    else record { number = number; words = slice_split (λ byte. byte == 32) line } ∷ written_from (number + 1) lines

-- the lines of a text; each is ended by a line feed, which the last may lack
unfoldable pub written_lines : List ℕ → List WrittenLine
written_lines text = written_from 1 (slice_split (λ byte. byte == 10) text)

-- ---- words

-- what stands between separators, where something is left
abbrev pub pieces_left : (separator : ℕ) → Option (List ℕ) → List (List ℕ)
pieces_left separator (Some rest) = slice_split (λ byte. byte == separator) rest
pieces_left separator None = []

-- the words, where there are as many
abbrev pub one_of : List (List ℕ) → Option (List ℕ)
one_of (a ∷ []) = Some a
one_of words = None

abbrev pub two_of : List (List ℕ) → Option (List ℕ × List ℕ)
two_of (a ∷ b ∷ []) = Some (a, b)
two_of words = None

abbrev pub three_of : List (List ℕ) → Option (List ℕ × List ℕ × List ℕ)
three_of (a ∷ b ∷ c ∷ []) = Some (a, b, c)
three_of words = None

abbrev pub four_of : List (List ℕ) → Option (List ℕ × List ℕ × List ℕ × List ℕ)
four_of (a ∷ b ∷ c ∷ d ∷ []) = Some (a, b, c, d)
four_of words = None

-- five, of which the first stands alone
abbrev pub five_of : List (List ℕ) → Option (List ℕ × (List ℕ × List ℕ × List ℕ × List ℕ))
five_of (a ∷ b ∷ c ∷ d ∷ e ∷ []) = Some (a, (b, c, d, e))
five_of words = None

-- ---- numbers

-- decimal digits without a sign and without a leading zero
abbrev pub is_decimal : List ℕ → Bool
is_decimal word = list_all is_ascii_digit word && (nat_lt 0 (length word) && ((length word == 1) || not (slice_index word 0 == 48)))

-- the number that a word writes, where it is in the range
unfoldable pub decimal_between : (low high : ℕ) → List ℕ → Option ℕ
decimal_between low high word = if is_decimal word then within (digits_value 10 word) else None
  where
    within : ℕ → Option ℕ
    within n = if nat_le low n && nat_le n high then Some n else None
