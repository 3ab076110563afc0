-- What a reader's calls go over, and what they refuse.
use Rattle.std.specs.Prelude.{◌≡◌, ℕ, ◌+◌, ◌%◌, ◌<◌, List, [], ◌∷◌, ◌++◌, ◌⊎◌, length, slice_index}
use Rattle.field_grammar.specs.Cursor.{Cursor, cursor_at, advanced}
use Rattle.field_grammar.specs.Fields.{number_in}
use Rattle.field_grammar.specs.Grammar.{HasNoZero}
use Rattle.field_grammar.specs.declared.fault.FieldFault.{FieldFault}
use Rattle.field_grammar.specs.declared.fault.FieldFault.TheVariants.{Short, BadPad}

-- these bytes stand at the old position, and the new one is after them
abbrev pub Passes : List ℕ → Cursor → Cursor → Type 0
Passes passed old new = (old.rest ≡ passed ++ new.rest) × (new.before ≡ old.before ++ passed)

-- the same of two positions in bytes
abbrev pub PassesAt : List ℕ → ℕ → ℕ → List ℕ → Type 0
PassesAt bytes offset end passed = Passes passed (cursor_at bytes offset) (cursor_at bytes end)

-- N bytes don't fit there, and the fault has the offset where they should begin
abbrev pub IsShort : ℕ → Cursor → FieldFault → Type 0
IsShort n c fault = (length c.rest < n) × (fault ≡ Short (length c.before))

-- a text of N bytes is odd, and the byte that stands there in place of its pad isn't zero
abbrev pub IsBadPad : ℕ → Cursor → FieldFault → Type 0
IsBadPad n c fault = (n % 2 ≡ 1) × (0 < slice_index c.rest 0) × (fault ≡ BadPad (length c.before))

-- the pad of a text of N bytes doesn't fit there, or isn't zero
abbrev pub IsPadFault : ℕ → Cursor → FieldFault → Type 0
IsPadFault n c fault = IsShort (n % 2) c fault ⊎ IsBadPad n c fault

-- how many bytes a short text takes whose length stands first
unfoldable pub short_size : List ℕ → ℕ
short_size bytes = 1 + number_in 1 bytes

-- how many bytes a padded text takes whose length stands first
unfoldable pub padded_size : List ℕ → ℕ
padded_size bytes = 2 + number_in 2 bytes + number_in 2 bytes % 2

-- a padded text doesn't fit there, or the byte in place of its pad isn't zero
abbrev pub IsPaddedFault : Cursor → FieldFault → Type 0
IsPaddedFault c fault =
    let n = number_in 2 c.rest in
    IsShort (padded_size c.rest) c fault ⊎ IsBadPad n (advanced (2 + n) c) fault

-- a text, and the zero that ends it
abbrev pub zero_ended_text : List ℕ → List ℕ
zero_ended_text text = text ++ 0 ∷ []

-- no zero is left there to end a text
abbrev pub IsUnended : Cursor → FieldFault → Type 0
IsUnended c fault = HasNoZero c.rest × (fault ≡ Short (length c.before))
