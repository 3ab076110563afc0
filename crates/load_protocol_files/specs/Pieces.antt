-- The pieces that all protocol files are made of (docs/FORMATS.md).
use Rattle.std.specs.List.{flat_map}
use Rattle.std.specs.Prelude.{ℕ, ◌+◌, ◌-◌, ◌*◌, ◌/◌, ◌%◌, List, [], ◌∷◌, ◌++◌, length, slice_index, Bool, nat_le, ◌&&◌, Result}
use Rattle.field_grammar.specs.Grammar.{Grammar, give, check, prefix, renamed, times, ◌>>=◌, ◌>>◌}
use Rattle.field_grammar.specs.Fields.{number, raw, judged_short, number_fields}
use Rattle.load_base.specs.Verdicts.{verdict, name_fault_of, text_fault_of}
use Rattle.part_number.specs.Verdicts.{part_fault_of}
use Rattle.load_protocol_files.specs.declared.fault.FileFault.{FileFault}
use Rattle.load_protocol_files.specs.declared.fault.FileFault.TheVariants as faults
use Rattle.load_protocol_files.specs.Faults.{named}

-- a number in two bytes
abbrev pub u16 : Grammar FileFault ℕ
u16 = renamed named (number 2)

-- ---- texts

abbrev pub text_verdict : ℕ → List ℕ → Result (List ℕ) FileFault
text_verdict offset bytes = verdict (faults.Text offset) (text_fault_of bytes) bytes

abbrev pub name_verdict : ℕ → List ℕ → Result (List ℕ) FileFault
name_verdict offset bytes = verdict (faults.Name offset) (name_fault_of bytes) bytes

abbrev pub part_verdict : ℕ → List ℕ → Result (List ℕ) FileFault
part_verdict offset bytes = verdict (faults.Part offset) (part_fault_of bytes) bytes

-- a short text
unfoldable pub text : Grammar FileFault (List ℕ)
text = judged_short named text_verdict

-- a short text that is a file name
unfoldable pub name : Grammar FileFault (List ℕ)
name = judged_short named name_verdict

-- a short text that is a part number
unfoldable pub part : Grammar FileFault (List ℕ)
part = judged_short named part_verdict

-- ---- ratios

abbrev pub is_digit : ℕ → Bool
is_digit b = nat_le 48 b && nat_le b 57

-- what three digits say
abbrev pub ratio_value : List ℕ → ℕ
ratio_value b = 100 * (slice_index b 0 - 48) + 10 * (slice_index b 1 - 48) + (slice_index b 2 - 48)

-- three digits that say 100 at most
abbrev pub is_ratio : List ℕ → Bool
is_ratio b = is_digit (slice_index b 0) && is_digit (slice_index b 1) && is_digit (slice_index b 2) && nat_le (ratio_value b) 100

-- a ratio, as three digits
unfoldable pub ratio : Grammar FileFault ℕ
ratio = do
  before ← prefix
  bytes ← renamed named (raw 3)
  check (is_ratio bytes) (faults.Digits (length before))
  give (ratio_value bytes)

-- ---- lists

-- a count of N, and N members
abbrev pub counted : {A : Type 0} → Grammar FileFault A → Grammar FileFault (List A)
counted item = do
  count ← u16
  times count item

-- ---- pieces as they are written

abbrev pub u16_fields : ℕ → List (List ℕ)
u16_fields n = number_fields 2 n

-- the three digits of a ratio
unfoldable pub ratio_digits : ℕ → List ℕ
ratio_digits n = (48 + n / 100) ∷ (48 + n / 10 % 10) ∷ (48 + n % 10) ∷ []

abbrev pub ratio_fields : ℕ → List (List ℕ)
ratio_fields n = ratio_digits n ∷ []

-- a count, and the members back to back
unfoldable pub counted_fields : {A : Type 0} → (A → List (List ℕ)) → List A → List (List ℕ)
counted_fields fields items = u16_fields (length items) ++ flat_map fields items
