-- What is wrong with a part number, as a function of its bytes (docs/FORMATS.md, "Part numbers").
use Rattle.std.specs.Prelude.{ℕ, ◌+◌, ◌-◌, ◌*◌, List, length, slice_index, ◌==◌, nat_lt, if◌then◌else◌, Option, Some, None}
use Rattle.load_base.specs.Verdicts.{first_bad}
use Rattle.part_number.specs.PartNumber.{is_good_at, is_hyphen_offset, check_of, maker_of, product_of}
use Rattle.part_number.specs.declared.PartFault.{PartFault}
use Rattle.part_number.specs.declared.PartFault.TheVariants.{Length, Hyphen, Character, Check}

-- the value of an upper-case hexadecimal digit
abbrev pub digit_value : ℕ → ℕ
digit_value digit = if nat_lt digit 65 then digit - 48 else digit - 55

-- the value of the check digits that stand in a part number
abbrev pub written_check : List ℕ → ℕ
written_check text = 16 * digit_value (slice_index text 3) + digit_value (slice_index text 4)

-- what its check digits have to be
abbrev pub computed_check : List ℕ → ℕ
computed_check text = check_of (maker_of text) (product_of text)

-- a wrong character, at a hyphen's offset or elsewhere
abbrev pub misplaced : ℕ → PartFault
misplaced offset = if is_hyphen_offset offset then Hyphen offset else Character offset

-- wrong check digits, where each character is good
abbrev pub character_or_check : List ℕ → Option ℕ → Option PartFault
character_or_check text None = if written_check text == computed_check text then None else Some (Check (written_check text) (computed_check text))
character_or_check text (Some offset) = Some (misplaced offset)

-- what is wrong with a part number: its length, then its characters, then its check digits
unfoldable pub part_fault_of : List ℕ → Option PartFault
part_fault_of text = if length text == 15 then character_or_check text (first_bad is_good_at text) else Some (Length (length text))
