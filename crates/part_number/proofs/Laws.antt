-- The laws that `part_number_laws` states.
use Rattle.std.proofs.Common.{◌≡◌, refl}
use Rattle.std.specs.Prelude.{codes}
use Rattle.part_number.specs.PartNumber.{part_number_text, check_of, hexadecimal, hexadecimal_digit}
use Rattle.part_number.proofs.Faults.{no_fault, one_fault}
use Rattle.part_number.proofs.Texts.{maker_of_part, part_of_itself, part_text_of_part}
use Rattle.part_number.proofs.VerdictLemmas.{part_faults, part_size}

-- the text of a known part number, computed from the definition
pub text_known : part_number_text (codes "XYZ") (codes "00000001") ≡ codes "XYZ5A-0000-0001"
unfolding part_number_text check_of hexadecimal hexadecimal_digit
text_known = refl

pub ruleset laws = (maker_of_part, part_of_itself, part_text_of_part, no_fault, one_fault, part_faults, part_size, text_known)
