-- How a header's faults are printed (docs/FORMATS.md).
use Rattle.std.specs.Prelude.{ℕ, List, [], ◌∷◌, codes}
use Rattle.printed_text.specs.FaultTexts.{coded, nested, name_fault_text, text_fault_text}
use Rattle.part_number.specs.FaultText.{part_fault_text}
use Rattle.load_header.specs.declared.fault.HeaderFault.{HeaderFault}
use Rattle.load_header.specs.declared.fault.HeaderFault.TheVariants.{Short, Length, Version, Pointer, Pad, Part, CheckValuePresent, Distance, Sizes, HeaderCrc, TooLong, Name, Text, TooMany, Rest, Memory}

-- the code H1 to H15 with its fields; out of memory has none
abbrev pub header_fault_text : HeaderFault → List ℕ
header_fault_text (Short offset) = coded (codes "H1") (offset ∷ [])
header_fault_text (Length said found) = coded (codes "H2") (said ∷ found ∷ [])
header_fault_text (Version found) = coded (codes "H3") (found ∷ [])
header_fault_text (Pointer which said expected) = coded (codes "H4") (which ∷ said ∷ expected ∷ [])
header_fault_text (Pad offset) = coded (codes "H5") (offset ∷ [])
header_fault_text (Part fault) = nested (coded (codes "H6") []) (part_fault_text fault)
header_fault_text CheckValuePresent = coded (codes "H7") []
header_fault_text (Distance file) = coded (codes "H8") (file ∷ [])
header_fault_text (Sizes file) = coded (codes "H9") (file ∷ [])
header_fault_text (HeaderCrc said found) = coded (codes "H10") (said ∷ found ∷ [])
header_fault_text TooLong = coded (codes "H11") []
header_fault_text (Name offset fault) = nested (coded (codes "H12") (offset ∷ [])) (name_fault_text fault)
header_fault_text (Text offset fault) = nested (coded (codes "H13") (offset ∷ [])) (text_fault_text fault)
header_fault_text (TooMany found) = coded (codes "H14") (found ∷ [])
header_fault_text (Rest offset) = coded (codes "H15") (offset ∷ [])
header_fault_text Memory = []
