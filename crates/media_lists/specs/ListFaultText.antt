-- How a media list's faults are printed (docs/FORMATS.md).
use Rattle.std.specs.Prelude.{ℕ, List, [], ◌∷◌, codes}
use Rattle.printed_text.specs.FaultTexts.{coded, nested, name_fault_text, text_fault_text}
use Rattle.part_number.specs.FaultText.{part_fault_text}
use Rattle.media_lists.specs.declared.fault.PathFault.{PathFault}
use Rattle.media_lists.specs.declared.fault.PathFault.TheVariants.{Path}
use Rattle.media_lists.specs.declared.fault.WordFault.{WordFault}
use Rattle.media_lists.specs.declared.fault.WordFault.TheVariants as words
use Rattle.media_lists.specs.declared.fault.ListFault.{ListFault}
use Rattle.media_lists.specs.declared.fault.ListFault.TheVariants.{Short, Length, Version, Spare, Pointer, Pad, Word, Distance, Member, Repeated, TooLong, Rest, Crc, Memory}

-- a fault of a path
abbrev pub path_fault_text : PathFault → List ℕ
path_fault_text (Path end) = coded (codes "Q1") (end ∷ [])

-- a fault of a name, part number, text or path
abbrev pub word_fault_text : WordFault → List ℕ
word_fault_text (words.Name fault) = name_fault_text fault
word_fault_text (words.Part fault) = part_fault_text fault
word_fault_text (words.Text fault) = text_fault_text fault
word_fault_text (words.Path fault) = path_fault_text fault

-- the code L1 to L13 with its fields; out of memory has none
abbrev pub list_fault_text : ListFault → List ℕ
list_fault_text (Short offset) = coded (codes "L1") (offset ∷ [])
list_fault_text (Length said found) = coded (codes "L2") (said ∷ found ∷ [])
list_fault_text (Version found) = coded (codes "L3") (found ∷ [])
list_fault_text (Spare found) = coded (codes "L4") (found ∷ [])
list_fault_text (Pointer which said expected) = coded (codes "L5") (which ∷ said ∷ expected ∷ [])
list_fault_text (Pad offset) = coded (codes "L6") (offset ∷ [])
list_fault_text (Word offset fault) = nested (coded (codes "L7") (offset ∷ [])) (word_fault_text fault)
list_fault_text (Distance entry) = coded (codes "L8") (entry ∷ [])
list_fault_text (Member offset) = coded (codes "L9") (offset ∷ [])
list_fault_text (Repeated entry) = coded (codes "L10") (entry ∷ [])
list_fault_text TooLong = coded (codes "L11") []
list_fault_text (Rest offset) = coded (codes "L12") (offset ∷ [])
list_fault_text (Crc said found) = coded (codes "L13") (said ∷ found ∷ [])
list_fault_text Memory = []
