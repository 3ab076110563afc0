-- How the faults of a part number are printed (docs/FORMATS.md, "Printed text").
use Rattle.std.specs.Prelude.{ℕ, List, [], ◌∷◌, codes}
use Rattle.printed_text.specs.FaultTexts.{coded}
use Rattle.part_number.specs.declared.PartFault.{PartFault}
use Rattle.part_number.specs.declared.PartFault.TheVariants.{Length, Hyphen, Character, Check}

-- a fault of a part number
abbrev pub part_fault_text : PartFault → List ℕ
part_fault_text (Length found) = coded (codes "P1") (found ∷ [])
part_fault_text (Hyphen offset) = coded (codes "P2") (offset ∷ [])
part_fault_text (Character offset) = coded (codes "P3") (offset ∷ [])
part_fault_text (Check written computed) = coded (codes "P4") (written ∷ computed ∷ [])
