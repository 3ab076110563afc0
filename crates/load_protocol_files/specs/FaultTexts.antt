-- How the faults of protocol files are printed: their code, their fields in decimal, and a fault of a
-- text after its offset (docs/FORMATS.md).
use Rattle.std.specs.Prelude.{ℕ, List, [], ◌∷◌, codes}
use Rattle.printed_text.specs.FaultTexts.{coded, nested, name_fault_text, text_fault_text}
use Rattle.part_number.specs.FaultText.{part_fault_text}
use Rattle.load_protocol_files.specs.declared.fault.FileFault.{FileFault}
use Rattle.load_protocol_files.specs.declared.fault.FileFault.TheVariants as faults

-- Memory has no text
abbrev pub file_fault_text : FileFault → List ℕ
file_fault_text (faults.Short offset) = coded (codes "U1") (offset ∷ [])
file_fault_text (faults.Length said found) = coded (codes "U2") (said ∷ found ∷ [])
file_fault_text (faults.Version found) = coded (codes "U3") (found ∷ [])
file_fault_text (faults.Digits offset) = coded (codes "U4") (offset ∷ [])
file_fault_text (faults.Rest offset) = coded (codes "U5") (offset ∷ [])
file_fault_text (faults.Name offset fault) = nested (coded (codes "U6") (offset ∷ [])) (name_fault_text fault)
file_fault_text (faults.Part offset fault) = nested (coded (codes "U7") (offset ∷ [])) (part_fault_text fault)
file_fault_text (faults.Text offset fault) = nested (coded (codes "U8") (offset ∷ [])) (text_fault_text fault)
file_fault_text faults.Memory = []
