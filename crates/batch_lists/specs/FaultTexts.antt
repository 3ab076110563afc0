-- How the faults of a list of batches and of a batch are printed (docs/FORMATS.md).
use Rattle.std.specs.Prelude.{ℕ, List, [], ◌∷◌, codes}
use Rattle.printed_text.specs.FaultTexts.{coded, nested, name_fault_text, ident_fault_text}
use Rattle.part_number.specs.FaultText.{part_fault_text}
use Rattle.batch_lists.specs.declared.fault.BatchFault.{BatchFault}
use Rattle.batch_lists.specs.declared.fault.BatchFault.TheVariants as faults
use Rattle.batch_lists.specs.declared.fault.BatchWordFault.{BatchWordFault}
use Rattle.batch_lists.specs.declared.fault.BatchWordFault.TheVariants as words
use Rattle.batch_lists.specs.declared.fault.BatchesFault.{BatchesFault}
use Rattle.batch_lists.specs.declared.fault.BatchesFault.TheVariants as batches

-- a fault of a name, part number or Ident
abbrev pub batch_word_fault_text : BatchWordFault → List ℕ
batch_word_fault_text (words.Name fault) = name_fault_text fault
batch_word_fault_text (words.Part fault) = part_fault_text fault
batch_word_fault_text (words.Ident fault) = ident_fault_text fault

-- the code L1 to L13 with its fields; out of memory has none
abbrev pub batches_fault_text : BatchesFault → List ℕ
batches_fault_text (batches.Short offset) = coded (codes "L1") (offset ∷ [])
batches_fault_text (batches.Length said found) = coded (codes "L2") (said ∷ found ∷ [])
batches_fault_text (batches.Version found) = coded (codes "L3") (found ∷ [])
batches_fault_text (batches.Spare found) = coded (codes "L4") (found ∷ [])
batches_fault_text (batches.Pointer which said expected) = coded (codes "L5") (which ∷ said ∷ expected ∷ [])
batches_fault_text (batches.Pad offset) = coded (codes "L6") (offset ∷ [])
batches_fault_text (batches.Word offset fault) = nested (coded (codes "L7") (offset ∷ [])) (batch_word_fault_text fault)
batches_fault_text (batches.Distance entry) = coded (codes "L8") (entry ∷ [])
batches_fault_text (batches.Member offset) = coded (codes "L9") (offset ∷ [])
batches_fault_text (batches.Repeated entry) = coded (codes "L10") (entry ∷ [])
batches_fault_text batches.TooLong = coded (codes "L11") []
batches_fault_text (batches.Rest offset) = coded (codes "L12") (offset ∷ [])
batches_fault_text (batches.Crc said found) = coded (codes "L13") (said ∷ found ∷ [])
batches_fault_text batches.Memory = []

-- the code J1 to J10 with its fields; out of memory has none
abbrev pub batch_fault_text : BatchFault → List ℕ
batch_fault_text (faults.Short offset) = coded (codes "J1") (offset ∷ [])
batch_fault_text (faults.Length said found) = coded (codes "J2") (said ∷ found ∷ [])
batch_fault_text (faults.Version found) = coded (codes "J3") (found ∷ [])
batch_fault_text (faults.Spare found) = coded (codes "J4") (found ∷ [])
batch_fault_text (faults.Pad offset) = coded (codes "J5") (offset ∷ [])
batch_fault_text (faults.Word offset fault) = nested (coded (codes "J6") (offset ∷ [])) (batch_word_fault_text fault)
batch_fault_text (faults.Count offset) = coded (codes "J7") (offset ∷ [])
batch_fault_text (faults.Rest offset) = coded (codes "J8") (offset ∷ [])
batch_fault_text (faults.Crc said found) = coded (codes "J9") (said ∷ found ∷ [])
batch_fault_text faults.TooLong = coded (codes "J10") []
batch_fault_text faults.Memory = []
