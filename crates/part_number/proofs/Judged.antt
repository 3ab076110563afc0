-- What a part number or its fault is judged to be.
use Rattle.std.proofs.Common.{◌≡◌, ◌≢◌, List, ℕ, length, Ok, Err, refl}
use Rattle.load_base.specs.Verdicts.{judged}
use Rattle.part_number.specs.PartNumber.{IsPartNumberText, IsPartFault}
use Rattle.part_number.specs.Verdicts.{part_fault_of}
use Rattle.part_number.proofs.VerdictLemmas.{part_faults}
use Rattle.part_number.specs.declared.PartFault.{PartFault}
use Rattle.part_number.specs.declared.PartFault.TheVariants.{Length}

pub part_is_read : (text : List ℕ) → IsPartNumberText text → Ok text ≡ judged part_fault_of text
part_is_read text is = rw ((part_faults.right text).0 is) refl

pub part_is_refused : (text : List ℕ) (fault : PartFault) → IsPartFault text fault → Err fault ≡ judged part_fault_of text
part_is_refused text fault is = rw ((part_faults.wrong text fault).0 is) refl

pub part_is_short : (text : List ℕ) → length text ≢ 15 → Err (Length (length text)) ≡ judged part_fault_of text
part_is_short text other = part_is_refused text (Length (length text)) (refl, other)
