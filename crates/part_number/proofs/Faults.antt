-- Bytes have one first fault, or are a part number.
use Rattle.std.proofs.Common.{◌≡◌, ℕ, List, length, Some, None, refl}
use Rattle.part_number.specs.declared.PartFault.{PartFault}
use Rattle.part_number.specs.declared.PartFault.TheVariants.{Length, Hyphen, Character, Check}
use Rattle.part_number.specs.Verdicts.{part_fault_of}
use Rattle.part_number.proofs.VerdictLemmas.{part_faults}
use Rattle.part_number.specs.PartNumber.{IsPartNumber, IsPartFault, IsFirstBadOffset, part_number_text}
use Rattle.part_number.proofs.Reading.{part_from_text}
use Rattle.part_number.proofs.Texts.{part_of_itself, hyphen_is_good, length-part_number_text}

-- a part number has no fault
pub no_fault : (text maker product : List ℕ) (fault : PartFault) → IsPartNumber text maker product → ¬ IsPartFault text fault
no_fault text maker product fault is wrong =
    let none : part_fault_of text ≡ None = (part_faults.right text).0 (part_of_itself text maker product is) in
    let some : part_fault_of text ≡ Some fault = (part_faults.wrong text fault).0 wrong in absurd cc

-- and bytes have one first fault at most
pub one_fault : (text : List ℕ) (f g : PartFault) → IsPartFault text f → IsPartFault text g → f ≡ g
one_fault text f g one other =
    let first : part_fault_of text ≡ Some f = (part_faults.wrong text f).0 one in
    let second : part_fault_of text ≡ Some g = (part_faults.wrong text g).0 other in cc

-- the only fault of a text that the definition gives is a character
pub fault_of_text : (maker product : List ℕ) (fault : PartFault) → length maker ≡ 3 → length product ≡ 8
    → IsPartFault (part_number_text maker product) fault
    → (offset : ℕ) × (fault ≡ Character offset) × IsFirstBadOffset (part_number_text maker product) offset
fault_of_text maker product (Length found) maker_size product_size is = absurd (is.1 (length-part_number_text maker product maker_size product_size))
fault_of_text maker product (Hyphen offset) maker_size product_size is =
    let good = hyphen_is_good maker product maker_size product_size offset is.2 in absurd (cc (good, is.1.bad))
fault_of_text maker product (Character offset) maker_size product_size is = (offset, refl, is.1)
fault_of_text maker product (Check written computed) maker_size product_size is =
    absurd (no_fault (part_number_text maker product) maker product (Check written computed) (part_from_text maker product maker_size product_size is.offsets) is)
