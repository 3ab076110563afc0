-- A name, an Ident and a part number are texts that people read.
use Rattle.std.specs.Prelude.{◌≡◌, ℕ, List, slice_index, true}
use Rattle.std.proofs.Common.{arith}
use Rattle.std.proofs.lemmas.Bool.Decides.{nat_tests}
use Rattle.load_base.specs.Ident.{IsIdent, is_ident_byte}
use Rattle.load_base.specs.Name.{IsName, is_name_byte}
use Rattle.load_base.specs.PartText.{IsPartText, is_graphic}
use Rattle.load_base.specs.Text.{IsText, is_printable}

name_byte_prints : (b : ℕ) → is_name_byte b ≡ true → is_printable b ≡ true
name_byte_prints b good = grind (arith, nat_tests)

pub name_is_text : (bytes : List ℕ) → IsName bytes → IsText bytes
name_is_text bytes is = record { size = omega (arith, is.size.1); good = λ k within. name_byte_prints (slice_index bytes k) (is.good k within) }

ident_byte_prints : (b : ℕ) → is_ident_byte b ≡ true → is_printable b ≡ true
ident_byte_prints b good = grind (arith, nat_tests)

pub ident_is_text : (bytes : List ℕ) → IsIdent bytes → IsText bytes
ident_is_text bytes is = record { size = omega (arith, is.size.1); good = λ k within. ident_byte_prints (slice_index bytes k) (is.good k within) }

graphic_prints : (b : ℕ) → is_graphic b ≡ true → is_printable b ≡ true
graphic_prints b good = grind (arith, nat_tests)

pub part_text_is_text : (bytes : List ℕ) → IsPartText bytes → IsText bytes
part_text_is_text bytes is = record { size = omega (arith, is.size); good = λ k within. graphic_prints (slice_index bytes k) (is.good k within) }
