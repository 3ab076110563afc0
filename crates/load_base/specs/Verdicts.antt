-- What is wrong with a text, as a function of its bytes (docs/FORMATS.md, "Short texts").
use Rattle.std.specs.Prelude.{◌≡◌, ◌↔◌, ℕ, suc, ◌<◌, List, [], ◌∷◌, length, slice_index, ◌==◌, nat_lt, Bool, ◌||◌, if◌then◌else◌, Option, Some, None, option_map, Result, Ok, Err}
use Rattle.load_base.specs.Ident.{is_ident_byte}
use Rattle.load_base.specs.Name.{is_name_byte}
use Rattle.load_base.specs.PartText.{is_graphic}
use Rattle.load_base.specs.Text.{is_printable}
use Rattle.load_base.specs.declared.ident.IdentFault.{IdentFault}
use Rattle.load_base.specs.declared.ident.IdentFault.TheVariants as idents
use Rattle.load_base.specs.declared.name.NameFault.{NameFault}
use Rattle.load_base.specs.declared.name.NameFault.TheVariants as names
use Rattle.load_base.specs.declared.part_text.PartTextFault.{PartTextFault}
use Rattle.load_base.specs.declared.part_text.PartTextFault.TheVariants as parts
use Rattle.load_base.specs.declared.text.TextFault.{TextFault}
use Rattle.load_base.specs.declared.text.TextFault.TheVariants as texts

-- the offset of the first byte that isn't good there
abbrev pub first_bad : (ℕ → ℕ → Bool) → List ℕ → Option ℕ
first_bad good [] = None
first_bad good (byte ∷ bytes) = if good 0 byte then option_map suc (first_bad (λ offset. good (suc offset)) bytes) else Some 0

-- what is wrong with the name of a file
unfoldable pub name_fault_of : List ℕ → Option NameFault
name_fault_of bytes =
    if length bytes == 0 then Some names.Empty
    else if nat_lt 64 (length bytes) then Some names.TooLong
    else if slice_index bytes 0 == 0x2E then Some (names.BadByte 0)
    else option_map names.BadByte (first_bad (λ _ byte. is_name_byte byte) bytes)

-- what is wrong with a text that people read
unfoldable pub text_fault_of : List ℕ → Option TextFault
text_fault_of bytes =
    if nat_lt 255 (length bytes) then Some (texts.TooLong (length bytes))
    else option_map texts.BadByte (first_bad (λ _ byte. is_printable byte) bytes)

-- what is wrong with the name of a target
unfoldable pub ident_fault_of : List ℕ → Option IdentFault
ident_fault_of bytes =
    if (length bytes == 0) || nat_lt 20 (length bytes) then Some (idents.Length (length bytes))
    else option_map idents.BadByte (first_bad (λ _ byte. is_ident_byte byte) bytes)

-- what is wrong with a part number as text
unfoldable pub part_text_fault_of : List ℕ → Option PartTextFault
part_text_fault_of bytes =
    if length bytes == 15 then option_map parts.BadByte (first_bad (λ _ byte. is_graphic byte) bytes)
    else Some (parts.Length (length bytes))

-- the bytes, where nothing is wrong with them, and else what is wrong, by the name that a format has for it
abbrev pub verdict : {E F : Type 0} → (E → F) → Option E → List ℕ → Result (List ℕ) F
verdict wrong None bytes = Ok bytes
verdict wrong (Some fault) bytes = Err (wrong fault)

-- the same without another name
abbrev pub judged : {E : Type 0} → (List ℕ → Option E) → List ℕ → Result (List ℕ) E
judged fault_of bytes = verdict (λ fault. fault) (fault_of bytes) bytes

-- the function tells what is wrong: nothing with bytes that are such a text, and else their fault
pub record TellsFaults {E : Type 0} (fault_of : List ℕ → Option E) (IsRight : List ℕ → Type 0) (IsFault : List ℕ → E → Type 0) : Type 0 where
  pub right : (bytes : List ℕ) → IsRight bytes ↔ (fault_of bytes ≡ None)
  pub wrong : (bytes : List ℕ) (fault : E) → IsFault bytes fault ↔ (fault_of bytes ≡ Some fault)
  pub small : (bytes : List ℕ) → IsRight bytes → (offset : ℕ) → slice_index bytes offset < 256
