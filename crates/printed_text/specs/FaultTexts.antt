-- How faults are printed: the code, and each field in decimal after one space; a nested fault stands where its field
-- would, printed in the same way (docs/FORMATS.md, "Printed text").
use Rattle.std.specs.Prelude.{ℕ, ◌+◌, ◌*◌, List, [], ◌∷◌, ◌++◌, length, codes}
use Rattle.std.specs.Fmt.{decimal}
use Rattle.std.specs.List.{flat_map}
use Rattle.load_base.specs.declared.ident.IdentFault.{IdentFault}
use Rattle.load_base.specs.declared.ident.IdentFault.TheVariants as idents
use Rattle.load_base.specs.declared.name.NameFault.{NameFault}
use Rattle.load_base.specs.declared.name.NameFault.TheVariants as names
use Rattle.load_base.specs.declared.text.TextFault.{TextFault}
use Rattle.load_base.specs.declared.text.TextFault.TheVariants as texts

-- a number after a space
unfoldable pub number_text : ℕ → List ℕ
number_text number = codes " " ++ decimal number

-- a code and numbers
unfoldable pub coded : List ℕ → List ℕ → List ℕ
coded code numbers = code ++ flat_map number_text numbers

-- the most bytes that these have: a number has at most 20 digits
abbrev pub longest_coded : List ℕ → List ℕ → ℕ
longest_coded code numbers = length code + 21 * length numbers

-- a fault in another, after what stands before it
unfoldable pub nested : List ℕ → List ℕ → List ℕ
nested outer inner = outer ++ codes " " ++ inner

-- a fault of a file's name
abbrev pub name_fault_text : NameFault → List ℕ
name_fault_text names.Empty = coded (codes "N1") []
name_fault_text names.TooLong = coded (codes "N2") []
name_fault_text (names.BadByte offset) = coded (codes "N3") (offset ∷ [])

-- a fault of a text; Memory is none
abbrev pub text_fault_text : TextFault → List ℕ
text_fault_text (texts.TooLong found) = coded (codes "X1") (found ∷ [])
text_fault_text (texts.BadByte offset) = coded (codes "X2") (offset ∷ [])
text_fault_text texts.Memory = []

-- a fault of a target's name
abbrev pub ident_fault_text : IdentFault → List ℕ
ident_fault_text (idents.Length found) = coded (codes "I1") (found ∷ [])
ident_fault_text (idents.BadByte offset) = coded (codes "I2") (offset ∷ [])
