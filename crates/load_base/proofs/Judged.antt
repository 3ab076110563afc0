-- What a text or its fault is judged to be.
use Rattle.std.proofs.Common.{◌≡◌, ◌≢◌, ℕ, ◌<◌, ◌≤◌, List, length, slice_index, Ok, Err, inl, inr, refl}
use Rattle.load_base.specs.Bytes.{IsFirstBad}
use Rattle.load_base.specs.Ident.{IsIdent, IsIdentFault, is_ident_byte}
use Rattle.load_base.specs.Name.{IsName, IsNameFault, is_name_byte}
use Rattle.load_base.specs.PartText.{IsPartText, IsPartTextFault, is_graphic}
use Rattle.load_base.specs.Text.{IsText, IsTextFault, is_printable}
use Rattle.load_base.specs.Verdicts.{judged, name_fault_of, text_fault_of, ident_fault_of, part_text_fault_of}
use Rattle.load_base.proofs.VerdictLemmas.{name_faults, text_faults, ident_faults, part_text_faults}
use Rattle.load_base.specs.declared.ident.IdentFault.{IdentFault}
use Rattle.load_base.specs.declared.ident.IdentFault.TheVariants as idents
use Rattle.load_base.specs.declared.name.NameFault.{NameFault}
use Rattle.load_base.specs.declared.name.NameFault.TheVariants as names
use Rattle.load_base.specs.declared.part_text.PartTextFault.{PartTextFault}
use Rattle.load_base.specs.declared.part_text.PartTextFault.TheVariants as parts
use Rattle.load_base.specs.declared.text.TextFault.{TextFault}
use Rattle.load_base.specs.declared.text.TextFault.TheVariants as texts

-- ---- names of files

pub name_is_read : (bytes : List ℕ) → IsName bytes → Ok bytes ≡ judged name_fault_of bytes
name_is_read bytes is = rw ((name_faults.right bytes).0 is) refl

name_is_refused : (bytes : List ℕ) (fault : NameFault) → IsNameFault bytes fault → Err fault ≡ judged name_fault_of bytes
name_is_refused bytes fault is = rw ((name_faults.wrong bytes fault).0 is) refl

pub name_is_empty : (bytes : List ℕ) → length bytes ≡ 0 → Err names.Empty ≡ judged name_fault_of bytes
name_is_empty bytes empty = name_is_refused bytes names.Empty empty

pub name_is_long : (bytes : List ℕ) → 64 < length bytes → Err names.TooLong ≡ judged name_fault_of bytes
name_is_long bytes long = name_is_refused bytes names.TooLong long

pub name_is_hidden : (bytes : List ℕ) → 1 ≤ length bytes → length bytes ≤ 64 → slice_index bytes 0 ≡ 0x2E → Err (names.BadByte 0) ≡ judged name_fault_of bytes
name_is_hidden bytes some few hidden = name_is_refused bytes (names.BadByte 0) ((some, few), inl (hidden, refl))

pub name_is_bad : (bytes : List ℕ) (offset : ℕ) → 1 ≤ length bytes → length bytes ≤ 64 → slice_index bytes 0 ≢ 0x2E → IsFirstBad is_name_byte bytes offset
    → Err (names.BadByte offset) ≡ judged name_fault_of bytes
name_is_bad bytes offset some few visible bad = name_is_refused bytes (names.BadByte offset) ((some, few), inr (visible, bad))

pub ruleset name_judgements = (name_is_read, name_is_empty, name_is_long, name_is_hidden, name_is_bad)

-- ---- texts that people read

pub text_is_read : (bytes : List ℕ) → IsText bytes → Ok bytes ≡ judged text_fault_of bytes
text_is_read bytes is = rw ((text_faults.right bytes).0 is) refl

text_is_refused : (bytes : List ℕ) (fault : TextFault) → fault ≢ texts.Memory → IsTextFault bytes fault → Err fault ≡ judged text_fault_of bytes
text_is_refused bytes fault other is = rw ((text_faults.wrong bytes fault).0 (other, is)) refl

pub text_is_long : (bytes : List ℕ) → 255 < length bytes → Err (texts.TooLong (length bytes)) ≡ judged text_fault_of bytes
text_is_long bytes long = text_is_refused bytes (texts.TooLong (length bytes)) (λ e. cc) (refl, long)

pub text_is_bad : (bytes : List ℕ) (offset : ℕ) → length bytes ≤ 255 → IsFirstBad is_printable bytes offset → Err (texts.BadByte offset) ≡ judged text_fault_of bytes
text_is_bad bytes offset few bad = text_is_refused bytes (texts.BadByte offset) (λ e. cc) (few, bad)

pub ruleset text_judgements = (text_is_read, text_is_long, text_is_bad)

-- ---- names of targets

pub ident_is_read : (bytes : List ℕ) → IsIdent bytes → Ok bytes ≡ judged ident_fault_of bytes
ident_is_read bytes is = rw ((ident_faults.right bytes).0 is) refl

ident_is_refused : (bytes : List ℕ) (fault : IdentFault) → IsIdentFault bytes fault → Err fault ≡ judged ident_fault_of bytes
ident_is_refused bytes fault is = rw ((ident_faults.wrong bytes fault).0 is) refl

pub ident_is_empty : (bytes : List ℕ) → length bytes ≡ 0 → Err (idents.Length (length bytes)) ≡ judged ident_fault_of bytes
ident_is_empty bytes empty = ident_is_refused bytes (idents.Length (length bytes)) (refl, inl empty)

pub ident_is_long : (bytes : List ℕ) → 20 < length bytes → Err (idents.Length (length bytes)) ≡ judged ident_fault_of bytes
ident_is_long bytes long = ident_is_refused bytes (idents.Length (length bytes)) (refl, inr long)

pub ident_is_bad : (bytes : List ℕ) (offset : ℕ) → 1 ≤ length bytes → length bytes ≤ 20 → IsFirstBad is_ident_byte bytes offset
    → Err (idents.BadByte offset) ≡ judged ident_fault_of bytes
ident_is_bad bytes offset some few bad = ident_is_refused bytes (idents.BadByte offset) ((some, few), bad)

pub ruleset ident_judgements = (ident_is_read, ident_is_empty, ident_is_long, ident_is_bad)

-- ---- part numbers as text

pub part_text_is_read : (bytes : List ℕ) → IsPartText bytes → Ok bytes ≡ judged part_text_fault_of bytes
part_text_is_read bytes is = rw ((part_text_faults.right bytes).0 is) refl

part_text_is_refused : (bytes : List ℕ) (fault : PartTextFault) → IsPartTextFault bytes fault → Err fault ≡ judged part_text_fault_of bytes
part_text_is_refused bytes fault is = rw ((part_text_faults.wrong bytes fault).0 is) refl

pub part_text_has_another_length : (bytes : List ℕ) → length bytes ≢ 15 → Err (parts.Length (length bytes)) ≡ judged part_text_fault_of bytes
part_text_has_another_length bytes other = part_text_is_refused bytes (parts.Length (length bytes)) (refl, other)

pub part_text_is_bad : (bytes : List ℕ) (offset : ℕ) → length bytes ≡ 15 → IsFirstBad is_graphic bytes offset → Err (parts.BadByte offset) ≡ judged part_text_fault_of bytes
part_text_is_bad bytes offset size bad = part_text_is_refused bytes (parts.BadByte offset) (size, bad)

pub ruleset part_text_judgements = (part_text_is_read, part_text_has_another_length, part_text_is_bad)
