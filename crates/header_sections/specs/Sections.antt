-- The pieces that load headers and the lists of a media set have in common (docs/FORMATS.md).
use Rattle.std.specs.Prelude.{ℕ, ◌*◌, ◌/◌, List, ◌==◌, Bool, if◌then◌else◌, Result}
use Rattle.field_grammar.specs.Grammar.{Grammar, give, check, renamed, times, expected, sized, measured, ended, ◌>>=◌, ◌>>◌}
use Rattle.field_grammar.specs.Fields.{raw, number, judged_padded, section}
use Rattle.field_grammar.specs.declared.fault.FieldFault.{FieldFault}
use Rattle.field_grammar.specs.declared.fault.FieldFault.TheVariants as fields
use Rattle.load_base.specs.Verdicts.{text_fault_of, name_fault_of, verdict}
use Rattle.part_number.specs.Verdicts.{part_fault_of}
use Rattle.header_sections.specs.declared.fault.SectionFault.{SectionFault}
use Rattle.header_sections.specs.declared.fault.SectionFault.TheVariants as faults

-- the refusal of a field, as that of a piece
abbrev pub named : FieldFault → SectionFault
named (fields.Short offset) = faults.Short offset
named (fields.BadPad offset) = faults.Pad offset

abbrev pub u16 : Grammar SectionFault ℕ
u16 = renamed named (number 2)

abbrev pub u32 : Grammar SectionFault ℕ
u32 = renamed named (number 4)

-- ---- texts

abbrev pub text_verdict : ℕ → List ℕ → Result (List ℕ) SectionFault
text_verdict offset bytes = verdict (faults.Text offset) (text_fault_of bytes) bytes

abbrev pub name_verdict : ℕ → List ℕ → Result (List ℕ) SectionFault
name_verdict offset bytes = verdict (faults.Name offset) (name_fault_of bytes) bytes

abbrev pub part_verdict : ℕ → List ℕ → Result (List ℕ) SectionFault
part_verdict offset bytes = verdict (faults.Part offset) (part_fault_of bytes) bytes

-- a text that people read, padded
unfoldable pub text : Grammar SectionFault (List ℕ)
text = judged_padded named text_verdict

-- a file's name, padded
unfoldable pub name : Grammar SectionFault (List ℕ)
name = judged_padded named name_verdict

-- a part number, padded
unfoldable pub part : Grammar SectionFault (List ℕ)
part = judged_padded named part_verdict

-- N texts
abbrev pub texts : ℕ → Grammar SectionFault (List (List ℕ))
texts count = times count text

-- ---- the start

-- the length in words, which is that of the whole, and the version
unfoldable pub start : ℕ → Grammar SectionFault ℕ
start version = do
  words ← sized u32 (λ words. 2 * words) faults.Length
  expected u16 version faults.Version
  give words

-- ---- sections

-- a section begins at word `said`, which is pointer `which`
unfoldable pub section_at : ℕ → ℕ → Grammar SectionFault (Unit {0})
section_at which said = section (faults.Pointer which said) said

-- the section of user data: its length in words, and the bytes
unfoldable pub user_data : ℕ → ℕ → Grammar SectionFault (List ℕ)
user_data which said = do
  section_at which said
  words ← u16
  renamed named (raw (2 * words))

-- the distance of an entry of `size` bytes: its length in words, and 0 for the last of its list
abbrev pub distance_of : Bool → ℕ → ℕ
distance_of last size = if last then 0 else size / 2

-- an entry: its distance, and its fields
abbrev pub entry : {F E : Type 0} → Grammar F ℕ → F → Grammar F E → Bool → Grammar F E
entry distance wrong body last = measured distance (distance_of last) wrong body

-- ---- the end

-- nothing follows, and the check sum that was read is the one that was computed; the two are compared last
unfoldable pub end : ℕ → ℕ → Grammar SectionFault (Unit {0})
end said found = do
  ended faults.Rest
  check (said == found) (faults.Sum said found)
