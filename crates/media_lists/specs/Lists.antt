-- What the two media lists share (docs/FORMATS.md).
use Rattle.std.specs.Prelude.{ℕ, List, length, nat_le, Bool, ◌&&◌, Result}
use Rattle.crc_fields.specs.CheckSums.{crc16_of}
use Rattle.field_grammar.specs.Grammar.{Grammar, give, check, prefix, left, renamed, expected, ◌>>=◌, ◌>>◌}
use Rattle.field_grammar.specs.Fields.{number, judged_padded}
use Rattle.field_grammar.specs.declared.fault.FieldFault.{FieldFault}
use Rattle.field_grammar.specs.declared.fault.FieldFault.TheVariants as fields
use Rattle.load_base.specs.Verdicts.{verdict}
use Rattle.header_sections.specs.Sections.{part, start, section_at, user_data, end}
use Rattle.header_sections.specs.declared.fault.SectionFault.{SectionFault}
use Rattle.header_sections.specs.declared.fault.SectionFault.TheVariants as sections
use Rattle.media_lists.specs.Paths.{path_fault_of}
use Rattle.media_lists.specs.declared.fault.ListFault.{ListFault}
use Rattle.media_lists.specs.declared.fault.ListFault.TheVariants as faults
use Rattle.media_lists.specs.declared.fault.WordFault.TheVariants as words
use Rattle.media_lists.specs.declared.fault.PathFault.TheVariants as paths
use Rattle.media_lists.specs.declared.reading.Pointers.{Pointers}

-- ---- fields

-- the refusal of a field, as that of a list
abbrev pub named : FieldFault → ListFault
named (fields.Short offset) = faults.Short offset
named (fields.BadPad offset) = faults.Pad offset

abbrev pub u8 : Grammar ListFault ℕ
u8 = renamed named (number 1)

abbrev pub u16 : Grammar ListFault ℕ
u16 = renamed named (number 2)

abbrev pub u32 : Grammar ListFault ℕ
u32 = renamed named (number 4)

-- the refusal of a piece that lists share with load headers, as that of a list
abbrev pub refused : SectionFault → ListFault
refused (sections.Short offset) = faults.Short offset
refused (sections.Pad offset) = faults.Pad offset
refused (sections.Length said found) = faults.Length said found
refused (sections.Version found) = faults.Version found
refused (sections.Pointer which said expected) = faults.Pointer which said expected
refused (sections.Name offset fault) = faults.Word offset (words.Name fault)
refused (sections.Part offset fault) = faults.Word offset (words.Part fault)
refused (sections.Text offset fault) = faults.Word offset (words.Text fault)
refused (sections.Rest offset) = faults.Rest offset
refused (sections.Sum said found) = faults.Crc said found
refused sections.Memory = faults.Memory

abbrev pub shared : {A : Type 0} → Grammar SectionFault A → Grammar ListFault A
shared piece = renamed refused piece

abbrev pub path_verdict : ℕ → List ℕ → Result (List ℕ) ListFault
path_verdict offset bytes = verdict (λ end. faults.Word offset (words.Path (paths.Path end))) (path_fault_of bytes) bytes

-- a path, padded
unfoldable pub path : Grammar ListFault (List ℕ)
path = judged_padded named path_verdict

-- a count of at most 1,024
unfoldable pub counted : Grammar ListFault ℕ
counted = do
  count ← u16
  check (nat_le count 1024) faults.TooLong
  give count

-- ---- the head

-- the pointers to the three sections
unfoldable pub pointers : Grammar ListFault Pointers
pointers = do
  set ← u32
  entries ← u32
  user ← u32
  give (record { set = set; entries = entries; user = user })

-- the length in words, the version, the spare word and the pointers
unfoldable pub head : ℕ → Grammar ListFault Pointers
head version = do
  _ ← shared (start version)
  expected u16 0 faults.Spare
  pointers

-- ---- members

-- the members of a set count from 1
abbrev pub is_member : ℕ → ℕ → Bool
is_member members member = nat_le 1 member && nat_le member members

-- which member of how many
unfoldable pub membership : Grammar ListFault (ℕ × ℕ)
membership = do
  before ← prefix
  member ← u8
  between ← prefix
  members ← u8
  check (nat_le 1 members) (faults.Member (length between))
  check (is_member members member) (faults.Member (length before))
  give (member, members)

-- the number of a member, of `members`
unfoldable pub member_of : ℕ → Grammar ListFault ℕ
member_of members = do
  before ← prefix
  member ← u16
  check (is_member members member) (faults.Member (length before))
  give member

-- the part number of the set, and which member of how many the list belongs to
unfoldable pub identity : ℕ → Grammar ListFault (List ℕ × ℕ × ℕ)
identity said = do
  shared (section_at 1 said)
  set ← shared part
  which ← membership
  give (set, which.0, which.1)

-- ---- the end

-- the CRC-16 of all before it, and nothing after it
unfoldable pub check_sum : Grammar ListFault (Unit {0})
check_sum = do
  before ← prefix
  said ← u16
  shared (end said (crc16_of before))

-- the user data and the check sum
unfoldable pub tail : ℕ → Grammar ListFault (List ℕ)
tail said = do
  user ← shared (user_data 3 said)
  check_sum
  give user

-- at most 1,048,576 bytes
unfoldable pub limit : Grammar ListFault (Unit {0})
limit = do
  size ← left
  check (nat_le size 1048576) faults.TooLong

-- ---- the whole

-- what a list holds, without the spare capacity of its lists
pub record ListView (E : Type 0) : Type 0 where
  pub set : List ℕ
  pub member : ℕ
  pub members : ℕ
  pub entries : List E
  pub user : List ℕ

-- a list of this version, whose section of entries depends on the number of members and on its pointer
unfoldable pub media_list : {E : Type 0} → ℕ → (ℕ → ℕ → Grammar ListFault (List E)) → Grammar ListFault (ListView E)
media_list version section_of = do
  limit
  offsets ← head version
  what ← identity offsets.set
  entries ← section_of what.2 offsets.entries
  user ← tail offsets.user
  give (record { set = what.0; member = what.1; members = what.2; entries = entries; user = user })
