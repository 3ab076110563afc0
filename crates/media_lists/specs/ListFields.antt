-- How the media lists are written, field by field (docs/FORMATS.md).
use Rattle.std.specs.Prelude.{◌≡◌, ℕ, ◌+◌, ◌/◌, ◌%◌, ◌<◌, ◌≤◌, ◌^◌, List, [], ◌∷◌, ◌++◌, length, false, ⊤}
use Rattle.std.specs.List.{concat, AllByRecursion}
use Rattle.crc_fields.specs.CheckSums.{crc16_of}
use Rattle.part_number.specs.PartNumber.{IsPartNumberText}
use Rattle.field_grammar.specs.Grammar.{IsBytes}
use Rattle.field_grammar.specs.Spelling.{spelled_length}
use Rattle.field_grammar.specs.Fields.{number_fields, padded_fields}
use Rattle.header_sections.specs.SectionFields.{user_fields, entries_fields, HaveDistances}
use Rattle.media_lists.specs.Lists.{ListView}
use Rattle.media_lists.specs.Entries.{is_listed}
use Rattle.media_lists.specs.declared.reading.Pointers.{Pointers}

-- ---- the whole

-- the length in words, the version, the spare word and the pointers of a list of `size` bytes
unfoldable pub head_fields : ℕ → ℕ → Pointers → List (List ℕ)
head_fields version size offsets =
    number_fields 4 (size / 2) ++ (number_fields 2 version ++ (number_fields 2 0 ++ (number_fields 4 offsets.set ++ (number_fields 4 offsets.entries ++ number_fields 4 offsets.user))))

-- the part number of the set, and which member of how many
unfoldable pub identity_fields : List ℕ → ℕ → ℕ → List (List ℕ)
identity_fields set member members = padded_fields set ++ (number_fields 1 member ++ number_fields 1 members)

-- the head has 20 bytes
abbrev pub entries_offset : {E : Type 0} → ListView E → ℕ
entries_offset v = 20 + spelled_length (identity_fields v.set v.member v.members)

abbrev pub user_offset : {E : Type 0} → (E → List (List ℕ)) → ListView E → ℕ
user_offset body_fields v = entries_offset v + spelled_length (entries_fields body_fields v.entries)

-- the whole, with the two bytes of the check sum
unfoldable pub list_size : {E : Type 0} → (E → List (List ℕ)) → ListView E → ℕ
list_size body_fields v = user_offset body_fields v + spelled_length (user_fields v.user) + 2

-- the pointers: half the offsets
unfoldable pub pointers_of : {E : Type 0} → (E → List (List ℕ)) → ListView E → Pointers
pointers_of body_fields v = record { set = 10; entries = entries_offset v / 2; user = user_offset body_fields v / 2 }

-- the sections after the head
unfoldable pub sections_fields : {E : Type 0} → (E → List (List ℕ)) → ListView E → List (List ℕ)
sections_fields body_fields v = identity_fields v.set v.member v.members ++ (entries_fields body_fields v.entries ++ user_fields v.user)

-- what the check sum covers
unfoldable pub covered_fields : {E : Type 0} → ℕ → (E → List (List ℕ)) → ListView E → List (List ℕ)
covered_fields version body_fields v = head_fields version (list_size body_fields v) (pointers_of body_fields v) ++ sections_fields body_fields v

unfoldable pub list_fields : {E : Type 0} → ℕ → (E → List (List ℕ)) → ListView E → List (List ℕ)
list_fields version body_fields v = covered_fields version body_fields v ++ number_fields 2 (crc16_of (concat (covered_fields version body_fields v)))

-- ---- what can be written

-- the number of a member of a set of `members`, in at most two bytes
abbrev pub IsMember : ℕ → ℕ → Type 0
IsMember members member = (1 ≤ member) × (member ≤ members) × (member < 2 ^ 16)

-- None of the entries has the name of one before it.
abbrev pub AreNew : {E : Type 0} → (E → List ℕ) → List E → List E → Type 0
AreNew name_of so_far [] = ⊤
AreNew name_of so_far (this ∷ more) = (is_listed name_of (name_of this) so_far ≡ false) × AreNew name_of (so_far ++ this ∷ []) more

-- At most 1,024 entries, each as it has to be and with a name of its own.
pub record AreEntries {E : Type 0} (IsEntry : E → Type 0) (name_of : E → List ℕ) (body_fields : E → List (List ℕ)) (entries : List E) : Type 0 where
  pub count : length entries ≤ 1024
  pub each : AllByRecursion IsEntry entries
  pub distances : HaveDistances body_fields entries
  pub names : AreNew name_of [] entries

-- A list with an even number of at most 131,070 bytes of user data, and at most 1,048,576 bytes in all.
pub record IsMediaList {E : Type 0} (IsEntry : ℕ → E → Type 0) (name_of : E → List ℕ) (body_fields : E → List (List ℕ)) (v : ListView E) : Type 0 where
  pub set : IsPartNumberText v.set
  pub member : IsMember v.members v.member
  pub members : v.members < 2 ^ 8
  pub entries : AreEntries (IsEntry v.members) name_of body_fields v.entries
  pub user : IsBytes v.user
  pub user_even : length v.user % 2 ≡ 0
  pub user_size : length v.user ≤ 131070
  pub size : list_size body_fields v ≤ 1048576

-- The list has this one spelling, and can be written.
abbrev pub ListSpells : {E : Type 0} → (ℕ → E → Type 0) → (E → List ℕ) → ℕ → (E → List (List ℕ)) → ListView E → List ℕ → Type 0
ListSpells IsEntry name_of version body_fields v bytes = IsMediaList IsEntry name_of body_fields v × (bytes ≡ concat (list_fields version body_fields v))
