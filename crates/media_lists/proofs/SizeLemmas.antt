-- How many bytes the sections of a list take.
use Rattle.std.proofs.Common.{◌≡◌, ℕ, ◌+◌, ◌%◌, List, ◌++◌, length, refl, arith, length-append}
use Rattle.field_grammar.specs.Spelling.{spelled_length}
use Rattle.field_grammar.proofs.SectionLemmas.{size_more, size_number, size_padded}
use Rattle.field_grammar.specs.Fields.{number_fields, padded_fields}
use Rattle.field_grammar.proofs.NumberLemmas.{length_number_bytes}
use Rattle.media_lists.specs.Lists.{ListView}
use Rattle.header_sections.specs.SectionFields.{entry_size, entries_fields}
use Rattle.header_sections.proofs.SizeLemmas.{size_user, size_entries, even_total}
use Rattle.media_lists.specs.ListFields.{head_fields, identity_fields, list_size}
use Rattle.media_lists.specs.declared.reading.Pointers.{Pointers}

pub size_head : (version size : ℕ) (p : Pointers) → spelled_length (head_fields version size p) ≡ 20
unfolding head_fields
size_head version size p = simp (length-append, length_number_bytes) refl

pub size_identity : (set : List ℕ) (member members : ℕ) → spelled_length (identity_fields set member members) ≡ 4 + length set + length set % 2
unfolding identity_fields
size_identity set member members =
    omega (arith, size_more (padded_fields set) (number_fields 1 member ++ number_fields 1 members), size_more (number_fields 1 member) (number_fields 1 members), size_number 1 member, size_number 1 members, size_padded set)

-- a list has an even number of bytes
pub even_size : {E : Type 0} (f : E → List (List ℕ)) → ((e : E) → entry_size f e % 2 ≡ 0) → (v : ListView E) → length v.user % 2 ≡ 0 → list_size f v % 2 ≡ 0
unfolding list_size
even_size f each v even =
    omega (arith, even, size_identity v.set v.member v.members, size_entries f v.entries, even_total f each v.entries, size_user v.user)

-- as the code measures it
pub whole_size : {E : Type 0} (f : E → List (List ℕ)) (v : ListView E) (entries : ℕ) → length v.set ≡ 15 → entries ≡ spelled_length (entries_fields f v.entries) → list_size f v ≡ 44 + entries + length v.user
unfolding list_size
whole_size f v entries fifteen is = omega (arith, is, size_identity v.set v.member v.members, size_user v.user, fifteen)
