-- The entries of a media list (docs/FORMATS.md). What an entry holds after its distance is a format of its own,
-- and each entry has the name of a file.
use Rattle.std.specs.Prelude.{ℕ, ◌+◌, List, [], length, ◌==◌, Bool, not}
use Rattle.std.specs.List.{list_any}
use Rattle.load_base.specs.Bytes.{same_bytes}
use Rattle.field_grammar.specs.Grammar.{Grammar, give, check, listed, ◌>>=◌, ◌>>◌}
use Rattle.header_sections.specs.Sections.{section_at, entry}
use Rattle.media_lists.specs.Lists.{shared, u16, counted}
use Rattle.media_lists.specs.declared.fault.ListFault.{ListFault}
use Rattle.media_lists.specs.declared.fault.ListFault.TheVariants as faults

-- this entry
unfoldable pub numbered_entry : {E : Type 0} → Grammar ListFault E → ℕ → Bool → Grammar ListFault E
numbered_entry body number last = entry u16 (faults.Distance number) body last

-- whether an entry with this name is among these
unfoldable pub is_listed : {E : Type 0} → (E → List ℕ) → List ℕ → List E → Bool
is_listed name_of name entries = list_any (λ entry. same_bytes (name_of entry) name) entries

-- this entry, whose name none of those before it has
unfoldable pub new_entry : {E : Type 0} → Grammar ListFault E → (E → List ℕ) → ℕ → Bool → List E → Grammar ListFault E
new_entry body name_of number last so_far = do
  this ← numbered_entry body number last
  check (not (is_listed name_of (name_of this) so_far)) (faults.Repeated number)
  give this

-- the entry after those so far, of `count`
abbrev pub entry_after : {E : Type 0} → Grammar ListFault E → (E → List ℕ) → ℕ → List E → Grammar ListFault E
entry_after body name_of count so_far = new_entry body name_of (length so_far + 1) (length so_far + 1 == count) so_far

-- a count and the entries, where the pointer says
unfoldable pub entries : {E : Type 0} → Grammar ListFault E → (E → List ℕ) → ℕ → Grammar ListFault (List E)
entries body name_of said = do
  shared (section_at 2 said)
  count ← counted
  listed count (entry_after body name_of count) []
