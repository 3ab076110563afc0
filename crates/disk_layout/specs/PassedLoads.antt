-- What reading over one load tells, as layout 2 writes it.
use Rattle.std.specs.Prelude.{◌≡◌, ℕ, List, ◌++◌}
use Rattle.std.specs.List.{concat}
use Rattle.field_grammar.specs.Cursor.{Cursor, past}
use Rattle.disk_layout.specs.Manifest.{LoadEntry, LoadFits, entries_length, load_entry_fields}
use Rattle.disk_layout.specs.declared.manifest.Layout.TheVariants as layouts

-- this load stands at the position, and this after it
pub record StandsAt (c : Cursor) (load : LoadEntry) (rest : List ℕ) : Type 0 where
  pub fits : LoadFits layouts.Two load
  pub are : c.rest ≡ concat (load_entry_fields layouts.Two load) ++ rest

-- a load stands at the position
pub record BeginsWithLoad (c : Cursor) : Type 0 where
  pub load : LoadEntry
  pub rest : List ℕ
  pub stands : StandsAt c load rest

-- from one position to the other stands a load whose files have this many bytes
pub record PassesLoad (old : Cursor) (files : ℕ) (new : Cursor) : Type 0 where
  pub passed : (load : LoadEntry) (rest : List ℕ) → StandsAt old load rest → (files ≡ entries_length load.files) × (new ≡ past old.before (load_entry_fields layouts.Two load) rest)

-- the most bytes that two bytes of files with four bytes of a length each can say
abbrev pub most_length : ℕ
most_length = 281470681677825
