-- The list of a media set's batches, `BATCHES.LUM` (docs/FORMATS.md).
use Rattle.std.specs.Prelude.{ℕ, List, ◌++◌}
use Rattle.load_base.specs.Name.{IsName}
use Rattle.part_number.specs.PartNumber.{IsPartNumberText}
use Rattle.field_grammar.specs.Grammar.{Grammar, give, renamed, ◌>>=◌}
use Rattle.field_grammar.specs.Fields.{number_fields, padded_fields}
use Rattle.header_sections.specs.Sections.{name, part}
use Rattle.media_lists.specs.Lists.{shared, member_of, ListView, media_list}
use Rattle.media_lists.specs.Entries.{entries}
use Rattle.media_lists.specs.ListFields.{IsMember, IsMediaList, ListSpells}
use Rattle.media_lists.specs.declared.fault.ListFault.{ListFault}
use Rattle.batch_lists.specs.declared.batches.BatchEntry.{BatchEntry}
use Rattle.batch_lists.specs.declared.batches.BatchesList.{BatchesList}
use Rattle.batch_lists.specs.declared.fault.BatchesFault.{BatchesFault}
use Rattle.batch_lists.specs.BatchFaults.{batches_fault}

-- what a list of batches holds, without the spare capacity of its lists
abbrev pub BatchesListView : Type 0
BatchesListView = ListView BatchEntry

abbrev pub batches_list_view : BatchesList → BatchesListView
batches_list_view l = record { set = l.set; member = l.member; members = l.members; entries = l.batches.items; user = l.user.items }

-- ---- as it is read

-- what an entry holds of its batch, after the distance
unfoldable pub batch_body : ℕ → Grammar ListFault BatchEntry
batch_body members = do
  number ← shared part
  title ← shared name
  member ← member_of members
  give (record { part = number; file = title; member = member })

-- the name of a batch's file
abbrev pub batch_file : BatchEntry → List ℕ
batch_file batch = batch.file

abbrev pub batch_entries : ℕ → ℕ → Grammar ListFault (List BatchEntry)
batch_entries members said = entries (batch_body members) batch_file said

abbrev pub batches_list : Grammar BatchesFault BatchesListView
batches_list = renamed batches_fault (media_list 0xB004 batch_entries)

-- ---- as it is written

unfoldable pub batch_body_fields : BatchEntry → List (List ℕ)
batch_body_fields batch = padded_fields batch.part ++ (padded_fields batch.file ++ number_fields 2 batch.member)

-- a batch that a list of a set of `members` members can name
pub record IsListedBatch (members : ℕ) (batch : BatchEntry) : Type 0 where
  pub part : IsPartNumberText batch.part
  pub file : IsName batch.file
  pub member : IsMember members batch.member

abbrev pub IsBatchesList : BatchesListView → Type 0
IsBatchesList v = IsMediaList IsListedBatch batch_file batch_body_fields v

-- The list has this one spelling, and can be written.
abbrev pub BatchesSpells : BatchesListView → List ℕ → Type 0
BatchesSpells v bytes = ListSpells IsListedBatch batch_file 0xB004 batch_body_fields v bytes
