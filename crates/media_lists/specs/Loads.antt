-- The list of a media set's loads, `LOADS.LUM` (docs/FORMATS.md).
use Rattle.std.specs.Prelude.{ℕ, ◌≤◌, List, ◌++◌, length, map}
use Rattle.std.specs.List.{AllByRecursion}
use Rattle.load_base.specs.Name.{IsName}
use Rattle.load_base.specs.Text.{IsText}
use Rattle.part_number.specs.PartNumber.{IsPartNumberText}
use Rattle.field_grammar.specs.Grammar.{Grammar, give, ◌>>=◌}
use Rattle.field_grammar.specs.Fields.{number_fields, padded_fields}
use Rattle.header_sections.specs.Sections.{name, part, texts}
use Rattle.header_sections.specs.SectionFields.{texts_fields}
use Rattle.media_lists.specs.Lists.{shared, counted, member_of, ListView, media_list}
use Rattle.media_lists.specs.Entries.{entries}
use Rattle.media_lists.specs.ListFields.{IsMember, IsMediaList, ListSpells}
use Rattle.media_lists.specs.declared.fault.ListFault.{ListFault}
use Rattle.media_lists.specs.declared.lists.LoadsList.{LoadsList}
use Rattle.media_lists.specs.declared.lists.LoadEntry.{LoadEntry}

-- what a list of loads holds, without the spare capacity of its lists
pub record LoadEntryView : Type 0 where
  pub part : List ℕ
  pub header_name : List ℕ
  pub member : ℕ
  pub hardware : List (List ℕ)

abbrev pub LoadsListView : Type 0
LoadsListView = ListView LoadEntryView

abbrev pub load_entry_view : LoadEntry → LoadEntryView
load_entry_view l = record { part = l.part; header_name = l.header_name; member = l.member; hardware = l.hardware.items }

abbrev pub loads_list_view : LoadsList → LoadsListView
loads_list_view l = record { set = l.set; member = l.member; members = l.members; entries = map load_entry_view l.loads.items; user = l.user.items }

-- ---- as it is read

-- a count, and the texts
unfoldable pub counted_texts : Grammar ListFault (List (List ℕ))
counted_texts = do
  count ← counted
  shared (texts count)

-- what an entry holds of its load, after the distance
unfoldable pub load_body : ℕ → Grammar ListFault LoadEntryView
load_body members = do
  number ← shared part
  title ← shared name
  member ← member_of members
  hardware ← counted_texts
  give (record { part = number; header_name = title; member = member; hardware = hardware })

abbrev pub load_name : LoadEntryView → List ℕ
load_name load = load.header_name

abbrev pub load_entries : ℕ → ℕ → Grammar ListFault (List LoadEntryView)
load_entries members said = entries (load_body members) load_name said

abbrev pub loads_list : Grammar ListFault LoadsListView
loads_list = media_list 0x9004 load_entries

-- ---- as it is written

unfoldable pub load_body_fields : LoadEntryView → List (List ℕ)
load_body_fields load = padded_fields load.part ++ (padded_fields load.header_name ++ (number_fields 2 load.member ++ texts_fields load.hardware))

-- the same of an entry as it is kept
abbrev pub kept_fields : LoadEntry → List (List ℕ)
kept_fields load = load_body_fields (load_entry_view load)

-- a load that a list of a set of `members` members can name, for at most 1,024 kinds of hardware
pub record IsListedLoad (members : ℕ) (load : LoadEntryView) : Type 0 where
  pub part : IsPartNumberText load.part
  pub header_name : IsName load.header_name
  pub member : IsMember members load.member
  pub few : length load.hardware ≤ 1024
  pub hardware : AllByRecursion IsText load.hardware

-- what the texts of an entry are by their types
pub record HasWords (load : LoadEntryView) : Type 0 where
  pub part : IsPartNumberText load.part
  pub header_name : IsName load.header_name
  pub hardware : AllByRecursion IsText load.hardware

abbrev pub IsLoadsList : LoadsListView → Type 0
IsLoadsList v = IsMediaList IsListedLoad load_name load_body_fields v

-- The list has this one spelling, and can be written.
abbrev pub LoadsSpells : LoadsListView → List ℕ → Type 0
LoadsSpells v bytes = ListSpells IsListedLoad load_name 0x9004 load_body_fields v bytes
