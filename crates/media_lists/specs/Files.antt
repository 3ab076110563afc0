-- The list of a media set's files, `FILES.LUM` (docs/FORMATS.md).
use Rattle.std.specs.Prelude.{ℕ, ◌<◌, ◌^◌, List, ◌++◌}
use Rattle.load_base.specs.Name.{IsName}
use Rattle.field_grammar.specs.Grammar.{Grammar, give, ◌>>=◌}
use Rattle.field_grammar.specs.Fields.{number_fields, padded_fields}
use Rattle.header_sections.specs.Sections.{name}
use Rattle.media_lists.specs.Lists.{shared, u16, path, member_of, ListView, media_list}
use Rattle.media_lists.specs.Entries.{entries}
use Rattle.media_lists.specs.ListFields.{IsMember, IsMediaList, ListSpells}
use Rattle.media_lists.specs.Paths.{IsPath}
use Rattle.media_lists.specs.declared.fault.ListFault.{ListFault}
use Rattle.media_lists.specs.declared.lists.FilesList.{FilesList}
use Rattle.media_lists.specs.declared.lists.ListedFile.{ListedFile}

-- what a list of files holds, without the spare capacity of its lists
abbrev pub FilesListView : Type 0
FilesListView = ListView ListedFile

abbrev pub files_list_view : FilesList → FilesListView
files_list_view l = record { set = l.set; member = l.member; members = l.members; entries = l.files.items; user = l.user.items }

-- ---- as it is read

-- what an entry holds of its file, after the distance
unfoldable pub file_body : ℕ → Grammar ListFault ListedFile
file_body members = do
  title ← shared name
  where_it_is ← path
  member ← member_of members
  sum ← u16
  give (record { name = title; path = where_it_is; member = member; crc16 = sum })

abbrev pub file_name : ListedFile → List ℕ
file_name file = file.name

abbrev pub file_entries : ℕ → ℕ → Grammar ListFault (List ListedFile)
file_entries members said = entries (file_body members) file_name said

abbrev pub files_list : Grammar ListFault FilesListView
files_list = media_list 0xA004 file_entries

-- ---- as it is written

unfoldable pub file_body_fields : ListedFile → List (List ℕ)
file_body_fields file = padded_fields file.name ++ (padded_fields file.path ++ (number_fields 2 file.member ++ number_fields 2 file.crc16))

-- a file that a list of a set of `members` members can name
pub record IsListedFile (members : ℕ) (file : ListedFile) : Type 0 where
  pub name : IsName file.name
  pub path : IsPath file.path
  pub member : IsMember members file.member
  pub sum : file.crc16 < 2 ^ 16

abbrev pub IsFilesList : FilesListView → Type 0
IsFilesList v = IsMediaList IsListedFile file_name file_body_fields v

-- The list has this one spelling, and can be written.
abbrev pub FilesSpells : FilesListView → List ℕ → Type 0
FilesSpells v bytes = ListSpells IsListedFile file_name 0xA004 file_body_fields v bytes
