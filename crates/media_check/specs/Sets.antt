-- A media set as a value: the lists of its members as they were found, and the listed files (docs/FORMATS.md, "Media sets").
pub use Rattle.media_check.specs.Kept.{ListedFileView, found_as, found_in, found_view, entries_of, file_view, files_view}
use Rattle.std.specs.Prelude.{◌≡◌, ℕ, ◌-◌, ◌≤◌, List, [], length, map, Option, Some, None}
use Rattle.std.specs.List.{range_with_len}
use Rattle.std.specs.Map.{lookup}
use Rattle.load_base.specs.Bytes.{same_bytes}
use Rattle.load_base.specs.Host.{longest_file}
use Rattle.field_grammar.specs.Grammar.{IsBytes}
use Rattle.batch_lists.specs.Batch.{BatchView}
use Rattle.batch_lists.specs.Batches.{BatchesListView, batches_list, batches_list_view}
use Rattle.batch_lists.specs.declared.fault.BatchesFault.{BatchesFault}
use Rattle.media_lists.specs.Files.{FilesListView, files_list, files_list_view, IsFilesList}
use Rattle.media_lists.specs.Loads.{LoadsListView, loads_list, loads_list_view}
use Rattle.media_lists.specs.declared.fault.ListFault.{ListFault}
use Rattle.media_lists.specs.declared.lists.ListedFile.{ListedFile}
use Rattle.media_check.specs.Batches.{batch_of_entry, first_batch}
use Rattle.media_check.specs.declared.found.Found.{Found}
use Rattle.media_check.specs.declared.found.Found.TheVariants.{Missing, Refused, Read}
use Rattle.media_check.specs.declared.set.MemberLists.{MemberLists}
use Rattle.media_check.specs.declared.set.MediaSet.{MediaSet}

-- ---- what a set is

-- the lists of a member, as they were found
pub record MemberView : Type 0 where
  pub loads : Found LoadsListView ListFault
  pub files : Found FilesListView ListFault
  pub batches : Found BatchesListView BatchesFault

-- The lists of member 1 and those of the members from 2 on; and the files that member 1's FILES.LUM lists, by their
-- names in the order of the list.
pub record SetView : Type 0 where
  pub first : MemberView
  pub further : List MemberView
  pub files : List (List ℕ × ListedFileView)

-- the list, where it was read
abbrev pub list_of : {V F : Type 0} → Found V F → Option V
list_of (Read v) = Some v
list_of Missing = None
list_of (Refused fault) = None

-- the listed file of this name
abbrev pub find : SetView → List ℕ → Option ListedFileView
find set name = lookup (same_bytes name) set.files

abbrev pub bytes_found : Option ListedFileView → Option (List ℕ)
bytes_found None = None
bytes_found (Some file) = file.bytes

-- the bytes of the file of this name; None where no such file is listed, and where it is absent
abbrev pub bytes_of : SetView → List ℕ → Option (List ℕ)
bytes_of set name = bytes_found (find set name)

-- each file that is there is bytes, and at most 16,777,215 of them
abbrev pub AreFilesBytes : SetView → Type 0
AreFilesBytes set = (name bytes : List ℕ) → bytes_of set name ≡ Some bytes → IsBytes bytes × (length bytes ≤ longest_file)

-- The batch of the first entry of member 1's BATCHES.LUM that has this part number; None where no entry has it, where its
-- file isn't listed or is absent, and where that is refused.
abbrev pub batch_of : SetView → (part : List ℕ) → Option BatchView
batch_of set part = batch_of_entry set.files (first_batch part (entries_of set.first.batches))

-- ---- what media tell

-- The bytes that media have: of the lists of each member, and of the file that an entry of FILES.LUM names. None is a
-- file that is absent.
pub record MediaBytes : Type 0 where
  pub loads_list : (member : ℕ) → Option (List ℕ)
  pub files_list : (member : ℕ) → Option (List ℕ)
  pub batches_list : (member : ℕ) → Option (List ℕ)
  pub listed : ListedFile → Option (List ℕ)

-- the lists of this member
abbrev pub lists_in : MediaBytes → (member : ℕ) → MemberView
lists_in media member = record {
  loads = found_in loads_list (media.loads_list member);
  files = found_in files_list (media.files_list member);
  batches = found_in batches_list (media.batches_list member);
}

-- the numbers of the further members, which member 1's LOADS.LUM counts; there are none where it wasn't read
abbrev pub further_members : Found LoadsListView ListFault → List ℕ
further_members (Read list) = range_with_len 2 (list.members - 1)
further_members Missing = []
further_members (Refused fault) = []

-- a listed file by its name, with the bytes that the media have of it
abbrev pub file_in : MediaBytes → ListedFile → List ℕ × ListedFileView
file_in media entry = (entry.name, record { member = entry.member; bytes = media.listed entry })

-- the set with these lists of member 1
abbrev pub set_with : MediaBytes → MemberView → SetView
set_with media first = record {
  first = first;
  further = map (lists_in media) (further_members first.loads);
  files = map (file_in media) (entries_of first.files);
}

-- the set that the media tell
abbrev pub set_in : MediaBytes → SetView
set_in media = set_with media (lists_in media 1)

-- ---- what is kept

abbrev pub lists_view : MemberLists → MemberView
lists_view lists = record {
  loads = found_view loads_list_view lists.loads;
  files = found_view files_list_view lists.files;
  batches = found_view batches_list_view lists.batches;
}

abbrev pub set_view : MediaSet → SetView
set_view set = record {
  first = lists_view set.first;
  further = map lists_view set.further.items;
  files = files_view set.files.entries;
}

-- A list that was read is one that its format can spell.
abbrev pub IsFoundFiles : Found FilesListView ListFault → Type 0
IsFoundFiles (Read list) = IsFilesList list
IsFoundFiles Missing = Unit {0}
IsFoundFiles (Refused fault) = Unit {0}
