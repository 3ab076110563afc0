-- The findings of a media set, M1 to M19 (docs/FORMATS.md, "Findings").
use Rattle.std.specs.Prelude.{ℕ, ◌+◌, ◌-◌, List, [], ◌∷◌, ◌++◌, length, map, take, drop, codes, ◌==◌, Bool, true, false, not, ◌&&◌, if◌then◌else◌, Option, Some, None, is_some, Result, Ok, Err}
use Rattle.std.specs.Cmp.Lexicographic.{pointwise}
use Rattle.std.specs.List.{flat_map, list_all, list_any}
use Rattle.crc_fields.specs.CheckSums.{crc16_of, crc32_of}
use Rattle.load_base.specs.Bytes.{same_bytes}
use Rattle.batch_lists.specs.Batch.{BatchView}
use Rattle.batch_lists.specs.FaultTexts.{batch_fault_text, batches_fault_text}
use Rattle.batch_lists.specs.declared.batches.BatchEntry.{BatchEntry}
use Rattle.batch_lists.specs.declared.fault.BatchFault.{BatchFault}
use Rattle.batch_lists.specs.declared.fault.BatchesFault.{BatchesFault}
use Rattle.field_grammar.specs.Answers.{answer}
use Rattle.load_header.specs.Header.{header, HeaderView}
use Rattle.load_header.specs.HeaderFaultText.{header_fault_text}
use Rattle.load_header.specs.declared.fault.HeaderFault.{HeaderFault}
use Rattle.load_header.specs.declared.header.FileEntry.{FileEntry}
use Rattle.media_lists.specs.Entries.{is_listed}
use Rattle.media_lists.specs.Files.{FilesListView}
use Rattle.media_lists.specs.ListFaultText.{list_fault_text}
use Rattle.media_lists.specs.Lists.{ListView}
use Rattle.media_lists.specs.Loads.{LoadsListView, LoadEntryView, load_name}
use Rattle.media_lists.specs.declared.fault.ListFault.{ListFault}
use Rattle.media_lists.specs.declared.lists.ListedFile.{ListedFile}
use Rattle.media_check.specs.Batches.{KeptBatchView, batch_at}
use Rattle.media_check.specs.Kept.{contents, entries_of}
use Rattle.media_check.specs.Sets.{MemberView, ListedFileView, SetView, find, bytes_of}
use Rattle.media_check.specs.declared.finding.Finding.{Finding}
use Rattle.media_check.specs.declared.found.Found.{Found}
use Rattle.media_check.specs.declared.found.Found.TheVariants.{Missing, Refused, Read}

-- a finding without a detail
abbrev pub plain : (kind member : ℕ) (file : List ℕ) → Finding
plain kind member file = record { kind = kind; member = member; file = file; detail = [] }

-- a finding with the text of a fault
abbrev pub detailed : (kind member : ℕ) (file detail : List ℕ) → Finding
detailed kind member file detail = record { kind = kind; member = member; file = file; detail = detail }

-- the finding where its condition holds, and else none
abbrev pub where_it_holds : Bool → Finding → List Finding
where_it_holds condition finding = if condition then finding ∷ [] else []

-- the CRC-16 of each listed file, in their order; of one that is absent, that of no bytes
abbrev pub file_sums : SetView → List ℕ
file_sums set = map (λ file. crc16_of (contents file.1.bytes)) set.files

-- ---- for each member and list: M1 missing, M2 refused, M3 another member's or not the list of member 1

abbrev pub same_load : LoadEntryView → LoadEntryView → Bool
same_load one other =
    same_bytes one.part other.part && same_bytes one.header_name other.header_name && (one.member == other.member)
    && pointwise same_bytes one.hardware other.hardware

abbrev pub same_file : ListedFile → ListedFile → Bool
same_file one other =
    same_bytes one.name other.name && same_bytes one.path other.path && (one.member == other.member) && (one.crc16 == other.crc16)

-- the lists differ in nothing but which member's they are
unfoldable pub same_but_member : {E : Type 0} → (E → E → Bool) → ListView E → ListView E → Bool
same_but_member same one other =
    same_bytes one.set other.set && (one.members == other.members) && pointwise same one.entries other.entries
    && same_bytes one.user other.user

-- a list isn't compared where member 1's is missing or refused
abbrev pub agrees : {E F : Type 0} → (E → E → Bool) → Found (ListView E) F → ListView E → Bool
agrees same (Read first) list = same_but_member same first list
agrees same Missing list = true
agrees same (Refused fault) list = true

-- the list says that it is this member's, and agrees with that of member 1
unfoldable pub is_members_list : {E F : Type 0} → (E → E → Bool) → (member : ℕ) → Found (ListView E) F → ListView E → Bool
is_members_list same member first list = (list.member == member) && agrees same first list

-- A sort of list: its name, the kinds of its findings, when two of its entries are the same, and the texts of its faults.
pub record ListSort (E F : Type 0) : Type 0 where
  pub name : List ℕ
  pub missing : ℕ
  pub refused : ℕ
  pub differs : ℕ
  pub same : E → E → Bool
  pub text : F → List ℕ

abbrev pub loads_sort : ListSort LoadEntryView ListFault
loads_sort = record { name = codes "LOADS.LUM"; missing = 1; refused = 2; differs = 3; same = same_load; text = list_fault_text }

abbrev pub files_sort : ListSort ListedFile ListFault
files_sort = record { name = codes "FILES.LUM"; missing = 1; refused = 2; differs = 3; same = same_file; text = list_fault_text }

-- what is found of a member's list
unfoldable pub list_findings : {E F : Type 0} → ListSort E F → (member : ℕ) (first this : Found (ListView E) F) → List Finding
list_findings sort member first Missing = plain sort.missing member sort.name ∷ []
list_findings sort member first (Refused fault) = detailed sort.refused member sort.name (sort.text fault) ∷ []
list_findings sort member first (Read list) = where_it_holds (not (is_members_list sort.same member first list)) (plain sort.differs member sort.name)

-- LOADS.LUM and FILES.LUM of a member
unfoldable pub member_findings : (first : MemberView) (member : ℕ) (this : MemberView) → List Finding
member_findings first member this =
    list_findings loads_sort member first.loads this.loads ++ list_findings files_sort member first.files this.files

-- what is found of each of these members, of which the first has this number
unfoldable pub of_members : (found : (member : ℕ) → MemberView → List Finding) → (member : ℕ) → List MemberView → List Finding
of_members found member [] = []
of_members found member (this ∷ others) = found member this ++ of_members found (member + 1) others

-- ---- for each entry of FILES.LUM: M4 missing or M6 another check sum; then M8, a header that no load names

unfoldable pub is_header_name : List ℕ → Bool
is_header_name name = same_bytes (drop (length name - 4) name) (codes ".LUH")

unfoldable pub body_findings : ListedFile → Option (List ℕ) → List Finding
body_findings entry None = plain 4 entry.member entry.name ∷ []
body_findings entry (Some bytes) = where_it_holds (not (crc16_of bytes == entry.crc16)) (plain 6 entry.member entry.name)

unfoldable pub entry_findings : SetView → List LoadEntryView → ListedFile → List Finding
entry_findings set loads entry =
    body_findings entry (bytes_of set entry.name)
    ++ where_it_holds (is_header_name entry.name && not (is_listed load_name entry.name loads)) (plain 8 entry.member entry.name)

-- ---- for each load: M5 its header isn't listed; M7 its header is refused; M9 another part; M10 other hardware; for each
-- ---- file M5 it isn't listed or M11 another length or check sum; M12 another load CRC

unfoldable pub is_file : FileEntry → List ℕ → Bool
is_file file bytes = (length bytes == file.length) && (crc16_of bytes == file.crc16)

-- a listed file of a load
abbrev pub changed_findings : FileEntry → ListedFileView → Option (List ℕ) → List Finding
changed_findings file found None = []
changed_findings file found (Some bytes) = where_it_holds (not (is_file file bytes)) (plain 11 found.member file.name)

abbrev pub file_findings_as : FileEntry → Option ListedFileView → List Finding
file_findings_as file None = plain 5 0 file.name ∷ []
file_findings_as file (Some found) = changed_findings file found found.bytes

-- a data or support file of a load
unfoldable pub file_findings : SetView → FileEntry → List Finding
file_findings set file = file_findings_as file (find set file.name)

-- the data files and then the support files
abbrev pub files_of : HeaderView → List FileEntry
files_of h = h.data_files ++ h.support_files

-- each of these files is listed and there
unfoldable pub are_there : SetView → List FileEntry → Bool
are_there set files = list_all (λ file. is_some (bytes_of set file.name)) files

-- the CRC-32 over a header but its last 4 bytes, and these files
unfoldable pub load_crc_of : SetView → (header_bytes : List ℕ) → List FileEntry → ℕ
load_crc_of set bytes files = crc32_of (take (length bytes - 4) bytes ++ flat_map (λ file. contents (bytes_of set file.name)) files)

-- all files of the load are there, and their load CRC isn't that of the header
unfoldable pub has_other_crc : SetView → (header_bytes : List ℕ) → HeaderView → Bool
has_other_crc set bytes h = are_there set (files_of h) && not (load_crc_of set bytes (files_of h) == h.load_crc)

-- a load whose header is in this member, with these bytes, and spells `h`
unfoldable pub header_findings : SetView → LoadEntryView → (member : ℕ) (header_bytes : List ℕ) → HeaderView → List Finding
header_findings set load member bytes h =
    where_it_holds (not (same_bytes h.part load.part)) (plain 9 member load.header_name)
    ++ (where_it_holds (not (pointwise same_bytes h.hardware load.hardware)) (plain 10 member load.header_name)
    ++ (flat_map (file_findings set) (files_of h)
    ++ where_it_holds (has_other_crc set bytes h) (plain 12 member load.header_name)))

-- a load whose header is in this member, with what reading its bytes gives
abbrev pub read_findings : SetView → LoadEntryView → (member : ℕ) (header_bytes : List ℕ) → Result HeaderView HeaderFault → List Finding
read_findings set load member bytes (Ok h) = header_findings set load member bytes h
read_findings set load member bytes (Err fault) = detailed 7 member load.header_name (header_fault_text fault) ∷ []

-- a load whose header is listed
abbrev pub listed_findings : SetView → LoadEntryView → ListedFileView → Option (List ℕ) → List Finding
listed_findings set load found None = []
listed_findings set load found (Some bytes) = read_findings set load found.member bytes (answer header bytes)

abbrev pub load_findings_as : SetView → LoadEntryView → Option ListedFileView → List Finding
load_findings_as set load None = plain 5 0 load.header_name ∷ []
load_findings_as set load (Some found) = listed_findings set load found found.bytes

unfoldable pub load_findings : SetView → LoadEntryView → List Finding
load_findings set load = load_findings_as set load (find set load.header_name)

-- ---- for each member's list of batches: M13 missing, M14 refused, M15 another member's or not the list of member 1

abbrev pub same_batch : BatchEntry → BatchEntry → Bool
same_batch one other = same_bytes one.part other.part && same_bytes one.file other.file && (one.member == other.member)

abbrev pub batches_sort : ListSort BatchEntry BatchesFault
batches_sort = record { name = codes "BATCHES.LUM"; missing = 13; refused = 14; differs = 15; same = same_batch; text = batches_fault_text }

-- BATCHES.LUM of a member
abbrev pub batches_list_findings : (first : MemberView) (member : ℕ) (this : MemberView) → List Finding
batches_list_findings first member this = list_findings batches_sort member first.batches this.batches

-- ---- for each entry of member 1's: M16 its file isn't listed, M17 it is refused, M18 another part, M19 no load has a part

-- the part numbers of all targets, in their order
abbrev pub parts_of : BatchView → List (List ℕ)
parts_of b = flat_map (λ target. target.parts) b.targets

-- a part that a target gets, where it is known of which parts there are loads
unfoldable pub part_findings : (is_loads : List ℕ → Bool) → (member : ℕ) (file part : List ℕ) → List Finding
part_findings is_loads member file part = where_it_holds (not (is_loads part)) (detailed 19 member file part)

-- a batch whose file is in this member
unfoldable pub read_batch_findings : (is_loads : List ℕ → Bool) → BatchEntry → (member : ℕ) → BatchView → List Finding
read_batch_findings is_loads entry member b =
    where_it_holds (not (same_bytes b.part entry.part)) (plain 18 member entry.file)
    ++ flat_map (part_findings is_loads member entry.file) (parts_of b)

abbrev pub found_batch_findings : (is_loads : List ℕ → Bool) → BatchEntry → (member : ℕ) → Found BatchView BatchFault → List Finding
found_batch_findings is_loads entry member Missing = []
found_batch_findings is_loads entry member (Refused fault) = detailed 17 member entry.file (batch_fault_text fault) ∷ []
found_batch_findings is_loads entry member (Read b) = read_batch_findings is_loads entry member b

abbrev pub kept_batch_findings : (is_loads : List ℕ → Bool) → BatchEntry → Option KeptBatchView → List Finding
kept_batch_findings is_loads entry None = plain 16 0 entry.file ∷ []
kept_batch_findings is_loads entry (Some kept) = found_batch_findings is_loads entry kept.member kept.found

-- an entry, beside what is found of its file
unfoldable pub batch_findings : SetView → (is_loads : List ℕ → Bool) → BatchEntry → List Finding
batch_findings set is_loads entry = kept_batch_findings is_loads entry (batch_at set.files entry)

abbrev pub load_part : LoadEntryView → List ℕ
load_part load = load.part

-- one of these loads has this part number
abbrev pub is_part_of : List LoadEntryView → List ℕ → Bool
is_part_of loads part = is_listed load_part part loads

-- ---- the whole

-- what is found beside the lists, where both of member 1 were read
abbrev pub contents_findings : SetView → Found LoadsListView ListFault → Found FilesListView ListFault → List Finding
contents_findings set (Read loads) (Read files) =
    flat_map (entry_findings set loads.entries) files.entries ++ flat_map (load_findings set) loads.entries
contents_findings set loads files = []

-- the list is there, whether or not it is refused
abbrev pub is_there : {L F : Type 0} → Found L F → Bool
is_there Missing = false
is_there (Refused fault) = true
is_there (Read list) = true

abbrev pub has_batches : MemberView → Bool
has_batches lists = is_there lists.batches

-- what is found of the batches, where a member has a list of them
unfoldable pub all_batches_findings : SetView → List LoadEntryView → List Finding
all_batches_findings set loads =
    of_members (batches_list_findings set.first) 1 (set.first ∷ set.further)
    ++ flat_map (batch_findings set (is_part_of loads)) (entries_of set.first.batches)

-- and both other lists of member 1 were read
abbrev pub batches_findings : SetView → Found LoadsListView ListFault → Found FilesListView ListFault → List Finding
batches_findings set (Read loads) (Read files) =
    if list_any has_batches (set.first ∷ set.further) then all_batches_findings set loads.entries else []
batches_findings set loads files = []

-- all findings of a set, in their order
unfoldable pub findings_of : SetView → List Finding
findings_of set =
    of_members (member_findings set.first) 1 (set.first ∷ set.further)
    ++ (contents_findings set set.first.loads set.first.files ++ batches_findings set set.first.loads set.first.files)
