-- How far an upload has come at the target, and what the tests say of a file that arrived (docs/EXCHANGE.md, "Upload").
use Rattle.std.specs.Prelude.{ℕ, ◌+◌, ◌-◌, List, [], ◌∷◌, ◌++◌, length, map, take, Bool, true, false, not, nat_le, nat_lt, ◌==◌, bytes_eq, ◌&&◌, ◌||◌, Option, Some, None, slice_get, Result, Ok, Err, if◌then◌else◌}
use Rattle.std.specs.List.{concat, list_any}
use Rattle.crc_fields.specs.CheckSums.{crc32_of}
use Rattle.field_grammar.specs.Answers.{answer}
use Rattle.load_base.specs.Config.{FileView, LoadView}
use Rattle.load_header.specs.declared.fault.HeaderFault.{HeaderFault}
use Rattle.load_header.specs.declared.fault.HeaderFault.TheVariants as headers
use Rattle.load_header.specs.declared.header.FileEntry.{FileEntry}
use Rattle.load_header.specs.Header.{HardwareAtView, HeaderView, header}
use Rattle.load_protocol_files.specs.declared.fault.FileFault.{FileFault}
use Rattle.load_protocol_files.specs.declared.lur.Wanted.{Wanted}
use Rattle.load_protocol_files.specs.Lur.{LurView, lur}
use Rattle.disk_layout.specs.declared.manifest.Layout.TheVariants as layouts
use Rattle.disk_layout.specs.declared.manifest.ManifestFile.{ManifestFile}
use Rattle.disk_layout.specs.Manifest.{LoadEntry, total_length, manifest_fields}
use Rattle.disk_layout.specs.Contents.{file_entry_of, entries_of, bytes_of}
use Rattle.disk_layout.specs.Holds.{Outline}
use Rattle.accept_rules.specs.Permissions.{Accepts}
use Rattle.session_rules.specs.declared.reason.Reason.{Reason}
use Rattle.session_rules.specs.declared.reason.Reason.TheVariants as reasons
use Rattle.session_rules.specs.declared.reason.RequestFault.{RequestFault}
use Rattle.session_rules.specs.declared.reason.RequestFault.TheVariants as requests
use Rattle.session_rules.specs.Buffers.{Buffer, Sums, is_too_long}
use Rattle.session_rules.specs.KeptLoads.{kept_entries, told_loads, types_of}

-- ---- headers

-- the header names this hardware with this position
abbrev pub is_at : (hw pos : List ℕ) → HardwareAtView → Bool
is_at hw pos at = bytes_eq at.hardware hw && list_any (λ one. bytes_eq one pos) at.positions

-- the header is for this hardware, in any position or in this one
abbrev pub is_for : (hw pos : List ℕ) → HeaderView → Bool
is_for hw pos h = list_any (λ one. bytes_eq one hw) h.hardware || list_any (is_at hw pos) h.positions

-- all files that a header names, the data files first
abbrev pub files_of : HeaderView → List FileEntry
files_of h = h.data_files ++ h.support_files

-- what the load CRC covers of a header
abbrev pub covered_header : List ℕ → List ℕ
covered_header bytes = take (length bytes - 4) bytes

-- what it covers of a header and of the files after it
abbrev pub covered : (header : List ℕ) → List FileView → List ℕ
covered header files = covered_header header ++ bytes_of files

-- ---- an upload with all contents

-- A load of which files are still to come: what was asked for, its header with its bytes, and the files so far.
pub record OpenLoad : Type 0 where
  pub wanted : Wanted
  pub header : HeaderView
  pub bytes : List ℕ
  pub files : List FileView

-- the loads that were asked for, those that are whole, the one that isn't, and how many LUS were written
pub record Upload : Type 0 where
  pub request : List Wanted
  pub loads : List LoadView
  pub current : Option OpenLoad
  pub reports : ℕ

-- ---- and without them, as it is kept

pub record OpenLoadView : Type 0 where
  pub wanted : Wanted
  pub header : HeaderView
  pub size : ℕ  -- the length of the header
  pub files : List ManifestFile
  pub crc : ℕ  -- the CRC-32 of what the load CRC covers so far

pub record UploadView : Type 0 where
  pub request : List Wanted
  pub loads : List LoadEntry
  pub current : Option OpenLoadView
  pub reports : ℕ

abbrev pub open_load_view : OpenLoad → OpenLoadView
open_load_view l = record { wanted = l.wanted; header = l.header; size = length l.bytes; files = map file_entry_of l.files; crc = crc32_of (covered l.bytes l.files) }

abbrev pub current_view : Option OpenLoad → Option OpenLoadView
current_view None = None
current_view (Some l) = Some (open_load_view l)

abbrev pub upload_view : Upload → UploadView
upload_view u = record { request = u.request; loads = entries_of u.loads; current = current_view u.current; reports = u.reports }

-- ---- the next file

-- the entry of the next file of a load, and its number, from 1
abbrev pub next_entry : OpenLoadView → Option FileEntry
next_entry l = slice_get (files_of l.header) (length l.files)

abbrev pub next_number : OpenLoadView → ℕ
next_number l = length l.files + 1

-- the load of which the header is next
abbrev pub next_wanted : UploadView → Option Wanted
next_wanted u = slice_get u.request (length u.loads)

abbrev pub header_name : Option Wanted → List ℕ
header_name None = []
header_name (Some wanted) = wanted.header

abbrev pub entry_name : Option FileEntry → List ℕ
entry_name None = []
entry_name (Some entry) = entry.name

abbrev pub next_name_in : UploadView → Option OpenLoadView → List ℕ
next_name_in u None = header_name (next_wanted u)
next_name_in u (Some l) = entry_name (next_entry l)

-- the name of the file that is read next
abbrev pub next_name : UploadView → List ℕ
next_name u = next_name_in u u.current

-- ---- what the tests say

-- what comes next, where no test failed
pub data Next : Type 0 where
  More_files : Next  -- of this load
  Next_load : Next
  Complete : Next  -- the installation

pub data Judgement : Type 0 where
  Stops_for : Reason → (arrived : ℕ) → Judgement  -- a test failed, where this many loads had arrived
  Accepts_header : HeaderView → Next → Judgement
  Accepts_file : Next → Judgement

-- the first reason of two, if there is one
abbrev pub or_else : Option Reason → Option Reason → Option Reason
or_else None later = later
or_else (Some reason) later = Some reason

abbrev pub unless : Bool → Reason → Option Reason
unless true reason = None
unless false reason = Some reason

-- what comes next where the load has this header and this many files after it
abbrev pub next_with : UploadView → HeaderView → (files : ℕ) → Next
next_with u h files =
    if nat_lt files (length (files_of h)) then More_files
    else if nat_lt (length u.loads + 1) (length u.request) then Next_load
    else Complete

-- how many loads have arrived then
abbrev pub arrived_with : UploadView → HeaderView → (files : ℕ) → ℕ
arrived_with u h files = if nat_lt files (length (files_of h)) then length u.loads else length u.loads + 1

-- once all files of a load are there, its CRC-32 is tested
abbrev pub load_reason : HeaderView → Next → (crc : ℕ) → Option Reason
load_reason h More_files crc = None
load_reason h next crc = unless (h.load_crc == crc) (reasons.LoadCrc h.load_crc crc)

abbrev pub judged : Option Reason → (arrived : ℕ) → Judgement → Judgement
judged None arrived judgement = judgement
judged (Some reason) arrived judgement = Stops_for reason arrived

-- ---- headers

-- the load with this header, of this length, as it will stand in the manifest
abbrev pub planned_load : Wanted → HeaderView → (size : ℕ) → LoadEntry
planned_load wanted h size =
    record { part = h.part; type_id = Some h.type_id; files = record { name = wanted.header; length = size } ∷ map (λ (entry : FileEntry). record { name = entry.name; length = entry.length }) (files_of h) }

-- how many bytes of a bank these loads and their manifest need, which is written in layout 2
unfoldable pub need_of : List LoadEntry → ℕ
need_of loads = total_length loads + length (concat (manifest_fields layouts.Two loads))

-- the next header is that of the last load that was asked for
abbrev pub is_last : UploadView → Bool
is_last u = not (nat_lt (length u.loads + 1) (length u.request))

-- the active loads that are kept after this header: those that have a type id which no header so far has
abbrev pub kept_after : (active : Outline) → UploadView → HeaderView → List LoadEntry
kept_after active u h = kept_entries (types_of u.loads ++ h.type_id ∷ []) active.loads

-- only at the last header it is known which loads stay
abbrev pub kept_at_last : (active : Outline) → UploadView → HeaderView → List LoadEntry
kept_at_last active u h = if is_last u then kept_after active u h else []

-- the loads that need room, as far as they are known at a header: those that are whole, its own, and at the last header those that
-- are kept
abbrev pub loads_at : (active : Outline) → UploadView → Wanted → HeaderView → (size : ℕ) → List LoadEntry
loads_at active u wanted h size = (u.loads ++ planned_load wanted h size ∷ []) ++ kept_at_last active u h

-- how many loads are requested and kept
abbrev pub load_total : (active : Outline) → UploadView → HeaderView → ℕ
load_total active u h = length u.request + length (kept_after active u h)

-- the tests on a header beside what is active, in their order
abbrev pub header_reason : Accepts → (active : Outline) → UploadView → Wanted → HeaderView → (size : ℕ) → Option Reason
header_reason accepts active u wanted h size =
    or_else (unless (bytes_eq h.part wanted.part) reasons.PartDiffers)
    (or_else (unless (is_for active.identity.hw active.identity.pos h) reasons.NotThisHardware)
    (or_else (unless (accepts h (told_loads (kept_after active u h))) reasons.RuleRefused)
    (or_else (unless (not (is_last u) || nat_le (load_total active u h) 32) (reasons.TooManyLoads (load_total active u h)))
    (unless (nat_le (need_of (loads_at active u wanted h size)) active.identity.bank)
    (reasons.BankFull (need_of (loads_at active u wanted h size)) active.identity.bank)))))

-- a load without data and support files is whole with its header
abbrev pub judge_spelled_header : Accepts → (active : Outline) → UploadView → Wanted → Buffer → HeaderView → Judgement
judge_spelled_header accepts active u wanted b h =
    judged (or_else (header_reason accepts active u wanted h b.count) (load_reason h (next_with u h 0) (crc32_of (covered_header b.prefix))))
    (arrived_with u h 0) (Accepts_header h (next_with u h 0))

abbrev pub judge_read_header : Accepts → (active : Outline) → UploadView → Wanted → Buffer → Result HeaderView HeaderFault → Judgement
judge_read_header accepts active u wanted b (Ok h) = judge_spelled_header accepts active u wanted b h
judge_read_header accepts active u wanted b (Err fault) = Stops_for (reasons.HeaderRefused fault) (length u.loads)

unfoldable pub judge_header : Accepts → (active : Outline) → UploadView → Wanted → Buffer → Judgement
judge_header accepts active u wanted b =
    if is_too_long b then Stops_for (reasons.HeaderRefused headers.TooLong) (length u.loads)
    else judge_read_header accepts active u wanted b (answer header b.prefix)

-- ---- data and support files

abbrev pub file_reason : (number : ℕ) → FileEntry → Sums → Option Reason
file_reason number entry s =
    or_else (unless (s.count == entry.length) (reasons.FileLength number entry.length s.count))
    (unless (s.crc16 == entry.crc16) (reasons.FileCrc number entry.crc16 s.crc16))

unfoldable pub judge_file : UploadView → OpenLoadView → FileEntry → Sums → Judgement
judge_file u l entry s =
    judged (or_else (file_reason (next_number l) entry s) (load_reason l.header (next_with u l.header (next_number l)) s.load_crc))
    (arrived_with u l.header (next_number l)) (Accepts_file (next_with u l.header (next_number l)))

-- ---- requests

abbrev pub is_load_count : ℕ → Bool
is_load_count n = nat_le 1 n && nat_le n 32

-- the loads that a request asks for, or why it is refused
abbrev pub request_read : Result LurView FileFault → Result (List Wanted) RequestFault
request_read (Ok v) = if is_load_count (length v.loads) then Ok v.loads else Err (requests.Loads (length v.loads))
request_read (Err fault) = Err (requests.Spelling fault)

unfoldable pub judge_request : Buffer → Result (List Wanted) RequestFault
judge_request b = if is_too_long b then Err requests.TooLong else request_read (answer lur b.prefix)
