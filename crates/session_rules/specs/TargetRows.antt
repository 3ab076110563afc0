-- The rows of the two operations as the target goes through them (docs/EXCHANGE.md, "Operations").
use Rattle.std.specs.Prelude.{ℕ, ◌+◌, List, [], ◌∷◌, ◌++◌, fold, length, ◌==◌, Option, Some, None, Result, Ok, Err, if◌then◌else◌}
use Rattle.load_base.specs.Config.{LoadView}
use Rattle.crc_fields.specs.CheckSums.{crc32_of}
use Rattle.load_header.specs.declared.header.FileEntry.{FileEntry}
use Rattle.load_header.specs.Header.{HeaderView}
use Rattle.load_protocol_files.specs.declared.lur.Wanted.{Wanted}
use Rattle.disk_layout.specs.Holds.{Outline, StandingView, outline_of}
use Rattle.disk_layout.specs.Manifest.{LoadEntry}
use Rattle.disk_layout.specs.Contents.{entries_of}
use Rattle.transfer_end.specs.Transfers.{Transfer, arrived_of, error_of}
use Rattle.accept_rules.specs.Permissions.{Accepts}
use Rattle.session_rules.specs.declared.outcome.FileKind.{FileKind}
use Rattle.session_rules.specs.declared.outcome.FileKind.TheVariants.{Lci, Lui}
use Rattle.session_rules.specs.declared.reason.Reason.{Reason}
use Rattle.session_rules.specs.declared.reason.Reason.TheVariants as reasons
use Rattle.session_rules.specs.declared.reason.RequestFault.{RequestFault}
use Rattle.session_rules.specs.Buffers.{Buffer, Sums, buffered, summed, buffered_more, summed_more}
use Rattle.session_rules.specs.Uploads.{OpenLoad, OpenLoadView, Upload, UploadView, upload_view, next_entry, next_wanted, next_name, Next, More_files, Next_load, Complete, Judgement, Stops_for, Accepts_header, Accepts_file, judge_header, judge_file, judge_request, covered_header}

-- how an upload ended: what was asked for, how many loads arrived, how many LUS were written with the last one, and the
-- reason if it was stopped
pub record UploadEnd : Type 0 where
  pub request : List Wanted
  pub arrived : ℕ
  pub reports : ℕ
  pub reason : Option Reason

-- The next row: the first of its operation that isn't finished. U is how far an upload has come, and C the loads that it brings.
pub data TargetRow (U C : Type 0) : Type 0 where
  Gives_lci : TargetRow U C
  Writes_lcs : TargetRow U C
  Writes_lcl : TargetRow U C
  Gives_lui : TargetRow U C
  Gives_denial : TargetRow U C
  Writes_ready : TargetRow U C
  Awaits_lur : TargetRow U C
  Reads_file : U → TargetRow U C
  Writes_progress : U → TargetRow U C
  Writes_stop : UploadEnd → TargetRow U C
  Writes_completion : UploadEnd → C → TargetRow U C  -- these loads are installed, with those that are kept
  Over : TargetRow U C

-- with all contents
abbrev pub WholeRow : Type 0
WholeRow = TargetRow Upload (List LoadView)

-- as it is kept
abbrev pub RowView : Type 0
RowView = TargetRow UploadView (List LoadEntry)

abbrev pub row_view : WholeRow → RowView
row_view Gives_lci = Gives_lci
row_view Writes_lcs = Writes_lcs
row_view Writes_lcl = Writes_lcl
row_view Gives_lui = Gives_lui
row_view Gives_denial = Gives_denial
row_view Writes_ready = Writes_ready
row_view Awaits_lur = Awaits_lur
row_view (Reads_file u) = Reads_file (upload_view u)
row_view (Writes_progress u) = Writes_progress (upload_view u)
row_view (Writes_stop e) = Writes_stop e
row_view (Writes_completion e loads) = Writes_completion e (entries_of loads)
row_view Over = Over

-- ---- what arrives

-- of a data or support file its sums are kept, of each other file its first bytes
pub data Arriving : Type 0 where
  Kept_bytes : Buffer → Arriving
  Kept_sums : Sums → Arriving

abbrev pub said_length : Option FileEntry → ℕ
said_length None = 0
said_length (Some entry) = entry.length

abbrev pub arriving_load : Option OpenLoadView → List ℕ → Arriving
arriving_load None bytes = Kept_bytes (buffered bytes)
arriving_load (Some l) bytes = Kept_sums (summed (said_length (next_entry l)) l.crc bytes)

-- what is kept of these bytes in a row
abbrev pub arriving_of : RowView → List ℕ → Arriving
arriving_of (Reads_file u) bytes = arriving_load u.current bytes
arriving_of row bytes = Kept_bytes (buffered bytes)

abbrev pub with_bytes : Arriving → List ℕ → Arriving
with_bytes (Kept_bytes b) more = Kept_bytes (buffered_more b more)
with_bytes (Kept_sums s) more = Kept_sums (summed_more s more)

-- a transfer that is over: the code of the ERROR that ended it, and what arrived
pub record TransferEnd : Type 0 where
  pub error : Option ℕ
  pub arriving : Arriving

-- ---- what the end of a transfer comes to

pub data RowMove : Type 0 where
  Passes : RowMove  -- the row is finished
  Requests : List Wanted → RowMove  -- these loads are to be uploaded
  Refuses_request : RequestFault → RowMove
  Judges : Judgement → RowMove
  Breaks_off : RowMove  -- the session is over

abbrev pub request_move : Result (List Wanted) RequestFault → RowMove
request_move (Ok loads) = Requests loads
request_move (Err fault) = Refuses_request fault

abbrev pub header_move : Accepts → (active : Outline) → UploadView → Option Wanted → Arriving → RowMove
header_move accepts active u (Some wanted) (Kept_bytes b) = Judges (judge_header accepts active u wanted b)
header_move accepts active u wanted arriving = Breaks_off

abbrev pub file_move : UploadView → OpenLoadView → Option FileEntry → Arriving → RowMove
file_move u l (Some entry) (Kept_sums s) = Judges (judge_file u l entry s)
file_move u l entry arriving = Breaks_off

-- a file of a load, its header or a later one
abbrev pub read_move : Accepts → (active : Outline) → UploadView → Option OpenLoadView → Arriving → RowMove
read_move accepts active u None arriving = header_move accepts active u (next_wanted u) arriving
read_move accepts active u (Some l) arriving = file_move u l (next_entry l) arriving

abbrev pub lur_move : Arriving → RowMove
lur_move (Kept_bytes b) = request_move (judge_request b)
lur_move (Kept_sums s) = Breaks_off

-- a transfer that no ERROR ended
abbrev pub done_move : Accepts → (active : Outline) → RowView → Arriving → RowMove
done_move accepts active (Reads_file u) arriving = read_move accepts active u u.current arriving
done_move accepts active Awaits_lur arriving = lur_move arriving
done_move accepts active row arriving = Passes

-- an ERROR stops an upload that reads a file, and ends every other session
abbrev pub error_move : RowView → (code : ℕ) → RowMove
error_move (Reads_file u) code = Judges (Stops_for (reasons.FileNotServed code) (length u.loads))
error_move row code = Breaks_off

abbrev pub row_move_by : Accepts → (active : Outline) → RowView → Arriving → Option ℕ → RowMove
row_move_by accepts active row arriving None = done_move accepts active row arriving
row_move_by accepts active row arriving (Some code) = error_move row code

-- what a transfer that is over comes to in its row
abbrev pub row_move : Accepts → (active : Outline) → RowView → TransferEnd → RowMove
row_move accepts active row end = row_move_by accepts active row end.arriving end.error

-- ---- the row after it

-- the row after one that is finished
abbrev pub row_after : {U C : Type 0} → TargetRow U C → TargetRow U C
row_after Gives_lci = Writes_lcs
row_after Writes_lcs = Writes_lcl
row_after Gives_lui = Writes_ready
row_after Writes_ready = Awaits_lur
row_after (Writes_progress u) = Reads_file u
row_after row = Over

abbrev pub stopped_upload : List Wanted → (arrived reports : ℕ) → Reason → UploadEnd
stopped_upload request arrived reports reason = record { request = request; arrived = arrived; reports = reports + 1; reason = Some reason }

abbrev pub installed_upload : List Wanted → (reports : ℕ) → UploadEnd
installed_upload request reports = record { request = request; arrived = length request; reports = reports + 1; reason = None }

-- the first row of a session in which one of the target's own two files is read; the last sequence number denies an upload
abbrev pub first_row : {U C : Type 0} → FileKind → (sequence : ℕ) → TargetRow U C
first_row Lci sequence = Gives_lci
first_row Lui sequence = if sequence == 4294967295 then Gives_denial else Gives_lui
first_row kind sequence = Over

-- ---- with all contents

abbrev pub new_upload : List Wanted → Upload
new_upload loads = record { request = loads; loads = []; current = None; reports = 1 }

-- a load that is whole
abbrev pub load_of : OpenLoad → LoadView
load_of l = record { part = l.wanted.part; type_id = Some l.header.type_id; header_name = l.wanted.header; files = record { name = l.wanted.header; bytes = l.bytes } ∷ l.files }

-- the open load has its files so far, and this comes next
abbrev pub placed : Upload → OpenLoad → Next → WholeRow
placed u l More_files = Reads_file (record { request = u.request; loads = u.loads; current = Some l; reports = u.reports })
placed u l Next_load = Writes_progress (record { request = u.request; loads = u.loads ++ load_of l ∷ []; current = None; reports = u.reports + 1 })
placed u l Complete = Writes_completion (installed_upload u.request u.reports) (u.loads ++ load_of l ∷ [])

abbrev pub with_header : Option Wanted → HeaderView → List ℕ → Option OpenLoad
with_header None h bytes = None
with_header (Some wanted) h bytes = Some (record { wanted = wanted; header = h; bytes = bytes; files = [] })

abbrev pub with_file : Option OpenLoad → (name bytes : List ℕ) → Option OpenLoad
with_file None name bytes = None
with_file (Some l) name bytes = Some (record { wanted = l.wanted; header = l.header; bytes = l.bytes; files = l.files ++ record { name = name; bytes = bytes } ∷ [] })

abbrev pub placed_if : Upload → Option OpenLoad → Next → WholeRow
placed_if u None next = Over
placed_if u (Some l) next = placed u l next

-- a file with these bytes was judged
abbrev pub row_judged : Upload → List ℕ → Judgement → WholeRow
row_judged u bytes (Stops_for reason arrived) = Writes_stop (stopped_upload u.request arrived u.reports reason)
row_judged u bytes (Accepts_header h next) = placed_if u (with_header (next_wanted (upload_view u)) h bytes) next
row_judged u bytes (Accepts_file next) = placed_if u (with_file u.current (next_name (upload_view u)) bytes) next

-- what was judged is a file of an upload
abbrev pub judged_in : WholeRow → List ℕ → Judgement → WholeRow
judged_in (Reads_file u) bytes judgement = row_judged u bytes judgement
judged_in row bytes judgement = Over

abbrev pub row_moved : WholeRow → List ℕ → RowMove → WholeRow
row_moved row bytes Passes = row_after row
row_moved row bytes (Requests loads) = Reads_file (new_upload loads)
row_moved row bytes (Refuses_request fault) = Writes_stop (stopped_upload [] 0 1 (reasons.RequestRefused fault))
row_moved row bytes (Judges judgement) = judged_in row bytes judgement
row_moved row bytes Breaks_off = Over

-- what a transfer of a session comes to, by what would be kept of it
abbrev pub transfer_end : RowView → Transfer → TransferEnd
transfer_end row t = record { error = error_of t; arriving = arriving_of row (arrived_of t) }

-- the row after a transfer of its
abbrev pub row_with : Accepts → (active : StandingView) → WholeRow → Transfer → WholeRow
row_with accepts active row t = row_moved row (arrived_of t) (row_move accepts (outline_of active) (row_view row) (transfer_end (row_view row) t))

-- the next row after these transfers of a session, beside what is active as they end
unfoldable pub row_of : Accepts → (active : StandingView) → WholeRow → List Transfer → WholeRow
row_of accepts active first done = fold (row_with accepts active) first done

-- ---- as it is kept

abbrev pub new_upload_view : List Wanted → UploadView
new_upload_view loads = record { request = loads; loads = []; current = None; reports = 1 }

abbrev pub load_entry_of : OpenLoadView → LoadEntry
load_entry_of l = record { part = l.wanted.part; type_id = Some l.header.type_id; files = record { name = l.wanted.header; length = l.size } ∷ l.files }

abbrev pub placed_view : UploadView → OpenLoadView → Next → RowView
placed_view u l More_files = Reads_file (record { request = u.request; loads = u.loads; current = Some l; reports = u.reports })
placed_view u l Next_load = Writes_progress (record { request = u.request; loads = u.loads ++ load_entry_of l ∷ []; current = None; reports = u.reports + 1 })
placed_view u l Complete = Writes_completion (installed_upload u.request u.reports) (u.loads ++ load_entry_of l ∷ [])

abbrev pub with_header_view : Option Wanted → HeaderView → Arriving → Option OpenLoadView
with_header_view (Some wanted) h (Kept_bytes b) = Some (record { wanted = wanted; header = h; size = b.count; files = []; crc = crc32_of (covered_header b.prefix) })
with_header_view wanted h arriving = None

abbrev pub with_file_view : Option OpenLoadView → (name : List ℕ) → Arriving → Option OpenLoadView
with_file_view (Some l) name (Kept_sums s) = Some (record { wanted = l.wanted; header = l.header; size = l.size; files = l.files ++ record { name = name; length = s.count } ∷ []; crc = s.load_crc })
with_file_view l name arriving = None

abbrev pub placed_view_if : UploadView → Option OpenLoadView → Next → RowView
placed_view_if u None next = Over
placed_view_if u (Some l) next = placed_view u l next

abbrev pub view_judged : UploadView → Arriving → Judgement → RowView
view_judged u arriving (Stops_for reason arrived) = Writes_stop (stopped_upload u.request arrived u.reports reason)
view_judged u arriving (Accepts_header h next) = placed_view_if u (with_header_view (next_wanted u) h arriving) next
view_judged u arriving (Accepts_file next) = placed_view_if u (with_file_view u.current (next_name u) arriving) next

abbrev pub view_judged_in : RowView → Arriving → Judgement → RowView
view_judged_in (Reads_file u) arriving judgement = view_judged u arriving judgement
view_judged_in row arriving judgement = Over

abbrev pub view_moved : RowView → Arriving → RowMove → RowView
view_moved row arriving Passes = row_after row
view_moved row arriving (Requests loads) = Reads_file (new_upload_view loads)
view_moved row arriving (Refuses_request fault) = Writes_stop (stopped_upload [] 0 1 (reasons.RequestRefused fault))
view_moved row arriving (Judges judgement) = view_judged_in row arriving judgement
view_moved row arriving Breaks_off = Over
