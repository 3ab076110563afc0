-- What a file that arrived comes to (docs/EXCHANGE.md, "Upload").
use Rattle.std.specs.Prelude.{◌≡◌, ◌≤◌, List, [], length, map, ⊤, Result, Ok, Err, ℕ}
use Rattle.load_protocol_files.specs.declared.lur.Wanted.{Wanted}
use Rattle.disk_layout.specs.Manifest.{entry_view}
use Rattle.session_rules.specs.declared.reason.RequestFault.{RequestFault}
use Rattle.session_rules.specs.TargetRows as rows
use Rattle.session_rules.specs.TargetRows.{RowView, Reads_file, Writes_progress, Writes_stop, Writes_completion, arriving_of, with_bytes}
use Rattle.load_intake.specs.declared.finished.Finished.{Finished}
use Rattle.load_intake.specs.declared.finished.Finished.TheVariants as finished
use Rattle.load_intake.specs.declared.ended.UploadEnd as declared_end
use Rattle.load_intake.specs.declared.request.Request.{Request}
use Rattle.load_intake.specs.declared.request.Request.TheVariants as requests
use Rattle.load_intake.specs.Held.{upload_kept}
use Rattle.load_intake.specs.States.{IntakeState}

-- a request that was read: the loads that it asks for, or why it is refused
abbrev pub request_seen : Request → Result (List Wanted) RequestFault
request_seen (requests.Loads loads) = Ok loads.items
request_seen (requests.Refused fault) = Err fault

-- a request that isn't refused asks for 1 to 32 loads
abbrev pub AsksForSome : Request → Type 0
AsksForSome (requests.Loads loads) = (1 ≤ length loads.items) × (length loads.items ≤ 32)
AsksForSome (requests.Refused fault) = ⊤

abbrev pub end_view : declared_end.UploadEnd → rows.UploadEnd
end_view e = record { request = e.request.items; arrived = e.arrived; reports = e.reports; reason = e.reason }

-- the row that a session comes to
abbrev pub row_seen : Finished → RowView
row_seen (finished.MoreFiles intake) = Reads_file intake.upload
row_seen (finished.NextLoad intake) = Writes_progress intake.upload
row_seen (finished.Stopped end) = Writes_stop (end_view end)
row_seen (finished.Installed end loads) = Writes_completion (end_view end) (map entry_view loads.loads.items)

-- where loads were installed, so many more take no memory in their list
abbrev pub HasSpareFor : ℕ → Finished → Type 0
HasSpareFor more (finished.Installed end loads) = more ≤ loads.loads.spare
HasSpareFor more finished = ⊤

-- nothing has arrived yet of the file that comes next
abbrev pub IsFresh : IntakeState → Type 0
IsFresh st = st.arriving ≡ arriving_of (Reads_file st.upload) []

-- Between two loads nothing has arrived of the next header, and no bytes are held.
pub record IntakeIsBetweenLoads (st : IntakeState) : Type 0 where
  pub fresh : IsFresh st
  pub empty : st.held ≡ 0

-- an intake that goes on has nothing of the next file yet
abbrev pub BeginsNext : Finished → Type 0
BeginsNext (finished.MoreFiles intake) = IsFresh intake
BeginsNext (finished.NextLoad intake) = IntakeIsBetweenLoads intake
BeginsNext finished = ⊤

-- an intake after these bytes more of the file that arrives
abbrev pub with_more : IntakeState → List ℕ → IntakeState
with_more st bytes =
    let more = with_bytes st.arriving bytes in
    record { upload = st.upload; arriving = more; held = upload_kept st.upload.current more }
