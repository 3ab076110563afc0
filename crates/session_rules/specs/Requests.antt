-- Which loads an upload asks for, at both sides (docs/EXCHANGE.md, "Upload").
use Rattle.std.specs.Prelude.{◌≡◌, ◌≤◌, length, ℕ, List, ◌∷◌, ◌++◌, true, false, Option, Some, None, Ok, ⊤}
use Rattle.std.specs.List.{AllByRecursion}
use Rattle.load_protocol_files.specs.declared.lur.Wanted.{Wanted}
use Rattle.load_protocol_files.specs.Lur.{LurSpells}
use Rattle.exchange_trace.specs.Logs.{Event, Starts_upload}
use Rattle.transfer_end.specs.OtherEnds.{Among, HaveRoles, is_asking, is_receiving}
use Rattle.transfer_end.specs.Readings.{Reading}
use Rattle.transfer_end.specs.Transfers.{Role, Transfer, Writes, arrived_of, end_in, is_received}
use Rattle.accept_rules.specs.Permissions.{Accepts}
use Rattle.session_rules.specs.LoaderLog.{loader_reading}
use Rattle.session_rules.specs.MediaFiles.{Media, wanted_of}
use Rattle.session_rules.specs.Reports.{lur_file}
use Rattle.session_rules.specs.SoundLogs.{IsNewAt}
use Rattle.session_rules.specs.TargetLog.{TargetReading, TargetSessionLog}
use Rattle.session_rules.specs.TargetRows.{Reads_file, WholeRow, Writes_completion, Writes_progress}

-- ---- the loader

-- these loads are the media set's entries of the parts, 32 at most, with which an upload was started
pub record AreStarted (media : Media) (log : List Event) (loads : List Wanted) : Type 0 where
  pub hw : List ℕ
  pub pos : List ℕ
  pub parts : List (List ℕ)
  pub among : Among (Starts_upload hw pos parts) log
  pub few : length parts ≤ 32
  pub found : wanted_of media.loads parts ≡ Ok loads

-- a file that the loader writes is the request for the loads of a start
abbrev pub WritesRequest : Media → List Event → Role → Type 0
WritesRequest media log (Writes name options file) = (loads : List Wanted) × AreStarted media log loads × (file ≡ lur_file loads)
WritesRequest media log role = ⊤

-- So it is in each log of the loader.
abbrev pub LoaderWritesRequests : Type 0
LoaderWritesRequests = (media : Media) (log : List Event) → HaveRoles (WritesRequest media log) (loader_reading media log).end

-- ---- the target

-- A transfer that is over, and that the target served, brought the request for these loads whole; the target asked for all that
-- are over since.
pub record RequestArrived (end : Reading) (loads : List Wanted) : Type 0 where
  pub since : List Transfer
  pub transfer : Transfer
  pub before : List Transfer
  pub past : end.past ≡ since ++ transfer ∷ before
  pub asks : AllByRecursion (λ (t : Transfer). is_asking t.role ≡ true) since
  pub receives : is_receiving transfer.role ≡ true
  pub serves : is_asking transfer.role ≡ false
  pub received : is_received (end_in transfer) ≡ true
  pub spells : LurSpells (record { loads = loads }) (arrived_of transfer)

-- so it is of what is asked for in a row, unless the upload was stopped
abbrev pub HasRequest : Reading → WholeRow → Type 0
HasRequest end (Reads_file u) = RequestArrived end u.request
HasRequest end (Writes_progress u) = RequestArrived end u.request
HasRequest end (Writes_completion e loads) = RequestArrived end e.request
HasRequest end row = ⊤

abbrev pub RequestIn : Reading → Option TargetSessionLog → Type 0
RequestIn end None = ⊤
RequestIn end (Some s) = HasRequest end s.row

abbrev pub SessionHasRequest : TargetReading → Type 0
SessionHasRequest r = RequestIn r.end r.live

-- and of what a new configuration was asked for
abbrev pub InstallsRequest : Accepts → (before after : TargetReading) → Type 0
InstallsRequest accepts before after = (new : IsNewAt accepts before after) → RequestArrived after.end new.upload.request
