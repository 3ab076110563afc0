-- How an upload is completed, at both sides (docs/EXCHANGE.md, "Upload").
use Rattle.std.specs.Prelude.{◌≤◌, length, ◌≡◌, ℕ, List, ◌∷◌, true, Ok, ⊤}
use Rattle.std.specs.List.{AllByRecursion}
use Rattle.field_grammar.specs.Answers.{answer}
use Rattle.load_base.specs.Config.{LoadView}
use Rattle.load_protocol_files.specs.Lus.{LusSpells, LusView, lus}
use Rattle.exchange_trace.specs.Logs.{Event}
use Rattle.transfer_end.specs.Laws.{IsLive}
use Rattle.transfer_end.specs.OtherEnds.{MoveHasRole, is_receiving}
use Rattle.transfer_end.specs.Transfers.{Role, ServesRead, Writes, arrived_of, end_in, is_received}
use Rattle.accept_rules.specs.Permissions.{Accepts}
use Rattle.session_rules.specs.declared.outcome.Outcome.TheVariants.{Completed}
use Rattle.session_rules.specs.declared.outcome.SessionKind.TheVariants.{Upload}
use Rattle.session_rules.specs.Loader.{EndedSession}
use Rattle.session_rules.specs.LoaderLog.{LoaderReading, loader_reading}
use Rattle.session_rules.specs.LoaderRoles.{EndsWithLive, loader_row}
use Rattle.session_rules.specs.LoaderRows.{Serves_files}
use Rattle.session_rules.specs.MediaFiles.{Media}
use Rattle.session_rules.specs.Reports.{completed}
use Rattle.session_rules.specs.Target.{target_decision}
use Rattle.session_rules.specs.TargetLog.{TargetReading, standing_after, target_extended, target_view}

-- the file is an LUS which says that all loads are installed
abbrev pub SaysCompleted : List ℕ → Type 0
SaysCompleted file = (v : LusView) × LusSpells v file × (v.status ≡ completed)

-- ---- the loader

-- An upload was completed: it ended in the row in which it serves files, with its live transfer, which took a file whole that
-- reads as an LUS which says so.
pub record CompletionArrived (media : Media) (r : LoaderReading) (e : Event) : Type 0 where
  pub ends : EndsWithLive media r e
  pub upload : ends.session.start.kind ≡ Upload
  pub row : loader_row ends.session ≡ Serves_files
  pub receives : is_receiving ends.transfer.role ≡ true
  pub received : is_received (end_in ends.transfer) ≡ true
  pub says : (v : LusView) × (answer lus (arrived_of ends.transfer) ≡ Ok v) × (v.status ≡ completed)

-- So it is in each log of the loader, with each event that completes an upload.
abbrev pub CompletedUploadArrived : Type 0
CompletedUploadArrived = (media : Media) (log : List Event) (e : Event) (session : EndedSession) → (loader_reading media (e ∷ log)).ended ≡ session ∷ (loader_reading media log).ended → session.kind ≡ Upload
    → session.outcome ≡ Completed → CompletionArrived media (loader_reading media log) e

-- ---- the target

-- the event makes these loads what is active
pub record InstallsNow (accepts : Accepts) (r : TargetReading) (e : Event) : Type 0 where
  pub loads : List LoadView
  pub next : (target_extended accepts r e).active ≡ standing_after r.active loads

-- a file that is sent says that all is installed only if it is as the transfer begins; a file that is given has no more bytes
-- than the option `tsize` can tell (RFC 2349), and never says so
abbrev pub TellsInstalled : Accepts → TargetReading → Event → Role → Type 0
TellsInstalled accepts r e (Writes name options file) = SaysCompleted file → InstallsNow accepts r e
TellsInstalled accepts r e (ServesRead name options file) = (length file ≤ 4294967295) × (SaysCompleted file → ⊥)
TellsInstalled accepts r e role = ⊤

-- Whatever reaches a target, it begins to send a file which says that all is installed only as it installs.
abbrev pub TargetTellsInstalled : Type 0
TargetTellsInstalled = (accepts : Accepts) (r : TargetReading) (e : Event) → IsLive r.end.live
    → AllByRecursion (MoveHasRole (TellsInstalled accepts r e)) (target_decision accepts (target_view r) e).moves
