-- The lists that a target writes (docs/EXCHANGE.md, "Operations").
use Rattle.std.specs.Prelude.{◌≡◌, ℕ, List, Option, Some, None, ⊤}
use Rattle.std.specs.List.{AllByRecursion}
use Rattle.disk_layout.specs.Holds.{outline_of}
use Rattle.exchange_trace.specs.Logs.{Event}
use Rattle.transfer_end.specs.Laws.{IsLive}
use Rattle.transfer_end.specs.Moves.{Asks, Move}
use Rattle.transfer_end.specs.OtherEnds.{MoveHasRole}
use Rattle.transfer_end.specs.Transfers.{Role, Writes}
use Rattle.accept_rules.specs.Permissions.{Accepts}
use Rattle.session_rules.specs.declared.outcome.FileKind.{FileKind}
use Rattle.session_rules.specs.declared.outcome.FileKind.TheVariants.{Lcl}
use Rattle.session_rules.specs.FileNames.{file_name}
use Rattle.session_rules.specs.Reports.{lcl_file}
use Rattle.session_rules.specs.Target.{TargetChange, TargetSession, TargetView, Turns, row_request, target_decision}
use Rattle.session_rules.specs.TargetLog.{TargetReading, TargetSessionLog, target_extended, target_view}
use Rattle.session_rules.specs.TargetRows.{RowMove, Writes_lcl, view_moved, with_bytes}

-- the row to which the live session turns asks for the transfer
abbrev pub RowAsks : TargetView → Option TargetSession → RowMove → (more : List ℕ) → Role → Type 0
RowAsks v None move more role = ⊥
RowAsks v (Some s) move more role = row_request v (view_moved s.row (with_bytes s.arriving more) move) ≡ Some role

-- a target asks where its session turns to another row, for what that row asks for
abbrev pub AskedInTurn : TargetView → TargetChange → Move → Type 0
AskedInTurn v (Turns move more) (Asks role) = RowAsks v v.live move more role
AskedInTurn v change (Asks role) = ⊥
AskedInTurn v change move = ⊤

abbrev pub TargetAsksInTurn : Type 0
TargetAsksInTurn = (accepts : Accepts) (v : TargetView) (e : Event)
    → AllByRecursion (AskedInTurn v (target_decision accepts v e).change) (target_decision accepts v e).moves

-- The session's next row is then the one of the list, which it wasn't before, and the file is the list of what is active.
pub record ListIsAsked (accepts : Accepts) (r : TargetReading) (e : Event) (file : List ℕ) : Type 0 where
  pub session : TargetSessionLog
  pub live : (target_extended accepts r e).live ≡ Some session
  pub row : session.row ≡ Writes_lcl
  pub newly : (before : TargetSessionLog) → r.live ≡ Some before → before.row ≡ Writes_lcl → ⊥
  pub lists : file ≡ lcl_file (outline_of r.active)

-- a file that the target asks to write at an event is one of its own, and the list is one that becomes due
abbrev pub IsAskedRole : Accepts → TargetReading → Event → Role → Type 0
IsAskedRole accepts r e (Writes name options file) =
    (kind : FileKind) × (name ≡ file_name r.active.identity.hw r.active.identity.pos kind) × (kind ≡ Lcl → ListIsAsked accepts r e file)
IsAskedRole accepts r e role = ⊤

-- Whatever reaches a target, each file that it asks to write then is one of its own, and the list is of what is active.
abbrev pub TargetAsksForItsFiles : Type 0
TargetAsksForItsFiles = (accepts : Accepts) (r : TargetReading) (e : Event) → IsLive r.end.live
    → AllByRecursion (MoveHasRole (IsAskedRole accepts r e)) (target_decision accepts (target_view r) e).moves
