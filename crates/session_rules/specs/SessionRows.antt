-- The row of a session by all its transfers (docs/EXCHANGE.md, "The target").
use Rattle.std.specs.Prelude.{◌≡◌, ℕ, List, [], ◌∷◌, Some}
use Rattle.disk_layout.specs.Holds.{StandingView}
use Rattle.exchange_trace.specs.Logs.{Event}
use Rattle.accept_rules.specs.Permissions.{Accepts}
use Rattle.session_rules.specs.declared.outcome.FileKind.{FileKind}
use Rattle.session_rules.specs.Target.{Begins, TargetChange, target_decision}
use Rattle.session_rules.specs.TargetLog.{TargetSessionLog, target_reading, target_view}
use Rattle.session_rules.specs.TargetRows.{first_row, row_of}

-- where a change begins a session, what is active then; else what was active as the session before it began
abbrev pub begun_beside : TargetChange → (now before : StandingView) → StandingView
begun_beside (Begins kind) now before = now
begun_beside change now before = before

-- what was active as the newest session of a log began; before the first of all, what was active as the target came up
abbrev pub active_as_begun : Accepts → (first_port : ℕ) → StandingView → List Event → StandingView
active_as_begun accepts first_port active [] = active
active_as_begun accepts first_port active (e ∷ earlier) =
    begun_beside (target_decision accepts (target_view (target_reading accepts first_port active earlier)) e).change
    (target_reading accepts first_port active earlier).active (active_as_begun accepts first_port active earlier)

-- the row is what all transfers of the session come to, one after the other from its first row on, beside this configuration
pub record IsOfAllTransfers (accepts : Accepts) (active : StandingView) (s : TargetSessionLog) : Type 0 where
  pub kind : FileKind
  pub row : s.row ≡ row_of accepts active (first_row kind active.sequence) s.done

-- So it is of the live session of each log, beside what was active as it began, though the row is moved on beside what is active
-- as a transfer ends: that changes in no session before its last row.
abbrev pub RowsAreOfAllTransfers : Type 0
RowsAreOfAllTransfers = (accepts : Accepts) (first_port : ℕ) (active : StandingView) (log : List Event) (s : TargetSessionLog)
    → (target_reading accepts first_port active log).live ≡ Some s → IsOfAllTransfers accepts (active_as_begun accepts first_port active log) s
