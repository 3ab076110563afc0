-- What the target's log says (docs/EXCHANGE.md, "The target").
use Rattle.std.specs.Prelude.{ℕ, ◌+◌, ◌-◌, List, [], ◌∷◌, ◌++◌, Option, Some, None}
use Rattle.load_base.specs.Config.{LoadView}
use Rattle.disk_layout.specs.Holds.{StandingView, outline_of}
use Rattle.exchange_trace.specs.declared.trace.Side.TheVariants as sides
use Rattle.exchange_trace.specs.Happenings.{DatagramView}
use Rattle.exchange_trace.specs.Logs.{Event}
use Rattle.transfer_end.specs.Transfers.{Transfer, arriving_in}
use Rattle.transfer_end.specs.Readings.{Reading, new_reading}
use Rattle.transfer_end.specs.Views.{end_view}
use Rattle.transfer_end.specs.Moves.{readings_after}
use Rattle.accept_rules.specs.Permissions.{Accepts}
use Rattle.session_rules.specs.declared.outcome.FileKind.{FileKind}
use Rattle.session_rules.specs.declared.reason.Reason.{Reason}
use Rattle.session_rules.specs.declared.reason.Reason.TheVariants as reasons
use Rattle.session_rules.specs.KeptLoads.{with_kept}
use Rattle.session_rules.specs.LoaderLog.{newest}
use Rattle.session_rules.specs.Target.{Begins, Continues, Ends, TargetChange, TargetSession, TargetView, Turns, Turns_without_port, later_reason, reason_in, target_decision, target_posts}
use Rattle.session_rules.specs.TargetRows.{WholeRow, Writes_completion, arriving_of, first_row, row_of, row_view}

-- A session: its next row, and all its transfers that are over, the oldest first. The row is moved on as a transfer ends, beside
-- what is active then. It isn't worked out anew from the transfers: once the session has installed, their headers would be judged
-- beside another configuration than the one that they were judged beside.
pub record TargetSessionLog : Type 0 where
  pub row : WholeRow
  pub done : List Transfer

-- a session as it begins, in which this file of the target's own is read
abbrev pub new_session : FileKind → (sequence : ℕ) → TargetSessionLog
new_session kind sequence = record { row = first_row kind sequence; done = [] }

-- all transfers with all their packets, the live session with its transfers, and the active configuration with all contents
pub record TargetReading : Type 0 where
  pub end : Reading
  pub live : Option TargetSessionLog
  pub active : StandingView
  pub reason : Option Reason

abbrev pub new_target_reading : (first_port : ℕ) → StandingView → TargetReading
new_target_reading first_port active = record { end = new_reading first_port; live = None; active = active; reason = None }

-- ---- what is kept of it

abbrev pub session_view : Reading → Option TargetSessionLog → Option TargetSession
session_view end None = None
session_view end (Some s) = Some (record { row = row_view s.row; arriving = arriving_of (row_view s.row) (arriving_in end.live) })

abbrev pub target_view : TargetReading → TargetView
target_view r = record { end = end_view r.end; live = session_view r.end r.live; active = outline_of r.active; reason = r.reason }

-- What is due at an event, by what the log says before it.
abbrev pub target_due : Accepts → TargetReading → Event → List DatagramView
target_due accepts r e = target_posts accepts (target_view r) e

-- ---- the log with one event more

-- the configuration after the active one, with all contents: these loads, and then those that are kept
abbrev pub standing_after : StandingView → List LoadView → StandingView
standing_after s loads = record { identity = s.identity; bank = 1 - s.bank; sequence = s.sequence + 1; loads = with_kept loads s.loads }

abbrev pub standing_in : StandingView → WholeRow → StandingView
standing_in s (Writes_completion e loads) = standing_after s loads
standing_in s row = s

-- a session with these transfers more, which end beside this configuration
abbrev pub with_done : Accepts → (active : StandingView) → TargetSessionLog → List Transfer → TargetSessionLog
with_done accepts active s ended = record { row = row_of accepts active s.row ended; done = s.done ++ ended }

abbrev pub reading_turned : Reading → TargetReading → TargetSessionLog → TargetReading
reading_turned end r s = record { end = end; live = Some s; active = standing_in r.active s.row; reason = later_reason r.reason (reason_in s.row) }

abbrev pub reading_without_port : Reading → TargetReading → TargetSessionLog → TargetReading
reading_without_port end r s = record { end = end; live = None; active = standing_in r.active s.row; reason = Some reasons.PortsSpent }

abbrev pub log_turned : Accepts → (Reading → TargetReading → TargetSessionLog → TargetReading) → Reading → TargetReading → Option TargetSessionLog → TargetReading
log_turned accepts turned end r None = record { end = end; live = None; active = r.active; reason = r.reason }
log_turned accepts turned end r (Some s) = turned end r (with_done accepts r.active s (newest end.past))

abbrev pub target_reading_changed : Accepts → Reading → TargetReading → TargetChange → TargetReading
target_reading_changed accepts end r (Continues more) = record { end = end; live = r.live; active = r.active; reason = r.reason }
target_reading_changed accepts end r (Begins kind) = reading_turned end r (new_session kind r.active.sequence)
target_reading_changed accepts end r (Turns move more) = log_turned accepts reading_turned end r r.live
target_reading_changed accepts end r (Turns_without_port move more) = log_turned accepts reading_without_port end r r.live
target_reading_changed accepts end r (Ends reason) = record { end = end; live = None; active = r.active; reason = later_reason r.reason reason }

abbrev pub target_extended : Accepts → TargetReading → Event → TargetReading
target_extended accepts r e =
    target_reading_changed accepts (readings_after sides.Target r.end (target_decision accepts (target_view r) e).moves) r (target_decision accepts (target_view r) e).change

-- What a log says of a target that came up with this first port and this active configuration; the newest event first.
abbrev pub target_reading : Accepts → (first_port : ℕ) → StandingView → List Event → TargetReading
target_reading accepts first_port active [] = new_target_reading first_port active
target_reading accepts first_port active (e ∷ earlier) = target_extended accepts (target_reading accepts first_port active earlier) e
