-- The target's sessions with all contents, event by event (docs/EXCHANGE.md, "The target").
use Rattle.std.specs.Prelude.{◌≡◌, ℕ, List, [], ◌∷◌, ◌++◌, Option, Some, None, option_map}
use Rattle.disk_layout.specs.Holds.{Outline, StandingView, outline_of}
use Rattle.exchange_trace.specs.Logs.{Event}
use Rattle.transfer_end.specs.Readings.{Reading}
use Rattle.transfer_end.specs.Transfers.{arriving_in}
use Rattle.accept_rules.specs.Permissions.{Accepts}
use Rattle.session_rules.specs.Target.{Begins, Continues, Ends, TargetChange, TargetSession, TargetView, Turns, Turns_without_port, target_decision}
use Rattle.session_rules.specs.TargetLog.{TargetReading, TargetSessionLog, standing_in, target_reading, target_view}
use Rattle.session_rules.specs.TargetRows.{RowMove, WholeRow, arriving_of, first_row, row_move, row_moved, row_view, view_moved, with_bytes}

-- a session: its next row, and what has arrived of the row's file
pub record SessionContents : Type 0 where
  pub row : WholeRow
  pub arrived : List ℕ

-- the active configuration, and the live session
pub record TargetContents : Type 0 where
  pub active : StandingView
  pub live : Option SessionContents

-- ---- what is kept of them

abbrev pub session_kept : SessionContents → TargetSession
session_kept s = record { row = row_view s.row; arriving = arriving_of (row_view s.row) s.arrived }

-- a target keeps what there is to keep of these
pub record AreKept (c : TargetContents) (v : TargetView) : Type 0 where
  pub active : v.active ≡ outline_of c.active
  pub live : v.live ≡ option_map session_kept c.live

-- What is kept goes on with the bytes that come, and turns to the row that the contents turn to.
pub record ContentsAreKept : Type 0 where
  pub more : (row : WholeRow) (first rest : List ℕ) → with_bytes (arriving_of (row_view row) first) rest ≡ arriving_of (row_view row) (first ++ rest)
  pub moved : (accepts : Accepts) (active : Outline) (row : WholeRow) (error : Option ℕ) (bytes : List ℕ)
      → view_moved (row_view row) (arriving_of (row_view row) bytes) (row_move accepts active (row_view row) (record { error = error; arriving = arriving_of (row_view row) bytes }))
      ≡ row_view (row_moved row bytes (row_move accepts active (row_view row) (record { error = error; arriving = arriving_of (row_view row) bytes })))

-- ---- after an event

-- more of a file arrives
abbrev pub contents_continued : Option SessionContents → (more : List ℕ) → Option SessionContents
contents_continued None more = None
contents_continued (Some s) more = Some (record { row = s.row; arrived = s.arrived ++ more })

-- a row is reached, and nothing of its file has arrived
abbrev pub reached : StandingView → WholeRow → TargetContents
reached active row = record { active = standing_in active row; live = Some (record { row = row; arrived = [] }) }

-- a row is reached, and the session ends
abbrev pub reached_last : StandingView → WholeRow → TargetContents
reached_last active row = record { active = standing_in active row; live = None }

-- a live session turns to the row after its own
abbrev pub contents_turned : (StandingView → WholeRow → TargetContents) → StandingView → Option SessionContents → RowMove → (more : List ℕ) → TargetContents
contents_turned turned active None move more = record { active = active; live = None }
contents_turned turned active (Some s) move more = turned active (row_moved s.row (s.arrived ++ more) move)

abbrev pub contents_changed : TargetContents → TargetChange → TargetContents
contents_changed c (Continues more) = record { active = c.active; live = contents_continued c.live more }
contents_changed c (Begins kind) = reached c.active (first_row kind c.active.sequence)
contents_changed c (Turns move more) = contents_turned reached c.active c.live move more
contents_changed c (Turns_without_port move more) = contents_turned reached_last c.active c.live move more
contents_changed c (Ends reason) = record { active = c.active; live = None }

-- after an event, by what the target keeps before it
abbrev pub contents_after : Accepts → TargetView → Event → TargetContents → TargetContents
contents_after accepts v e c = contents_changed c (target_decision accepts v e).change

-- ---- what a log says of them

abbrev pub session_contents : Reading → Option TargetSessionLog → Option SessionContents
session_contents end None = None
session_contents end (Some s) = Some (record { row = s.row; arrived = arriving_in end.live })

abbrev pub contents_of : TargetReading → TargetContents
contents_of r = record { active = r.active; live = session_contents r.end r.live }

-- What a target keeps is of what its log says, and this changes with each event as the target decides.
abbrev pub ContentsFollow : Type 0
ContentsFollow = ((r : TargetReading) → AreKept (contents_of r) (target_view r))
    × ((accepts : Accepts) (first_port : ℕ) (active : StandingView) (log : List Event) (e : Event)
    → contents_of (target_reading accepts first_port active (e ∷ log))
    ≡ contents_after accepts (target_view (target_reading accepts first_port active log)) e (contents_of (target_reading accepts first_port active log)))
