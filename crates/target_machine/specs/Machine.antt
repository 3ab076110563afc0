-- What the target's types mean (docs/EXCHANGE.md, "The target").
use Rattle.std.specs.Prelude.{ℕ, ◌+◌, List, length, take, Option, Some, None}
use Rattle.disk_layout.specs.Manifest.{LoadEntry}
use Rattle.session_rules.specs.Buffers.{Buffer}
use Rattle.session_rules.specs.Target.{TargetSession}
use Rattle.session_rules.specs.TargetRows.{Arriving, Kept_bytes, RowView, Gives_lci, Writes_lcs, Writes_lcl, Gives_lui, Gives_denial, Writes_ready, Awaits_lur, Reads_file, Writes_progress, Writes_stop, Writes_completion, Over, with_bytes}
use Rattle.load_intake.specs.Held.{contents_kept}
use Rattle.load_intake.specs.Intakes.{end_view}
use Rattle.target_machine.specs.declared.row.Row.{Row}
use Rattle.target_machine.specs.declared.row.Row.TheVariants as rows
use Rattle.target_machine.specs.declared.session.LiveSession.{LiveSession}

-- a row, where these loads are active; after an installation those that were asked for stand first among them
abbrev pub row_seen : List LoadEntry → Row → RowView
row_seen active rows.GivesLci = Gives_lci
row_seen active rows.WritesLcs = Writes_lcs
row_seen active rows.WritesLcl = Writes_lcl
row_seen active rows.GivesLui = Gives_lui
row_seen active rows.GivesDenial = Gives_denial
row_seen active rows.WritesReady = Writes_ready
row_seen active rows.AwaitsLur = Awaits_lur
row_seen active (rows.ReadsFile intake) = Reads_file intake.upload
row_seen active (rows.WritesProgress intake) = Writes_progress intake.upload
row_seen active (rows.WritesStop end) = Writes_stop (end_view end)
row_seen active (rows.WritesCompletion end) = Writes_completion (end_view end) (take (length end.request.items) active)

-- the next row, if the session isn't over
abbrev pub next_seen : List LoadEntry → Option Row → RowView
next_seen active None = Over
next_seen active (Some row) = row_seen active row

-- what is kept of the file that arrives in a row: of a load's file its intake keeps it
abbrev pub arriving_in : Row → Buffer → Arriving
arriving_in (rows.ReadsFile intake) buffer = intake.arriving
arriving_in row buffer = Kept_bytes buffer

-- a session in a row, with this in its own buffer
abbrev pub seen_at : List LoadEntry → Row → Buffer → TargetSession
seen_at active row buffer = record { row = row_seen active row; arriving = arriving_in row buffer }

abbrev pub session_seen : List LoadEntry → LiveSession → TargetSession
session_seen active s = seen_at active s.row s.arriving

-- with these bytes more of a file
abbrev pub session_with : TargetSession → List ℕ → TargetSession
session_with s more = record { row = s.row; arriving = with_bytes s.arriving more }

-- ---- bytes of the contents of files

-- how many are kept of the request or the header that arrives
abbrev pub contents_arriving : Option TargetSession → ℕ
contents_arriving None = 0
contents_arriving (Some s) = contents_kept s.arriving

-- how many the intake of a row holds, in all its lists
abbrev pub row_held : Row → ℕ
row_held (rows.ReadsFile intake) = intake.held
row_held (rows.WritesProgress intake) = intake.held
row_held row = 0

-- and the session, with its own buffer
abbrev pub session_held : LiveSession → ℕ
session_held s = row_held s.row + length s.arriving.prefix

abbrev pub live_held : Option LiveSession → ℕ
live_held None = 0
live_held (Some s) = session_held s
