-- What the loader's log says (docs/EXCHANGE.md, "The loader").
use Rattle.std.specs.Prelude.{List, [], ◌∷◌, ◌++◌, Option, Some, None}
use Rattle.exchange_trace.specs.declared.trace.Side.TheVariants as sides
use Rattle.exchange_trace.specs.Happenings.{DatagramView}
use Rattle.exchange_trace.specs.Logs.{Event}
use Rattle.transfer_end.specs.Transfers.{Transfer, arriving_in}
use Rattle.transfer_end.specs.Readings.{Reading, new_reading}
use Rattle.transfer_end.specs.Views.{end_view}
use Rattle.transfer_end.specs.Moves.{readings_after}
use Rattle.session_rules.specs.declared.outcome.Outcome.TheVariants.{Replaced}
use Rattle.session_rules.specs.Buffers.{buffered}
use Rattle.session_rules.specs.LoaderRows.{row_of}
use Rattle.session_rules.specs.Loader.{Advances, Begins, Begins_over, Continues, EndedSession, Ends, LoaderChange, LoaderSession, LoaderView, Start, ended_by, loader_decision, loader_posts}
use Rattle.session_rules.specs.MediaFiles.{Media}

-- a session with all its transfers that are over, the oldest first
pub record SessionLog : Type 0 where
  pub start : Start
  pub done : List Transfer

-- all transfers with all their packets, the live session with its transfers, and what the others came to
pub record LoaderReading : Type 0 where
  pub end : Reading
  pub live : Option SessionLog
  pub ended : List EndedSession

abbrev pub new_loader_reading : LoaderReading
new_loader_reading = record { end = new_reading 1024; live = None; ended = [] }

-- ---- what is kept of it

abbrev pub session_view : Reading → Option SessionLog → Option LoaderSession
session_view r None = None
session_view r (Some s) = Some (record { start = s.start; row = row_of s.start.kind s.done; arriving = buffered (arriving_in r.live) })

abbrev pub loader_view : LoaderReading → LoaderView
loader_view r = record { end = end_view r.end; live = session_view r.end r.live; ended = r.ended }

-- What is due at an event, by what the log says before it.
abbrev pub loader_due : Media → LoaderReading → Event → List DatagramView
loader_due media r e = loader_posts media (loader_view r) e

-- ---- the log with one event more

-- the transfer that ended last
abbrev pub newest : List Transfer → List Transfer
newest [] = []
newest (t ∷ earlier) = t ∷ []

abbrev pub with_done : Option SessionLog → List Transfer → Option SessionLog
with_done None ended = None
with_done (Some s) ended = Some (record { start = s.start; done = s.done ++ ended })

abbrev pub loader_reading_changed : Reading → LoaderReading → LoaderChange → LoaderReading
loader_reading_changed end r (Continues more) = record { end = end; live = r.live; ended = r.ended }
loader_reading_changed end r Advances = record { end = end; live = with_done r.live (newest end.past); ended = r.ended }
loader_reading_changed end r (Ends outcome more) = record { end = end; live = None; ended = ended_by outcome more (session_view r.end r.live) r.ended }
loader_reading_changed end r (Begins s) = record { end = end; live = Some (record { start = s; done = [] }); ended = ended_by Replaced [] (session_view r.end r.live) r.ended }
loader_reading_changed end r (Begins_over kind outcome) = record { end = end; live = None; ended = record { kind = kind; outcome = outcome; listed = None } ∷ ended_by Replaced [] (session_view r.end r.live) r.ended }

abbrev pub loader_extended : Media → LoaderReading → Event → LoaderReading
loader_extended media r e =
    loader_reading_changed (readings_after sides.Loader r.end (loader_decision media (loader_view r) e).moves) r (loader_decision media (loader_view r) e).change

-- what a log says, the newest event first
abbrev pub loader_reading : Media → List Event → LoaderReading
loader_reading media [] = new_loader_reading
loader_reading media (e ∷ earlier) = loader_extended media (loader_reading media earlier) e
