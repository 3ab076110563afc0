-- What the loader's types mean, and what a call does (docs/EXCHANGE.md, "The loader").
use Rattle.std.specs.Prelude.{◌≡◌, ℕ, ◌-◌, List, [], ◌∷◌, ◌++◌, length, map, reverse, take, Bool, true, false, bytes_eq, option_map, Option, Some, None, Result, Ok, Err, ◌≤◌, ⊤, if◌then◌else◌}
use Rattle.exchange_trace.specs.declared.trace.Side.TheVariants as sides
use Rattle.exchange_trace.specs.Happenings.{DatagramView}
use Rattle.exchange_trace.specs.Logs.{Event}
use Rattle.load_protocol_files.specs.declared.lur.Wanted.{Wanted}
use Rattle.load_protocol_files.specs.Lcl.{LclView, lcl_view}
use Rattle.media_lists.specs.Loads.{LoadEntryView, LoadsListView}
use Rattle.media_check.specs.Sets.{SetView, bytes_of, list_of}
use Rattle.tftp_packet.specs.declared.options.Options.{Options}
use Rattle.tftp_link.specs.Answers.{NewsView, Nothing, Block, Last, Done, PeerError}
use Rattle.transfer_end.specs.Moves.{Move, Asks, all_posts, views_after}
use Rattle.transfer_end.specs.Packets.{has_port, is_fresh}
use Rattle.transfer_end.specs.Transfers.{Role}
use Rattle.transfer_end.specs.Views.{EndView}
use Rattle.session_rules.specs.declared.outcome.Outcome.{Outcome}
use Rattle.session_rules.specs.declared.outcome.FileKind.{FileKind}
use Rattle.session_rules.specs.declared.outcome.SessionKind.{SessionKind}
use Rattle.session_rules.specs.declared.outcome.SessionKind.TheVariants.{Info, Upload}
use Rattle.session_rules.specs.declared.outcome.Outcome.TheVariants as outcomes
use Rattle.session_rules.specs.Buffers.{buffered_more}
use Rattle.session_rules.specs.FileNames.{file_name}
use Rattle.session_rules.specs.Loader as rules
use Rattle.session_rules.specs.Loader.{EndedSession, LoaderDecision, LoaderSession, LoaderView, Continues, listed_by, loader_changed, loader_decision, nothing, read_decision, take_request, turn_decision}
use Rattle.session_rules.specs.LoaderRows.{LoaderRow, Reads_lci, Takes_lcs, Takes_lcl, Reads_lui, Takes_lus, Writes_lur, Serves_files, RowTurn, Goes_on, Comes_to, file_turn, kind_taken, serves_files}
use Rattle.session_rules.specs.MediaFiles.{Media}
use Rattle.loader_machine.specs.declared.requested.Requested.{Requested}
use Rattle.loader_machine.specs.declared.requested.Requested.TheVariants as requested
use Rattle.loader_machine.specs.declared.row.Row.{Row}
use Rattle.loader_machine.specs.declared.row.Row.TheVariants as rows
use Rattle.loader_machine.specs.declared.session.Session.{Session}
use Rattle.loader_machine.specs.declared.session.Start.{Start}
use Rattle.loader_machine.specs.declared.turn.Turn as declared_turn
use Rattle.loader_machine.specs.declared.turn.Turn.TheVariants as turns

-- ---- what the types mean

abbrev pub row_seen : Row → LoaderRow
row_seen rows.ReadsLci = Reads_lci
row_seen rows.TakesLcs = Takes_lcs
row_seen rows.TakesLcl = Takes_lcl
row_seen rows.ReadsLui = Reads_lui
row_seen rows.TakesLus = Takes_lus
row_seen rows.WritesLur = Writes_lur
row_seen rows.ServesFiles = Serves_files

abbrev pub is_information_row : LoaderRow → Bool
is_information_row Reads_lci = true
is_information_row Takes_lcs = true
is_information_row Takes_lcl = true
is_information_row row = false

-- the row is one of the operation
abbrev pub is_row_of : SessionKind → LoaderRow → Bool
is_row_of Info row = is_information_row row
is_row_of Upload Reads_lui = true
is_row_of Upload Takes_lus = true
is_row_of Upload Writes_lur = true
is_row_of Upload Serves_files = true
is_row_of Upload row = false

abbrev pub start_view : Start → rules.Start
start_view s = record { kind = s.kind; hw = s.hw; pos = s.pos; loads = s.request.loads.items }

abbrev pub session_view : Session → EndedSession
session_view s = record { kind = s.kind; outcome = s.outcome; listed = option_map lcl_view s.listed }

-- The live session, if there is one, stands last.
abbrev pub settled : {T : Type 0} → (live : Bool) → List T → List T
settled false sessions = sessions
settled true sessions = take (length sessions - 1) sessions

-- those that are over, the newest first
abbrev pub ended_view : (live : Bool) → List Session → List EndedSession
ended_view live sessions = reverse (map session_view (settled live sessions))

-- a session that is live
abbrev pub open_session : LoaderSession → EndedSession
open_session s = record { kind = s.start.kind; outcome = outcomes.Open; listed = None }

-- it stands after those that are over
abbrev pub IsOpenLast : Option LoaderSession → List Session → Type 0
IsOpenLast None sessions = ⊤
IsOpenLast (Some s) sessions = (earlier : List EndedSession) × (map session_view sessions ≡ earlier ++ open_session s ∷ [])

abbrev pub open_sessions : Option LoaderSession → List EndedSession
open_sessions None = []
open_sessions (Some s) = open_session s ∷ []

-- all sessions, the oldest first
abbrev pub all_sessions : LoaderView → List EndedSession
all_sessions v = reverse v.ended ++ open_sessions v.live

-- ---- the media set

abbrev pub wanted_entry : LoadEntryView → Wanted
wanted_entry entry = record { header = entry.header_name; part = entry.part }

abbrev pub loads_in : Option LoadsListView → List Wanted
loads_in None = []
loads_in (Some list) = map wanted_entry list.entries

-- what the loader uses of a media set
abbrev pub media_of : SetView → Media
media_of set = record { loads = loads_in (list_of set.first.loads); file = bytes_of set }

-- ---- what a call does

-- the media set, and what the loader keeps
pub record LoaderState : Type 0 where
  pub set : SetView
  pub view : LoaderView

-- A call does what is decided: what the loader keeps then, and all that it posts.
pub record LoaderDoes (decision : LoaderDecision) (before after : LoaderState) (sent : List DatagramView) : Type 0 where
  pub set : after.set ≡ before.set
  pub keeps : after.view ≡ loader_changed (views_after sides.Loader before.view.end decision.moves) before.view decision.change
  pub posts : sent ≡ all_posts sides.Loader before.view.end decision.moves

-- A call takes an event: it does what the loader's rules decide then.
abbrev pub LoaderTakesEvent : Event → (before after : LoaderState) → List DatagramView → Type 0
LoaderTakesEvent e before after sent = LoaderDoes (loader_decision (media_of before.set) before.view e) before after sent

-- ---- files that arrived

abbrev pub turn_seen : declared_turn.Turn → RowTurn
turn_seen turns.GoesOn = Goes_on
turn_seen (turns.ComesTo outcome listed) = Comes_to outcome

-- what is listed then
abbrev pub listed_in : declared_turn.Turn → Option LclView
listed_in turns.GoesOn = None
listed_in (turns.ComesTo outcome listed) = option_map lcl_view listed

-- what a session of this operation lists that comes to this with a file of these bytes
abbrev pub listed_at : SessionKind → RowTurn → List ℕ → Option LclView
listed_at kind Goes_on bytes = None
listed_at kind (Comes_to outcome) bytes = listed_by kind outcome bytes

-- no LCL is listed
pub record ListsNothing (turn : declared_turn.Turn) : Type 0 where
  pub listed : listed_in turn ≡ None
  pub at : (bytes : List ℕ) → listed_at Info (turn_seen turn) bytes ≡ None

-- ---- how a call does it, piece by piece

abbrev pub with_end : LoaderState → EndView → LoaderState
with_end st end = record { set = st.set; view = record { end = end; live = st.view.live; ended = st.view.ended } }

-- the live session, where this is it
abbrev pub with_session : LoaderState → Option LoaderSession → LoaderState
with_session st live = record { set = st.set; view = record { end = st.view.end; live = live; ended = st.view.ended } }

-- one session more is over
abbrev pub with_ended : LoaderState → EndedSession → LoaderState
with_ended st session = record { set = st.set; view = record { end = st.view.end; live = None; ended = session ∷ st.view.ended } }

-- the live session is over, with this outcome, and this is listed
abbrev pub closed : LoaderState → Outcome → Option LclView → LoaderState
closed st outcome listed = closed_if st.view.live
  where
    closed_if : Option LoaderSession → LoaderState
    closed_if None = st
    closed_if (Some s) = with_ended st (record { kind = s.start.kind; outcome = outcome; listed = listed })

-- the move by which this is asked for, if anything is
abbrev pub asking : Option Role → List Move
asking None = []
asking (Some role) = Asks role ∷ []

-- What follows from what is told of a packet that the live transfer got, beside the moves of the transfer.
abbrev pub following : EndView → LoaderSession → NewsView → LoaderDecision
following v s Nothing = nothing
following v s (Block payload) = record { moves = []; change = Continues payload }
following v s (Last payload) = turn_decision v s [] payload (file_turn s.row (buffered_more s.arriving payload))
following v s Done = turn_decision v s [] [] Goes_on
following v s (PeerError code) = turn_decision v s [] [] (Comes_to (outcomes.PeerError code))

-- the row has a request of the loader's own
abbrev pub is_asking : LoaderRow → Bool
is_asking Reads_lci = true
is_asking Reads_lui = true
is_asking Writes_lur = true
is_asking row = false

-- nothing is listed in a session with this outcome
abbrev pub IsUnlisted : Outcome → Type 0
IsUnlisted outcome = (kind : SessionKind) (bytes : List ℕ) → listed_by kind outcome bytes ≡ None

-- whether a request from this port is taken: then nothing has happened yet, and else all has that the request brings
abbrev pub LoaderServes : (taken : Bool) → (from : ℕ) → (before after : LoaderState) → Type 0
LoaderServes true from before after = (after ≡ before) × (is_fresh before.view.end from ≡ true) × (has_port before.view.end ≡ true)
LoaderServes false from before after = (role : Role) → LoaderDoes (take_request before.view.end from role) before after []

-- the row takes a file of this name
abbrev pub awaits_file : LoaderSession → (name : List ℕ) → Bool
awaits_file s name = awaits_kind (kind_taken s.row)
  where
    awaits_kind : Option FileKind → Bool
    awaits_kind None = false
    awaits_kind (Some kind) = bytes_eq name (file_name s.start.hw s.start.pos kind)

-- a request to read a file
abbrev pub reading : Media → EndView → LoaderSession → (from : ℕ) → (name : List ℕ) → Options → LoaderDecision
reading media v s from name options = if serves_files s.row then read_decision v from name options (media.file name) else nothing

-- what the media set lists of some parts: all loads that are wanted, of which there are few, or the first part that isn't listed
abbrev pub IsRequested : Requested → Result (List Wanted) (List ℕ) → Type 0
IsRequested (requested.All request) wanted = (wanted ≡ Ok request.loads.items) × (length request.loads.items ≤ 32)
IsRequested (requested.Unlisted part) wanted = wanted ≡ Err part
