-- The transfers of the loader's rows, and how its sessions are completed (docs/EXCHANGE.md, "The loader").
use Rattle.std.specs.Prelude.{◌≡◌, ℕ, ◌<◌, List, [], ◌∷◌, true, false, Option, Some, None, ⊤}
use Rattle.field_grammar.specs.Answers.{answer}
use Rattle.std.specs.Result.{result_ok}
use Rattle.load_protocol_files.specs.Lcl.{lcl}
use Rattle.tftp_packet.specs.Packets.{Error, PacketView}
use Rattle.tftp_link.specs.Answers.{TakesLast}
use Rattle.exchange_trace.specs.declared.trace.Side.TheVariants as sides
use Rattle.exchange_trace.specs.Logs.{Event}
use Rattle.transfer_end.specs.Moves.{Move, past_with, readings_after}
use Rattle.transfer_end.specs.OtherEnds.{is_asking}
use Rattle.transfer_end.specs.Readings.{Reading, mark_in}
use Rattle.transfer_end.specs.Transfers.{Role, ServesWrite, Transfer, Writes, arriving_in, arrived_of, end_answer, end_in, is_received, with_packet}
use Rattle.session_rules.specs.declared.outcome.FileKind.TheVariants.{Lcl, Lcs, Lus}
use Rattle.session_rules.specs.declared.outcome.Outcome.TheVariants.{Completed}
use Rattle.session_rules.specs.declared.outcome.SessionKind.TheVariants.{Info}
use Rattle.session_rules.specs.Buffers.{buffered, buffered_more}
use Rattle.session_rules.specs.FileNames.{file_name}
use Rattle.session_rules.specs.Loader.{Advances, Begins, Begins_over, Continues, EndedSession, Ends, LoaderChange, Start}
use Rattle.session_rules.specs.LoaderLog.{LoaderReading, SessionLog, loader_extended, loader_reading}
use Rattle.session_rules.specs.LoaderRows.{Comes_to, LoaderRow, Serves_files, Takes_lcl, Takes_lcs, Takes_lus, Writes_lur, file_turn, first_row, row_after, row_of}
use Rattle.session_rules.specs.MediaFiles.{Media}
use Rattle.session_rules.specs.Reports.{lur_file}
use Rattle.session_rules.specs.Sessions.{started_by}

-- the side took a request to write the file of this name
abbrev pub TakesFile : List ℕ → Role → Type 0
TakesFile wanted (ServesWrite name options) = name ≡ wanted
TakesFile wanted role = ⊥

-- the side asked to write the request for the loads of a start
abbrev pub WritesLur : Start → Role → Type 0
WritesLur start (Writes name options file) = file ≡ lur_file start.loads
WritesLur start role = ⊥

-- In a row in which the loader takes a file of one kind, or writes its request, the transfer is of that file; where it reads a
-- file, it asks; where it serves files, it serves.
abbrev pub IsOfLoaderRow : Start → LoaderRow → Role → Type 0
IsOfLoaderRow start Takes_lcs role = TakesFile (file_name start.hw start.pos Lcs) role
IsOfLoaderRow start Takes_lcl role = TakesFile (file_name start.hw start.pos Lcl) role
IsOfLoaderRow start Takes_lus role = TakesFile (file_name start.hw start.pos Lus) role
IsOfLoaderRow start Writes_lur role = WritesLur start role
IsOfLoaderRow start Serves_files role = is_asking role ≡ false
IsOfLoaderRow start row role = is_asking role ≡ true

-- so it is of the transfer that is live, if one is
abbrev pub LoaderLiveFits : Start → LoaderRow → Option Transfer → Type 0
LoaderLiveFits start row None = ⊤
LoaderLiveFits start row (Some t) = IsOfLoaderRow start row t.role

abbrev pub loader_row : SessionLog → LoaderRow
loader_row s = row_of s.start.kind s.done

-- the other end's port, which is known, is above each of these transfers' other ends
abbrev pub IsAboveMark : Option ℕ → List Transfer → Type 0
IsAboveMark None past = ⊥
IsAboveMark (Some peer) past = mark_in past < peer

-- a live transfer that serves has its request from a port above the mark
abbrev pub ServedIsFresh : Option Transfer → (past : List Transfer) → Type 0
ServedIsFresh None past = ⊤
ServedIsFresh (Some t) past = is_asking t.role ≡ false → IsAboveMark t.peer past

abbrev pub LoaderRoleFits : Reading → Option SessionLog → Type 0
LoaderRoleFits end None = ⊤
LoaderRoleFits end (Some s) = LoaderLiveFits s.start (loader_row s) end.live × ServedIsFresh end.live end.past

-- At each moment the live transfer of a session of the loader is of its row, and if it serves, its request came from a port
-- above the mark.
abbrev pub LoaderRolesFit : Type 0
LoaderRolesFit = (media : Media) (log : List Event) → LoaderRoleFits (loader_reading media log).end (loader_reading media log).live

-- ---- how a session is completed

-- The last file of a session, of its row, made it completed: the transfer that was live took it whole.
pub record EndsByFile (end : Reading) (s : SessionLog) (moves : List Move) (more : List ℕ) : Type 0 where
  pub live : Transfer
  pub was_live : end.live ≡ Some live
  pub from : ℕ
  pub packet : PacketView
  pub past : (readings_after sides.Loader end moves).past ≡ with_packet live from packet ∷ end.past
  pub free : (readings_after sides.Loader end moves).live ≡ None
  pub last : end_answer (end_in live) packet ≡ TakesLast more
  pub turn : file_turn (loader_row s) (buffered_more (buffered (arriving_in end.live)) more) ≡ Comes_to Completed

abbrev pub IsNoError : PacketView → Type 0
IsNoError (Error code message) = ⊥
IsNoError packet = ⊤

-- the transfer that was live is over, by a packet that was no ERROR
pub record EndsLive (end : Reading) (moves : List Move) : Type 0 where
  pub live : Transfer
  pub was_live : end.live ≡ Some live
  pub from : ℕ
  pub packet : PacketView
  pub no_error : IsNoError packet
  pub past : (readings_after sides.Loader end moves).past ≡ with_packet live from packet ∷ end.past

abbrev pub IsFreshAfter : Reading → List Move → Type 0
IsFreshAfter end moves = ServedIsFresh (readings_after sides.Loader end moves).live (readings_after sides.Loader end moves).past

-- what a change of the session asks of the moves beside it
abbrev pub FitsLoaderChange : Reading → Option SessionLog → List Move → LoaderChange → Type 0
FitsLoaderChange end live moves (Begins start) =
    LoaderLiveFits start (first_row start.kind) (readings_after sides.Loader end moves).live
    × ((readings_after sides.Loader end moves).past ≡ past_with end.live end.past)
    × IsFreshAfter end moves
FitsLoaderChange end live moves (Begins_over kind outcome) = outcome ≡ Completed → ⊥
FitsLoaderChange end None moves change = ⊤
FitsLoaderChange end (Some s) moves (Continues more) =
    (LoaderLiveFits s.start (loader_row s) end.live → LoaderLiveFits s.start (loader_row s) (readings_after sides.Loader end moves).live)
    × ((readings_after sides.Loader end moves).past ≡ end.past)
    × (ServedIsFresh end.live end.past → IsFreshAfter end moves)
FitsLoaderChange end (Some s) moves Advances =
    LoaderLiveFits s.start (row_after (loader_row s)) (readings_after sides.Loader end moves).live × EndsLive end moves × IsFreshAfter end moves
FitsLoaderChange end (Some s) moves (Ends outcome more) = outcome ≡ Completed → EndsByFile end s moves more

-- An event that starts nothing ends the live session with its live transfer, which gets a packet more.
pub record EndsWithLive (media : Media) (r : LoaderReading) (e : Event) : Type 0 where
  pub session : SessionLog
  pub was_live : r.live ≡ Some session
  pub no_start : started_by e ≡ []
  pub live : Transfer
  pub going : r.end.live ≡ Some live
  pub from : ℕ
  pub packet : PacketView
  pub transfer : Transfer
  pub is : transfer ≡ with_packet live from packet
  pub past : (loader_extended media r e).end.past ≡ transfer ∷ r.end.past
  pub free : (loader_extended media r e).end.live ≡ None

-- A completed information session ends so in its last row, and lists what the LCL says that arrived whole.
pub record ListsArrived (media : Media) (r : LoaderReading) (e : Event) (listing : EndedSession) : Type 0 where
  pub ends : EndsWithLive media r e
  pub info : ends.session.start.kind ≡ Info
  pub row : loader_row ends.session ≡ Takes_lcl
  pub role : TakesFile (file_name ends.session.start.hw ends.session.start.pos Lcl) ends.transfer.role
  pub received : is_received (end_in ends.transfer) ≡ true
  pub listed : listing.listed ≡ result_ok (answer lcl (arrived_of ends.transfer))

-- So it is in each log of the loader, with each event that completes one.
abbrev pub CompletedListsArrived : Type 0
CompletedListsArrived = (media : Media) (log : List Event) (e : Event) (session : EndedSession) → (loader_reading media (e ∷ log)).ended ≡ session ∷ (loader_reading media log).ended → session.kind ≡ Info
    → session.outcome ≡ Completed → ListsArrived media (loader_reading media log) e session
