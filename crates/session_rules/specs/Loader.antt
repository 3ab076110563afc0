-- What the loader does (docs/EXCHANGE.md, "The loader").
use Rattle.std.specs.Prelude.{ℕ, List, [], ◌∷◌, ◌++◌, length, nat_lt, ◌==◌, bytes_eq, Option, Some, None, Result, Ok, Err, if◌then◌else◌}
use Rattle.std.specs.Result.{result_ok}
use Rattle.field_grammar.specs.Answers.{answer}
use Rattle.load_protocol_files.specs.declared.lur.Wanted.{Wanted}
use Rattle.load_protocol_files.specs.Lcl.{LclView, lcl}
use Rattle.tftp_packet.specs.declared.options.Options.{Options}
use Rattle.tftp_packet.specs.Packets.{PacketView, Rrq, Wrq}
use Rattle.tftp_link.specs.Answers.{Answer, TakesBlock, TakesLast, Completes, Fails}
use Rattle.exchange_trace.specs.declared.trace.Side.TheVariants as sides
use Rattle.exchange_trace.specs.Happenings.{DatagramView}
use Rattle.exchange_trace.specs.Logs.{Event, Starts_info, Starts_upload, Gets, Ticks, Learns}
use Rattle.transfer_end.specs.Transfers.{Role, Reads, Writes, ServesRead, ServesWrite}
use Rattle.transfer_end.specs.Views.{EndView, new_end}
use Rattle.transfer_end.specs.Moves.{Move, Asks, Serves, Refuses, Repeats, Stops, Asks_size, views_after, all_posts}
use Rattle.transfer_end.specs.Packets.{packet_in, heard_answer, transfer_moves, is_busy, has_port, is_fresh, may_repeat, wanted_options}
use Rattle.session_rules.specs.declared.outcome.FileKind.{FileKind}
use Rattle.session_rules.specs.declared.outcome.FileKind.TheVariants.{Lci, Lui, Lur}
use Rattle.session_rules.specs.declared.outcome.SessionKind.{SessionKind}
use Rattle.session_rules.specs.declared.outcome.SessionKind.TheVariants.{Info, Upload}
use Rattle.session_rules.specs.declared.outcome.Outcome.{Outcome}
use Rattle.session_rules.specs.declared.outcome.Outcome.TheVariants.{Completed, GaveUp, PeerError, NotOnMedia, TooMany, Replaced, PortsSpent}
use Rattle.session_rules.specs.Buffers.{Buffer, empty_buffer, buffered_more}
use Rattle.session_rules.specs.FileNames.{file_name}
use Rattle.session_rules.specs.LoaderRows.{LoaderRow, Reads_lci, Reads_lui, Writes_lur, RowTurn, Goes_on, Comes_to, first_row, row_after, kind_taken, serves_files, file_turn}
use Rattle.session_rules.specs.MediaFiles.{Media, wanted_of}
use Rattle.session_rules.specs.Reports.{lur_file}

-- how a session was started: the target's hardware and position, and the loads that an upload asks for
pub record Start : Type 0 where
  pub kind : SessionKind
  pub hw : List ℕ
  pub pos : List ℕ
  pub loads : List Wanted

-- ---- what the loader keeps

-- the live session: its next row, and what arrived so far of a file
pub record LoaderSession : Type 0 where
  pub start : Start
  pub row : LoaderRow
  pub arriving : Buffer

-- a session that is over; one of the information operation that was completed has what is installed
pub record EndedSession : Type 0 where
  pub kind : SessionKind
  pub outcome : Outcome
  pub listed : Option LclView

pub record LoaderView : Type 0 where
  pub end : EndView
  pub live : Option LoaderSession
  pub ended : List EndedSession  -- the newest first

abbrev pub new_loader : LoaderView
new_loader = record { end = new_end 1024; live = None; ended = [] }

-- ---- what it decides

-- what becomes of the session
pub data LoaderChange : Type 0 where
  Continues : (more : List ℕ) → LoaderChange  -- it stays in its row, with these bytes more of a file
  Advances : LoaderChange  -- a transfer is over, and its row finished
  Ends : Outcome → (more : List ℕ) → LoaderChange  -- it ends, with these bytes as the last of a file
  Begins : Start → LoaderChange  -- another session begins; a live one is replaced
  Begins_over : SessionKind → Outcome → LoaderChange  -- another begins and is over at once; a live one is replaced

-- the moves of its end, which say what is posted, and what becomes of the session
pub record LoaderDecision : Type 0 where
  pub moves : List Move
  pub change : LoaderChange

abbrev pub doing : List Move → LoaderDecision
doing moves = record { moves = moves; change = Continues [] }

abbrev pub nothing : LoaderDecision
nothing = doing []

-- the session ends
abbrev pub ending : Outcome → LoaderDecision
ending outcome = record { moves = Stops ∷ []; change = Ends outcome [] }

-- ---- starts

-- the request that a row asks for, where it is the loader's to ask
abbrev pub row_request : (asks_size : Option ℕ) → Start → LoaderRow → Option Role
row_request asks_size s Reads_lci = Some (Reads (file_name s.hw s.pos Lci) (wanted_options asks_size 0))
row_request asks_size s Reads_lui = Some (Reads (file_name s.hw s.pos Lui) (wanted_options asks_size 0))
row_request asks_size s Writes_lur = Some (Writes (file_name s.hw s.pos Lur) (wanted_options asks_size (length (lur_file s.loads))) (lur_file s.loads))
row_request asks_size s row = None

-- a session begins with its first request, if a port is left
abbrev pub begin_with : EndView → Start → Option Role → LoaderDecision
begin_with v s None = nothing
begin_with v s (Some role) =
    if has_port v then record { moves = Stops ∷ Asks role ∷ []; change = Begins s }
    else record { moves = Stops ∷ []; change = Begins_over s.kind PortsSpent }

abbrev pub start_decision : EndView → Start → LoaderDecision
start_decision v s = begin_with v s (row_request v.asks_size s (first_row s.kind))

abbrev pub refused_upload : Outcome → LoaderDecision
refused_upload outcome = record { moves = Stops ∷ []; change = Begins_over Upload outcome }

abbrev pub listed_upload : EndView → (hw pos : List ℕ) → Result (List Wanted) (List ℕ) → LoaderDecision
listed_upload v hw pos (Ok loads) = start_decision v (record { kind = Upload; hw = hw; pos = pos; loads = loads })
listed_upload v hw pos (Err part) = refused_upload (NotOnMedia part)

-- 32 parts at most, all of them on the media
abbrev pub upload_decision : Media → EndView → (hw pos : List ℕ) → List (List ℕ) → LoaderDecision
upload_decision media v hw pos parts =
    if nat_lt 32 (length parts) then refused_upload TooMany else listed_upload v hw pos (wanted_of media.loads parts)

-- ---- requests to the loader

-- a request that the row awaits is taken from a fresh port; where no port is left to draw, the session ends
abbrev pub take_request : EndView → (from : ℕ) → Role → LoaderDecision
take_request v from role =
    if is_fresh v from then (if has_port v then doing (Serves from role ∷ []) else ending PortsSpent)
    else nothing

-- to read a file; one that the media set doesn't hold is refused
abbrev pub read_decision : EndView → (from : ℕ) → (name : List ℕ) → Options → Option (List ℕ) → LoaderDecision
read_decision v from name options None = doing (Refuses from ∷ [])
read_decision v from name options (Some file) = take_request v from (ServesRead name options file)

-- to write a file of the kind that the row takes
abbrev pub write_decision : EndView → Start → (from : ℕ) → (name : List ℕ) → Options → Option FileKind → LoaderDecision
write_decision v s from name options None = nothing
write_decision v s from name options (Some kind) =
    if bytes_eq name (file_name s.hw s.pos kind) then take_request v from (ServesWrite name options) else nothing

-- a packet to port 59, while no transfer is live
abbrev pub request_decision : Media → EndView → LoaderSession → (from : ℕ) → PacketView → LoaderDecision
request_decision media v s from (Rrq name options) =
    if serves_files s.row then read_decision v from name options (media.file name) else nothing
request_decision media v s from (Wrq name options) = write_decision v s.start from name options (kind_taken s.row)
request_decision media v s from packet = nothing

-- ---- packets of a transfer

-- the next row begins with a request of the loader's own, or the loader waits
abbrev pub next_decision : EndView → List Move → (more : List ℕ) → Option Role → LoaderDecision
next_decision v heard more None = record { moves = heard; change = Advances }
next_decision v heard more (Some role) =
    if has_port v then record { moves = heard ++ Asks role ∷ []; change = Advances }
    else record { moves = heard ++ Stops ∷ []; change = Ends PortsSpent more }

-- a transfer is over
abbrev pub turn_decision : EndView → LoaderSession → List Move → (more : List ℕ) → RowTurn → LoaderDecision
turn_decision v s heard more Goes_on = next_decision v heard more (row_request v.asks_size s.start (row_after s.row))
turn_decision v s heard more (Comes_to outcome) = record { moves = heard ++ Stops ∷ []; change = Ends outcome more }

-- by what a packet is to the live transfer
abbrev pub answer_decision : EndView → LoaderSession → List Move → Answer → LoaderDecision
answer_decision v s heard (TakesBlock payload) = record { moves = heard; change = Continues payload }
answer_decision v s heard (TakesLast payload) = turn_decision v s heard payload (file_turn s.row (buffered_more s.arriving payload))
answer_decision v s heard Completes = turn_decision v s heard [] Goes_on
answer_decision v s heard (Fails code) = turn_decision v s heard [] (Comes_to (PeerError code))
answer_decision v s heard other = doing heard

-- ---- events

-- a packet, while a session is live
abbrev pub packet_decision : Media → EndView → LoaderSession → (from to : ℕ) → PacketView → LoaderDecision
packet_decision media v s from to packet =
    if to == 59 then (if is_busy v then nothing else request_decision media v s from packet)
    else answer_decision v s (transfer_moves v from to packet) (heard_answer v from to packet)

-- a packet, while a session is live or none is
abbrev pub session_decision : Media → EndView → Option LoaderSession → (from to : ℕ) → PacketView → LoaderDecision
session_decision media v None from to packet = if to == 59 then nothing else doing (transfer_moves v from to packet)
session_decision media v (Some s) from to packet = packet_decision media v s from to packet

-- bytes that spell no packet are dropped
abbrev pub got_decision : Media → LoaderView → (from to : ℕ) → Option PacketView → LoaderDecision
got_decision media v from to None = nothing
got_decision media v from to (Some packet) = session_decision media v.end v.live from to packet

-- a tick repeats the last datagram of a live session, or gives it up
abbrev pub tick_decision : EndView → Option LoaderSession → LoaderDecision
tick_decision v None = nothing
tick_decision v (Some s) = if may_repeat v then doing (Repeats ∷ []) else ending GaveUp

-- what the loader does at an event
abbrev pub loader_decision : Media → LoaderView → Event → LoaderDecision
loader_decision media v (Starts_info hw pos) = start_decision v.end (record { kind = Info; hw = hw; pos = pos; loads = [] })
loader_decision media v (Starts_upload hw pos parts) = upload_decision media v.end hw pos parts
loader_decision media v (Gets from to bytes) = got_decision media v from to (packet_in bytes)
loader_decision media v Ticks = tick_decision v.end v.live
loader_decision media v (Learns size) = doing (Asks_size size ∷ [])

-- what it posts
abbrev pub loader_posts : Media → LoaderView → Event → List DatagramView
loader_posts media v e = all_posts sides.Loader v.end (loader_decision media v e).moves

-- ---- what it keeps then

-- what the LCL says that completed an information operation
abbrev pub listed_by : SessionKind → Outcome → List ℕ → Option LclView
listed_by Info Completed bytes = result_ok (answer lcl bytes)
listed_by kind outcome bytes = None

abbrev pub ended_as : SessionKind → Outcome → List ℕ → EndedSession
ended_as kind outcome bytes = record { kind = kind; outcome = outcome; listed = listed_by kind outcome bytes }

-- a live session ends, with these bytes as the last of a file
abbrev pub ended_by : Outcome → (more : List ℕ) → Option LoaderSession → List EndedSession → List EndedSession
ended_by outcome more None ended = ended
ended_by outcome more (Some s) ended = ended_as s.start.kind outcome (buffered_more s.arriving more).prefix ∷ ended

abbrev pub continued : Option LoaderSession → (more : List ℕ) → Option LoaderSession
continued None more = None
continued (Some s) more = Some (record { start = s.start; row = s.row; arriving = buffered_more s.arriving more })

abbrev pub advanced : Option LoaderSession → Option LoaderSession
advanced None = None
advanced (Some s) = Some (record { start = s.start; row = row_after s.row; arriving = empty_buffer })

abbrev pub begun : Start → LoaderSession
begun s = record { start = s; row = first_row s.kind; arriving = empty_buffer }

abbrev pub loader_changed : EndView → LoaderView → LoaderChange → LoaderView
loader_changed end v (Continues more) = record { end = end; live = continued v.live more; ended = v.ended }
loader_changed end v Advances = record { end = end; live = advanced v.live; ended = v.ended }
loader_changed end v (Ends outcome more) = record { end = end; live = None; ended = ended_by outcome more v.live v.ended }
loader_changed end v (Begins s) = record { end = end; live = Some (begun s); ended = ended_by Replaced [] v.live v.ended }
loader_changed end v (Begins_over kind outcome) = record { end = end; live = None; ended = record { kind = kind; outcome = outcome; listed = None } ∷ ended_by Replaced [] v.live v.ended }

-- what the loader keeps after an event
abbrev pub loader_after : Media → LoaderView → Event → LoaderView
loader_after media v e = loader_changed (views_after sides.Loader v.end (loader_decision media v e).moves) v (loader_decision media v e).change
