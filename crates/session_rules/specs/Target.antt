-- What the target does (docs/EXCHANGE.md, "The target").
use Rattle.std.specs.Prelude.{ℕ, ◌+◌, ◌-◌, List, [], ◌∷◌, ◌++◌, length, Bool, true, false, bytes_eq, ◌==◌, Option, Some, None, if◌then◌else◌}
use Rattle.disk_layout.specs.Manifest.{LoadEntry}
use Rattle.disk_layout.specs.Holds.{Outline}
use Rattle.tftp_packet.specs.declared.options.Options.{Options}
use Rattle.tftp_packet.specs.Packets.{PacketView, Rrq, Wrq}
use Rattle.tftp_link.specs.Answers.{Answer, TakesBlock, TakesLast, Completes, Fails}
use Rattle.exchange_trace.specs.declared.trace.Side.TheVariants as sides
use Rattle.exchange_trace.specs.Happenings.{DatagramView}
use Rattle.exchange_trace.specs.Logs.{Event, Gets, Ticks, Learns}
use Rattle.transfer_end.specs.Transfers.{Role, Reads, Writes, ServesRead, ServesWrite}
use Rattle.transfer_end.specs.Views.{EndView, new_end}
use Rattle.transfer_end.specs.Moves.{Move, Asks, Serves, Refuses, Repeats, Stops, Asks_size, views_after, all_posts}
use Rattle.transfer_end.specs.Packets.{packet_in, heard_answer, transfer_moves, is_busy, has_port, is_fresh, may_repeat, wanted_options}
use Rattle.accept_rules.specs.Permissions.{Accepts}
use Rattle.session_rules.specs.declared.outcome.FileKind.{FileKind}
use Rattle.session_rules.specs.declared.outcome.FileKind.TheVariants.{Lci, Lcl, Lcs, Lui, Lur, Lus}
use Rattle.session_rules.specs.declared.reason.Reason.{Reason}
use Rattle.session_rules.specs.declared.reason.Reason.TheVariants as reasons
use Rattle.session_rules.specs.FileNames.{file_name}
use Rattle.session_rules.specs.KeptLoads.{with_kept_entries}
use Rattle.session_rules.specs.Reports.{lci_file, accepting_lui, denying_lui, lcs_file, lcl_file, ready_lus, progress_lus, completed_lus, stopped_lus}
use Rattle.session_rules.specs.Uploads.{next_name}
use Rattle.session_rules.specs.TargetRows.{TargetRow, Writes_lcs, Writes_lcl, Gives_denial, Writes_ready, Awaits_lur, Reads_file, Writes_progress, Writes_stop, Writes_completion, Over, UploadEnd, RowView, Arriving, arriving_of, with_bytes, RowMove, row_move, view_moved, first_row}

-- ---- what the target keeps

-- the live session: its next row, and what is kept of a file that arrives
pub record TargetSession : Type 0 where
  pub row : RowView
  pub arriving : Arriving

pub record TargetView : Type 0 where
  pub end : EndView
  pub live : Option TargetSession
  pub active : Outline  -- the active configuration
  pub reason : Option Reason  -- the last one since it came up

abbrev pub new_target : (first_port : ℕ) → Outline → TargetView
new_target first_port active = record { end = new_end first_port; live = None; active = active; reason = None }

-- the name of a file of its own
abbrev pub own_name : TargetView → FileKind → List ℕ
own_name v kind = file_name v.active.identity.hw v.active.identity.pos kind

-- ---- what it decides

pub data TargetChange : Type 0 where
  Continues : (more : List ℕ) → TargetChange  -- the session stays in its row, with these bytes more of a file
  Begins : FileKind → TargetChange  -- a session begins in which this file of the target's own is read; a live one is replaced
  Turns : RowMove → (more : List ℕ) → TargetChange  -- a transfer is over, with these bytes as the last of its file
  Turns_without_port : RowMove → (more : List ℕ) → TargetChange  -- the same, where no port is left for the next request
  Ends : Option Reason → TargetChange  -- the session ends, perhaps for a reason

pub record TargetDecision : Type 0 where
  pub moves : List Move
  pub change : TargetChange

abbrev pub doing : List Move → TargetDecision
doing moves = record { moves = moves; change = Continues [] }

abbrev pub nothing : TargetDecision
nothing = doing []

abbrev pub ending : Option Reason → TargetDecision
ending reason = record { moves = Stops ∷ []; change = Ends reason }

-- a request that would be taken, but no port is left: a live session ends
abbrev pub without_port : Option TargetSession → TargetDecision
without_port None = nothing
without_port (Some s) = ending (Some reasons.PortsSpent)

-- ---- requests to the target

-- the file that is given
abbrev pub own_file : FileKind → (sequence : ℕ) → List ℕ
own_file Lui sequence = if sequence == 4294967295 then denying_lui else accepting_lui
own_file kind sequence = lci_file

-- to read one of its own two files, LCI and LUI: a session begins, also where one is live
abbrev pub own_decision : TargetView → (from : ℕ) → FileKind → (name : List ℕ) → Options → TargetDecision
own_decision v from kind name options =
    if is_fresh v.end from
    then (if has_port v.end then record { moves = Stops ∷ Serves from (ServesRead name options (own_file kind v.active.sequence)) ∷ []; change = Begins kind } else without_port v.live)
    else nothing

-- to read: any other name is refused, unless the target is busy
abbrev pub read_decision : TargetView → (from : ℕ) → (name : List ℕ) → Options → TargetDecision
read_decision v from name options =
    if bytes_eq name (own_name v Lci) then own_decision v from Lci name options
    else if bytes_eq name (own_name v Lui) then own_decision v from Lui name options
    else if is_busy v.end then nothing
    else doing (Refuses from ∷ [])

-- to write: an LUR, where the row awaits it
abbrev pub write_in : TargetView → (from : ℕ) → (name : List ℕ) → Options → RowView → TargetDecision
write_in v from name options Awaits_lur =
    if bytes_eq name (own_name v Lur)
    then (if is_fresh v.end from then (if has_port v.end then doing (Serves from (ServesWrite name options) ∷ []) else without_port v.live) else nothing)
    else nothing
write_in v from name options row = nothing

abbrev pub write_decision : TargetView → (from : ℕ) → (name : List ℕ) → Options → Option TargetSession → TargetDecision
write_decision v from name options None = nothing
write_decision v from name options (Some s) = write_in v from name options s.row

-- a packet to port 59
abbrev pub request_decision : TargetView → (from : ℕ) → PacketView → TargetDecision
request_decision v from (Rrq name options) = read_decision v from name options
request_decision v from (Wrq name options) = if is_busy v.end then nothing else write_decision v from name options v.live
request_decision v from packet = nothing

-- ---- packets of a transfer

-- a request to write this file
abbrev pub writing : TargetView → FileKind → List ℕ → Role
writing v kind file = Writes (own_name v kind) (wanted_options v.end.asks_size (length file)) file

-- the last LUS of an upload
abbrev pub last_lus : UploadEnd → Option Reason → List ℕ
last_lus e None = completed_lus e.request e.reports
last_lus e (Some reason) = stopped_lus e.request e.arrived e.reports reason

-- the request that a row asks for, where it is the target's to ask
abbrev pub row_request : TargetView → RowView → Option Role
row_request v Writes_lcs = Some (writing v Lcs lcs_file)
row_request v Writes_lcl = Some (writing v Lcl (lcl_file v.active))
row_request v Writes_ready = Some (writing v Lus ready_lus)
row_request v (Reads_file u) = Some (Reads (next_name u) (wanted_options v.end.asks_size 0))
row_request v (Writes_progress u) = Some (writing v Lus (progress_lus u.request (length u.loads) u.reports))
row_request v (Writes_stop e) = Some (writing v Lus (last_lus e e.reason))
row_request v (Writes_completion e loads) = Some (writing v Lus (last_lus e e.reason))
row_request v row = None

abbrev pub is_over : RowView → Bool
is_over Over = true
is_over row = false

-- the next row begins with a request of the target's own, or the target waits, or the session is over
abbrev pub next_decision : EndView → List Move → (more : List ℕ) → RowMove → RowView → Option Role → TargetDecision
next_decision v heard more move row (Some role) =
    if has_port v then record { moves = heard ++ Asks role ∷ []; change = Turns move more }
    else record { moves = heard ++ Stops ∷ []; change = Turns_without_port move more }
next_decision v heard more move row None =
    if is_over row then record { moves = heard ++ Stops ∷ []; change = Ends None } else record { moves = heard; change = Turns move more }

abbrev pub moved_decision : TargetView → RowView → List Move → (more : List ℕ) → Arriving → RowMove → TargetDecision
moved_decision v row heard more arriving move = next_decision v.end heard more move (view_moved row arriving move) (row_request v (view_moved row arriving move))

-- a transfer is over, with these bytes as the last of its file, or by an ERROR
abbrev pub turn_decision : Accepts → TargetView → TargetSession → List Move → (more : List ℕ) → (error : Option ℕ) → TargetDecision
turn_decision accepts v s heard more error =
    moved_decision v s.row heard more (with_bytes s.arriving more)
    (row_move accepts v.active s.row (record { error = error; arriving = with_bytes s.arriving more }))

-- by what a packet is to the live transfer
abbrev pub answer_decision : Accepts → TargetView → TargetSession → List Move → Answer → TargetDecision
answer_decision accepts v s heard (TakesBlock payload) = record { moves = heard; change = Continues payload }
answer_decision accepts v s heard (TakesLast payload) = turn_decision accepts v s heard payload None
answer_decision accepts v s heard Completes = turn_decision accepts v s heard [] None
answer_decision accepts v s heard (Fails code) = turn_decision accepts v s heard [] (Some code)
answer_decision accepts v s heard other = doing heard

abbrev pub transfer_decision : Accepts → TargetView → Option TargetSession → (from to : ℕ) → PacketView → TargetDecision
transfer_decision accepts v None from to packet = doing (transfer_moves v.end from to packet)
transfer_decision accepts v (Some s) from to packet = answer_decision accepts v s (transfer_moves v.end from to packet) (heard_answer v.end from to packet)

-- ---- events

-- bytes that spell no packet are dropped
abbrev pub got_decision : Accepts → TargetView → (from to : ℕ) → Option PacketView → TargetDecision
got_decision accepts v from to None = nothing
got_decision accepts v from to (Some packet) = if to == 59 then request_decision v from packet else transfer_decision accepts v v.live from to packet

-- a tick repeats the last datagram of a live session, or gives it up
abbrev pub tick_decision : EndView → Option TargetSession → TargetDecision
tick_decision v None = nothing
tick_decision v (Some s) = if may_repeat v then doing (Repeats ∷ []) else ending (Some reasons.GaveUp)

-- what the target does at an event, where the interlock accepts these loads
abbrev pub target_decision : Accepts → TargetView → Event → TargetDecision
target_decision accepts v (Gets from to bytes) = got_decision accepts v from to (packet_in bytes)
target_decision accepts v Ticks = tick_decision v.end v.live
target_decision accepts v (Learns size) = doing (Asks_size size ∷ [])
target_decision accepts v event = nothing

-- what it posts
abbrev pub target_posts : Accepts → TargetView → Event → List DatagramView
target_posts accepts v e = all_posts sides.Target v.end (target_decision accepts v e).moves

-- ---- what it keeps then

abbrev pub continued : Option TargetSession → (more : List ℕ) → Option TargetSession
continued None more = None
continued (Some s) more = Some (record { row = s.row; arriving = with_bytes s.arriving more })

-- nothing of the row's file has arrived
abbrev pub in_row : RowView → TargetSession
in_row row = record { row = row; arriving = arriving_of row [] }

abbrev pub later_reason : Option Reason → Option Reason → Option Reason
later_reason before None = before
later_reason before (Some reason) = Some reason

-- the reason that is told in a row
abbrev pub reason_in : {U C : Type 0} → TargetRow U C → Option Reason
reason_in Gives_denial = Some reasons.SequenceSpent
reason_in (Writes_stop e) = e.reason
reason_in row = None

-- the configuration after the active one, in the other bank: these loads, and then those that are kept
abbrev pub outline_after : Outline → List LoadEntry → Outline
outline_after o loads = record { identity = o.identity; bank = 1 - o.bank; sequence = o.sequence + 1; loads = with_kept_entries loads o.loads }

-- the active configuration once a row is reached
abbrev pub active_in : Outline → RowView → Outline
active_in o (Writes_completion e loads) = outline_after o loads
active_in o row = o

abbrev pub view_turned : EndView → TargetView → RowView → TargetView
view_turned end v row = record { end = end; live = Some (in_row row); active = active_in v.active row; reason = later_reason v.reason (reason_in row) }

abbrev pub view_without_port : EndView → TargetView → RowView → TargetView
view_without_port end v row = record { end = end; live = None; active = active_in v.active row; reason = Some reasons.PortsSpent }

-- a live session turns to the row after its own
abbrev pub session_turned : (EndView → TargetView → RowView → TargetView) → EndView → TargetView → Option TargetSession → RowMove → (more : List ℕ) → TargetView
session_turned turned end v None move more = record { end = end; live = None; active = v.active; reason = v.reason }
session_turned turned end v (Some s) move more = turned end v (view_moved s.row (with_bytes s.arriving more) move)

abbrev pub target_changed : EndView → TargetView → TargetChange → TargetView
target_changed end v (Continues more) = record { end = end; live = continued v.live more; active = v.active; reason = v.reason }
target_changed end v (Begins kind) = view_turned end v (first_row kind v.active.sequence)
target_changed end v (Turns move more) = session_turned view_turned end v v.live move more
target_changed end v (Turns_without_port move more) = session_turned view_without_port end v v.live move more
target_changed end v (Ends reason) = record { end = end; live = None; active = v.active; reason = later_reason v.reason reason }

-- what the target keeps after an event
abbrev pub target_after : Accepts → TargetView → Event → TargetView
target_after accepts v e = target_changed (views_after sides.Target v.end (target_decision accepts v e).moves) v (target_decision accepts v e).change
