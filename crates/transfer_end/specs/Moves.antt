-- The moves that an end makes. What a move posts follows from what the end keeps; what it does to that and to what the log
-- says is told side by side (docs/EXCHANGE.md, "Transfers").
use Rattle.std.specs.Prelude.{ℕ, ◌+◌, max, List, [], ◌∷◌, ◌++◌, Option, Some, None, if◌then◌else◌}
use Rattle.tftp_packet.specs.Packets.{PacketView, Error, packet_bytes}
use Rattle.tftp_link.specs.Answers.{Answer, Dropped, Again, is_sent_by, is_ended_by}
use Rattle.exchange_trace.specs.declared.trace.Side.{Side}
use Rattle.exchange_trace.specs.Happenings.{DatagramView}
use Rattle.transfer_end.specs.Transfers.{Role, LinkEnd, Transfer, begin_of, bound_to, end_answer, end_moved, end_of, end_packet, first_packet, is_received, with_packet}
use Rattle.transfer_end.specs.Readings.{Reading, next_port_of}
use Rattle.transfer_end.specs.Views.{EndView, TransferView, transfer_view}

pub data Move : Type 0 where
  Hears : (from : ℕ) → PacketView → Move  -- the live transfer gets a packet from this port
  Recalls : (from : ℕ) → PacketView → Move  -- the kept transfer gets one
  Asks : Role → Move  -- a request is posted from a new port
  Serves : (from : ℕ) → Role → Move  -- a request from this port is taken, at a new port
  Refuses : (from : ℕ) → Move  -- a request from this port is answered with ERROR 1, from port 59
  Repeats : Move  -- a tick: the session's last datagram is posted again
  Stops : Move  -- a session ends or begins anew, and a live transfer ends with it
  Asks_size : Option ℕ → Move  -- from now on requests ask for this block size

-- ---- what is posted

abbrev pub datagram : Side → (from to : ℕ) → PacketView → DatagramView
datagram side from to packet = record { side = side; from = from; to = to; bytes = packet_bytes packet }

-- a request goes to port 59
abbrev pub request : Side → (own : ℕ) → Role → DatagramView
request side own role = datagram side own 59 (first_packet role)

-- what a live transfer posts at a packet from this port
abbrev pub heard_post : Side → TransferView → (from : ℕ) → Answer → List DatagramView
heard_post side t from answer = if is_sent_by answer then datagram side t.own from (end_packet (end_moved t.end answer)) ∷ [] else []

-- the block taken last is acknowledged again
abbrev pub recalled_post : Side → TransferView → (from : ℕ) → Answer → List DatagramView
recalled_post side t from Again = datagram side t.own from (end_packet t.end) ∷ []
recalled_post side t from answer = []

abbrev pub live_post : Side → Option TransferView → (from : ℕ) → PacketView → List DatagramView
live_post side None from packet = []
live_post side (Some t) from packet = heard_post side t from (end_answer t.end packet)

abbrev pub kept_post : Side → Option TransferView → (from : ℕ) → PacketView → List DatagramView
kept_post side None from packet = []
kept_post side (Some t) from packet = recalled_post side t from (end_answer t.end packet)

abbrev pub last_post : Option DatagramView → List DatagramView
last_post None = []
last_post (Some d) = d ∷ []

-- what a move posts
abbrev pub posts_of : Side → EndView → Move → List DatagramView
posts_of side v (Hears from packet) = live_post side v.live from packet
posts_of side v (Recalls from packet) = kept_post side v.kept from packet
posts_of side v (Asks role) = request side v.next_port role ∷ []
posts_of side v (Serves from role) = datagram side v.next_port from (first_packet role) ∷ []
posts_of side v (Refuses from) = datagram side 59 from (Error 1 []) ∷ []
posts_of side v Repeats = last_post v.last
posts_of side v Stops = []
posts_of side v (Asks_size size) = []

-- the newest of these, or what was the last before
abbrev pub last_of : Option DatagramView → List DatagramView → Option DatagramView
last_of last [] = last
last_of last (d ∷ posts) = last_of (Some d) posts

-- ---- what the end keeps then

-- the transfer after a packet, to which its other end is known
abbrev pub bound : TransferView → (from : ℕ) → LinkEnd → TransferView
bound t from end = record { own = t.own; peer = bound_to t.peer from; end = end }

-- the mark rises where the transfer gets its other end
abbrev pub mark_bound : ℕ → Option ℕ → (from : ℕ) → ℕ
mark_bound mark None from = max mark from
mark_bound mark (Some peer) from = mark

-- a transfer that is over is kept where a file was received whole
abbrev pub kept_after : LinkEnd → TransferView → Option TransferView → Option TransferView
kept_after end t kept = if is_received end then Some t else kept

abbrev pub view_ended : Side → EndView → TransferView → (from : ℕ) → Answer → EndView
view_ended side v t from answer = record {
  next_port = v.next_port;
  mark = mark_bound v.mark t.peer from;
  live = None;
  kept = kept_after (end_moved t.end answer) (bound t from (end_moved t.end answer)) v.kept;
  retries = 0;
  last = last_of v.last (heard_post side t from answer);
  asks_size = v.asks_size;
}

abbrev pub view_continued : Side → EndView → TransferView → (from : ℕ) → Answer → EndView
view_continued side v t from answer = record {
  next_port = v.next_port;
  mark = mark_bound v.mark t.peer from;
  live = Some (bound t from (end_moved t.end answer));
  kept = v.kept;
  retries = 0;
  last = last_of v.last (heard_post side t from answer);
  asks_size = v.asks_size;
}

-- by what the packet is: nothing changes at one that is dropped or comes again
abbrev pub view_answered : Side → EndView → TransferView → (from : ℕ) → Answer → EndView
view_answered side v t from Dropped = v
view_answered side v t from Again = v
view_answered side v t from answer = if is_ended_by answer then view_ended side v t from answer else view_continued side v t from answer

abbrev pub view_heard : Side → EndView → Option TransferView → (from : ℕ) → PacketView → EndView
view_heard side v None from packet = v
view_heard side v (Some t) from packet = view_answered side v t from (end_answer t.end packet)

-- a transfer begins at the next port
abbrev pub view_begun : EndView → (mark : ℕ) → Option ℕ → Role → (retries : ℕ) → DatagramView → EndView
view_begun v mark peer role retries posted = record {
  next_port = v.next_port + 1;
  mark = mark;
  live = Some (record { own = v.next_port; peer = peer; end = begin_of role });
  kept = v.kept;
  retries = retries;
  last = Some posted;
  asks_size = v.asks_size;
}

abbrev pub view_after : Side → EndView → Move → EndView
view_after side v (Hears from packet) = view_heard side v v.live from packet
view_after side v (Recalls from packet) = v
view_after side v (Asks role) = view_begun v v.mark None role v.retries (request side v.next_port role)
view_after side v (Serves from role) = view_begun v (max v.mark from) (Some from) role 0 (datagram side v.next_port from (first_packet role))
view_after side v (Refuses from) = v
view_after side v Repeats = record { next_port = v.next_port; mark = v.mark; live = v.live; kept = v.kept; retries = v.retries + 1; last = v.last; asks_size = v.asks_size }
view_after side v Stops = record { next_port = v.next_port; mark = v.mark; live = None; kept = v.kept; retries = 0; last = v.last; asks_size = v.asks_size }
view_after side v (Asks_size size) = record { next_port = v.next_port; mark = v.mark; live = v.live; kept = v.kept; retries = v.retries; last = v.last; asks_size = size }

-- ---- what the log says then

-- the live transfer, if there is one, is over
abbrev pub past_with : Option Transfer → List Transfer → List Transfer
past_with None past = past
past_with (Some t) past = t ∷ past

-- A packet that changes nothing is one of the transfer's all the same, once its other end is known.
abbrev pub reading_unchanged : Reading → Transfer → (from : ℕ) → PacketView → Option ℕ → Reading
reading_unchanged r t from packet None = r
reading_unchanged r t from packet (Some peer) = record { first_port = r.first_port; past = r.past; live = Some (with_packet t from packet); ticks = r.ticks; last = r.last; asks_size = r.asks_size }

abbrev pub reading_answered : Side → Reading → Transfer → (from : ℕ) → PacketView → Answer → Reading
reading_answered side r t from packet Dropped = reading_unchanged r t from packet t.peer
reading_answered side r t from packet Again = reading_unchanged r t from packet t.peer
reading_answered side r t from packet answer =
    if is_ended_by answer
    then record { first_port = r.first_port; past = with_packet t from packet ∷ r.past; live = None; ticks = 0; last = last_of r.last (heard_post side (transfer_view t) from answer); asks_size = r.asks_size }
    else record { first_port = r.first_port; past = r.past; live = Some (with_packet t from packet); ticks = 0; last = last_of r.last (heard_post side (transfer_view t) from answer); asks_size = r.asks_size }

abbrev pub reading_heard : Side → Reading → Option Transfer → (from : ℕ) → PacketView → Reading
reading_heard side r None from packet = r
reading_heard side r (Some t) from packet = reading_answered side r t from packet (end_answer (end_of t.role t.got) packet)

abbrev pub reading_begun : Reading → Option ℕ → Role → (ticks : ℕ) → DatagramView → Reading
reading_begun r peer role ticks posted = record {
  first_port = r.first_port;
  past = past_with r.live r.past;
  live = Some (record { role = role; own = next_port_of r; peer = peer; got = [] });
  ticks = ticks;
  last = Some posted;
  asks_size = r.asks_size;
}

abbrev pub reading_after : Side → Reading → Move → Reading
reading_after side r (Hears from packet) = reading_heard side r r.live from packet
reading_after side r (Recalls from packet) = r
reading_after side r (Asks role) = reading_begun r None role r.ticks (request side (next_port_of r) role)
reading_after side r (Serves from role) = reading_begun r (Some from) role 0 (datagram side (next_port_of r) from (first_packet role))
reading_after side r (Refuses from) = r
reading_after side r Repeats = record { first_port = r.first_port; past = r.past; live = r.live; ticks = r.ticks + 1; last = r.last; asks_size = r.asks_size }
reading_after side r Stops = record { first_port = r.first_port; past = past_with r.live r.past; live = None; ticks = 0; last = r.last; asks_size = r.asks_size }
reading_after side r (Asks_size size) = record { first_port = r.first_port; past = r.past; live = r.live; ticks = r.ticks; last = r.last; asks_size = size }

-- ---- several moves

abbrev pub views_after : Side → EndView → List Move → EndView
views_after side v [] = v
views_after side v (move ∷ moves) = views_after side (view_after side v move) moves

abbrev pub readings_after : Side → Reading → List Move → Reading
readings_after side r [] = r
readings_after side r (move ∷ moves) = readings_after side (reading_after side r move) moves

-- what they post
abbrev pub all_posts : Side → EndView → List Move → List DatagramView
all_posts side v [] = []
all_posts side v (move ∷ moves) = posts_of side v move ++ all_posts side (view_after side v move) moves
