-- What comes in a transfer is what its other end sent (docs/EXCHANGE.md, "Transfers").
use Rattle.std.specs.Prelude.{◌≡◌, ◌⊎◌, ℕ, ◌<◌, ◌≤◌, List, [], ◌∷◌, ◌++◌, length, Bool, true, false, Option, Some, None, ⊤}
use Rattle.std.specs.List.{AllByRecursion}
use Rattle.field_grammar.specs.Grammar.{IsBytes}
use Rattle.tftp_packet.specs.Packets.{Error, PacketView, Rrq, Wrq, packet_bytes}
use Rattle.tftp_link.specs.Answers.{Dropped}
use Rattle.tftp_link.specs.Blocks.{IsOfFile}
use Rattle.exchange_trace.specs.declared.trace.Side.{Side}
use Rattle.exchange_trace.specs.Happenings.{DatagramView}
use Rattle.exchange_trace.specs.Logs.{Event, Gets, Ticks}
use Rattle.transfer_end.specs.Came.{HasData, HeardIn}
use Rattle.transfer_end.specs.Laws.{IsLive, PortsCountUp}
use Rattle.transfer_end.specs.Moves.{Asks, Hears, Move, Recalls, Repeats, Serves, all_posts, past_with, readings_after}
use Rattle.transfer_end.specs.Packets.{packet_in}
use Rattle.transfer_end.specs.Readings.{Reading, kept_in}
use Rattle.transfer_end.specs.Transfers.{LinkEnd, Reads, Receives, Role, Sends, ServesRead, ServesWrite, Transfer, Writes, arrived_of, end_answer, end_in, end_of, end_packet, first_packet, is_received}
use Rattle.transfer_end.specs.Views.{TransferView, end_view, seen}

-- it is one of these
abbrev pub Among : {A : Type 0} → A → List A → Type 0
Among x [] = ⊥
Among x (y ∷ ys) = (y ≡ x) ⊎ Among x ys

-- ---- roles

-- the side asked for the transfer
abbrev pub is_asking : Role → Bool
is_asking (Reads name options) = true
is_asking (Writes name options file) = true
is_asking (ServesRead name options file) = false
is_asking (ServesWrite name options) = false

-- the side receives the file
abbrev pub is_receiving : Role → Bool
is_receiving (Reads name options) = true
is_receiving (Writes name options file) = false
is_receiving (ServesRead name options file) = false
is_receiving (ServesWrite name options) = true

-- the request that a side took that serves
abbrev pub request_taken : Role → Option PacketView
request_taken (ServesRead name options file) = Some (Rrq name options)
request_taken (ServesWrite name options) = Some (Wrq name options)
request_taken role = None

-- the file that the side sends
abbrev pub file_sent : Role → Option (List ℕ)
file_sent (Writes name options file) = Some file
file_sent (ServesRead name options file) = Some file
file_sent role = None

-- the block size of an end
abbrev pub end_block_size : LinkEnd → ℕ
end_block_size (Receives r) = r.size
end_block_size (Sends s) = s.size

-- ---- what is posted

-- The transfer of a side posted the datagram: from its own port, with what its end sends after some of the packets that came
-- in it; to its other end, or to port 59 where it is the request.
pub record IsPostOf (t : Transfer) (d : DatagramView) : Type 0 where
  pub port : d.from ≡ t.own
  pub heard : List PacketView
  pub later : List PacketView
  pub split : t.got ≡ heard ++ later
  pub bytes : d.bytes ≡ packet_bytes (end_packet (end_of t.role heard))
  pub goes : (t.peer ≡ Some d.to) ⊎ ((d.to ≡ 59) × (heard ≡ []) × (is_asking t.role ≡ true))

-- a datagram of a side with these transfers: one of them posted it, or it refuses a request, from port 59
pub data IsPostOfSide (transfers : List Transfer) (d : DatagramView) : Type 0 where
  of_transfer : (t : Transfer) → Among t transfers → IsPostOf t d → IsPostOfSide transfers d
  of_refusal : d.from ≡ 59 → d.bytes ≡ packet_bytes (Error 1 []) → IsPostOfSide transfers d

-- what a side posted last
abbrev pub LastIsPost : Side → List Transfer → Option DatagramView → Type 0
LastIsPost side transfers None = ⊤
LastIsPost side transfers (Some d) = (d.side ≡ side) × IsPostOfSide transfers d

-- ---- what comes

-- this side posted a datagram between these ports, with this packet
pub record Brought (posted : List DatagramView) (side : Side) (from to : ℕ) (p : PacketView) : Type 0 where
  pub bytes : List ℕ
  pub among : Among (record { side = side; from = from; to = to; bytes = bytes }) posted
  pub spells : packet_in bytes ≡ Some p
  pub are_bytes : IsBytes bytes

-- what the datagram of an event carries, this side posted
abbrev pub EventWasPosted : List DatagramView → Side → Event → Type 0
EventWasPosted posted side (Gets from to bytes) = Among (record { side = side; from = from; to = to; bytes = bytes }) posted × IsBytes bytes
EventWasPosted posted side event = ⊤

abbrev pub BroughtFrom : List DatagramView → Side → (own : ℕ) → Option ℕ → PacketView → Type 0
BroughtFrom posted side own None p = ⊥
BroughtFrom posted side own (Some peer) p = Brought posted side peer own p

-- this side posted all packets of the transfer, from the port of the transfer's other end
abbrev pub GotIsPosted : List DatagramView → Side → Transfer → Type 0
GotIsPosted posted side t = AllByRecursion (BroughtFrom posted side t.own t.peer) t.got

-- ---- how transfers begin

-- the request that a serving side took came from its other end
pub record TookRequest (posted : List DatagramView) (side : Side) (t : Transfer) : Type 0 where
  pub peer : ℕ
  pub bound : t.peer ≡ Some peer
  pub request : PacketView
  pub taken : request_taken t.role ≡ Some request
  pub brought : Brought posted side peer 59 request

-- A side that asked got as its first packet, which it didn't drop, what a serving transfer of the other side sent first.
pub record IsAnsweredBy (t s : Transfer) : Type 0 where
  pub port : t.peer ≡ Some s.own
  pub back : s.peer ≡ Some t.own
  pub serves : is_asking s.role ≡ false
  pub first : PacketView
  pub rest : List PacketView
  pub split : t.got ≡ first ∷ rest
  pub sent : packet_in (packet_bytes (first_packet s.role)) ≡ Some first
  pub are_bytes : IsBytes (packet_bytes (first_packet s.role))
  pub binds : end_answer (end_of t.role []) first ≡ Dropped → ⊥

-- how a transfer of a side has begun, where these are the transfers of the other side: it took a request; or asked, and wasn't
-- answered, or was refused from port 59, or answered by a transfer that serves
pub data TransferHasBegun (posted : List DatagramView) (side : Side) (theirs : List Transfer) (t : Transfer) : Type 0 where
  served : is_asking t.role ≡ false → TookRequest posted side t → TransferHasBegun posted side theirs t
  unanswered : is_asking t.role ≡ true → t.peer ≡ None → t.got ≡ [] → TransferHasBegun posted side theirs t
  refused : is_asking t.role ≡ true → t.peer ≡ Some 59 → TransferHasBegun posted side theirs t
  answered : is_asking t.role ≡ true → (s : Transfer) → Among s theirs → IsAnsweredBy t s → TransferHasBegun posted side theirs t

-- ---- ports

-- each own port is above the one before, the newest first, and above port 59
abbrev pub OwnPortsRise : List Transfer → Type 0
OwnPortsRise [] = ⊤
OwnPortsRise (t ∷ earlier) = (59 < t.own) × AllByRecursion (λ (u : Transfer). u.own < t.own) earlier × OwnPortsRise earlier

-- the side posted a datagram from this port
pub record HasPosted (posted : List DatagramView) (side : Side) (from : ℕ) : Type 0 where
  pub datagram : DatagramView
  pub among : Among datagram posted
  pub poster : datagram.side ≡ side
  pub port : datagram.from ≡ from

-- ---- a side among both

-- What holds of the transfers of one side, where these are those of the other, and these datagrams were posted by both.
pub record IsFair (me them : Side) (mine theirs : List Transfer) (posted : List DatagramView) : Type 0 where
  pub ports : OwnPortsRise mine
  pub posts : (d : DatagramView) → Among d posted → d.side ≡ me → IsPostOfSide mine d
  pub sent : (t : Transfer) → Among t mine → HasPosted posted me t.own
  pub got : (t : Transfer) → Among t mine → GotIsPosted posted them t
  pub begun : (t : Transfer) → Among t mine → TransferHasBegun posted them theirs t

-- ---- moves

-- the request came to port 59 in the datagram of this moment
abbrev pub ServesIn : Event → (from : ℕ) → Role → Type 0
ServesIn (Gets source to bytes) from role = (source ≡ from) × (to ≡ 59) × (is_asking role ≡ false) × (packet_in bytes ≡ request_taken role)
ServesIn event from role = ⊥

abbrev pub IsTick : Event → Type 0
IsTick Ticks = ⊤
IsTick event = ⊥

abbrev pub IsNoTick : Event → Type 0
IsNoTick Ticks = ⊥
IsNoTick event = ⊤

-- What a move may be at an event, where these transfers are live and kept: what either gets is in the datagram of this
-- moment, a side asks in a role that asks, serves a request that came, and repeats at a tick.
abbrev pub MoveFits : Event → (live kept : Option TransferView) → Move → Type 0
MoveFits event live kept (Hears from packet) = HeardIn event live from packet
MoveFits event live kept (Recalls from packet) = HeardIn event kept from packet
MoveFits event live kept (Asks role) = is_asking role ≡ true
MoveFits event live kept (Serves from role) = ServesIn event from role
MoveFits event live kept Repeats = IsTick event
MoveFits event live kept move = ⊤

-- the moves of a side at an event: the first may get a packet
abbrev pub MovesFit : Event → (live kept : Option TransferView) → List Move → Type 0
MovesFit event live kept [] = ⊤
MovesFit event live kept (move ∷ moves) = MoveFits event live kept move × AllByRecursion (MoveFits event None None) moves

-- what holds of the role of the transfer that a move begins
abbrev pub MoveHasRole : (Role → Type 0) → Move → Type 0
MoveHasRole Has (Asks role) = Has role
MoveHasRole Has (Serves from role) = Has role
MoveHasRole Has move = ⊤

-- of the roles of all transfers of a log
abbrev pub HaveRoles : (Role → Type 0) → Reading → Type 0
HaveRoles Has r = AllByRecursion (λ (t : Transfer). Has t.role) (past_with r.live r.past)

-- ---- both sides

-- all transfers of a side: those of its log, and those of its former lives
abbrev pub all_of : Reading → (former : List Transfer) → List Transfer
all_of r former = past_with r.live r.past ++ former

-- the own ports of a log count up, above those of former lives
pub record PortsFit (r : Reading) (former : List Transfer) : Type 0 where
  pub counts : PortsCountUp r
  pub first : 59 < r.first_port
  pub below : AllByRecursion (λ (u : Transfer). u.own < r.first_port) former
  pub rise : OwnPortsRise former

-- both sides are fair, and what one of them posted last is its
pub record AreFair (me them : Side) (mine theirs : List Transfer) (last : Option DatagramView) (posted : List DatagramView) : Type 0 where
  pub one : IsFair me them mine theirs posted
  pub other : IsFair them me theirs mine posted
  pub last_is : LastIsPost me mine last

-- Whatever moves a side makes at an event, where that brings what the other side posted: both sides stay fair.
abbrev pub MovesStayFair : Type 0
MovesStayFair = (me them : Side) (e : Event) (r : Reading) (former theirs : List Transfer) (moves : List Move) (posted : List DatagramView) → (me ≡ them → ⊥)
    → MovesFit e (seen r.live) (seen (kept_in r.past)) moves → EventWasPosted posted them e → IsLive r.live → PortsFit r former → AreFair me them (all_of r former) theirs r.last posted
    → AreFair me them (all_of (readings_after me r moves) former) theirs (readings_after me r moves).last (posted ++ all_posts me (end_view r) moves)

-- ---- the other end

-- a transfer that serves answers the request of one that asked
pub record AnswersRequest (s t : Transfer) : Type 0 where
  pub serves : is_asking s.role ≡ false
  pub asks : is_asking t.role ≡ true
  pub request : packet_in (packet_bytes (first_packet t.role)) ≡ request_taken s.role
  pub are_bytes : IsBytes (packet_bytes (first_packet t.role))

-- Two transfers are the ends of one: each has the other's port, and one serves the request of the other.
pub record AreEnds (t u : Transfer) : Type 0 where
  pub port : t.peer ≡ Some u.own
  pub back : u.peer ≡ Some t.own
  pub request : AnswersRequest t u ⊎ AnswersRequest u t

-- a file that is given to a reader has no more bytes than the option `tsize` can tell (RFC 2349)
abbrev pub TellsLength : Role → Type 0
TellsLength (ServesRead name options file) = length file ≤ 4294967295
TellsLength role = ⊤

-- What came in a transfer is of the file that its other end sends: each DATA is the block of its number, in the block size
-- that holds, and what was received whole is the file.
pub record BringsFile (t u : Transfer) : Type 0 where
  pub ends : AreEnds t u
  pub file : List ℕ
  pub sent : file_sent u.role ≡ Some file
  pub blocks : TellsLength u.role → AllByRecursion (IsOfFile file (end_block_size (end_in t))) t.got
  pub whole : TellsLength u.role → is_received (end_in t) ≡ true → arrived_of t ≡ file

-- what a transfer gets comes from a transfer of the other side, or no block of a file came
pub data ComesFromEnd (theirs : List Transfer) (t : Transfer) : Type 0 where
  of_end : (u : Transfer) → Among u theirs → BringsFile t u → ComesFromEnd theirs t
  of_none : ((k : ℕ) → 1 ≤ k → HasData k t.got → ⊥) → is_received (end_in t) ≡ false → ComesFromEnd theirs t

-- Where both sides are fair, what is received is what the other end sent.
abbrev pub ReceivesWhatWasSent : Type 0
ReceivesWhatWasSent = (me them : Side) (mine theirs : List Transfer) (posted : List DatagramView) (t : Transfer) → IsFair me them mine theirs posted → IsFair them me theirs mine posted
    → Among t mine → is_receiving t.role ≡ true → ComesFromEnd theirs t
