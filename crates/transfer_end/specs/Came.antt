-- What came to a side in its transfers (docs/EXCHANGE.md, "Transfers").
use Rattle.std.specs.Prelude.{◌≡◌, ◌⊎◌, ◌≤◌, ℕ, List, [], ◌∷◌, length, Option, Some, None, true, ⊤}
use Rattle.std.specs.List.{AllByRecursion}
use Rattle.tftp_packet.specs.Packets.{Ack, Data, PacketView, packet_bytes}
use Rattle.tftp_link.specs.Receiver.{Receiver, receiver_after_all}
use Rattle.exchange_trace.specs.declared.trace.Side.{Side}
use Rattle.exchange_trace.specs.Happenings.{DatagramView}
use Rattle.exchange_trace.specs.Logs.{Event, Gets}
use Rattle.transfer_end.specs.Moves.{Hears, Move, all_posts, past_with, readings_after}
use Rattle.transfer_end.specs.Packets.{belongs, packet_in}
use Rattle.transfer_end.specs.Placed.{IsPlaced}
use Rattle.transfer_end.specs.Readings.{Reading}
use Rattle.transfer_end.specs.Transfers.{LinkEnd, Receives, Sends, Transfer, end_in}
use Rattle.transfer_end.specs.Views.{EndView, TransferView, end_view, seen}

-- the event is a datagram between these ports, with this packet
abbrev pub IsIn : (from to : ℕ) → PacketView → Event → Type 0
IsIn from to packet (Gets source target bytes) = (source ≡ from) × (target ≡ to) × (packet_in bytes ≡ Some packet)
IsIn from to packet event = ⊥

-- such a datagram came
abbrev pub Came : List Event → (from to : ℕ) → PacketView → Type 0
Came [] from to packet = ⊥
Came (event ∷ log) from to packet = IsIn from to packet event ⊎ Came log from to packet

-- from the other end of a transfer, once that is known
abbrev pub CameFrom : List Event → (own : ℕ) → Option ℕ → PacketView → Type 0
CameFrom log own None packet = ⊥
CameFrom log own (Some peer) packet = Came log peer own packet

abbrev pub AllCame : List Event → Transfer → Type 0
AllCame log t = AllByRecursion (CameFrom log t.own t.peer) t.got

-- Each packet of each transfer came in a datagram of the log, from the transfer's other end to its own port.
abbrev pub PacketsCame : List Event → Reading → Type 0
PacketsCame log r = AllByRecursion (AllCame log) (past_with r.live r.past)

-- ---- blocks

-- the DATA of this number came, with some payload
pub data DataCame (log : List Event) (own : ℕ) (peer : Option ℕ) (k : ℕ) : Type 0 where
  data_came : (payload : List ℕ) → CameFrom log own peer (Data k payload) → DataCame log own peer k

abbrev pub TakenCame : List Event → (own : ℕ) → Option ℕ → LinkEnd → Type 0
TakenCame log own peer (Receives r) = (r.taken ≡ 0) ⊎ DataCame log own peer r.taken
TakenCame log own peer (Sends s) = ⊤

abbrev pub BlockCame : List Event → Transfer → Type 0
BlockCame log t = TakenCame log t.own t.peer (end_in t)

-- In each transfer that receives a file, the block that was taken last, if any was, had come as DATA.
abbrev pub BlocksCame : List Event → Reading → Type 0
BlocksCame log r = AllByRecursion (BlockCame log) (past_with r.live r.past)

-- one of the packets is the DATA of this number
abbrev pub IsDataOf : ℕ → PacketView → Type 0
IsDataOf k (Data n payload) = n ≡ k
IsDataOf k packet = ⊥

abbrev pub HasData : ℕ → List PacketView → Type 0
HasData k [] = ⊥
HasData k (packet ∷ packets) = IsDataOf k packet ⊎ HasData k packets

-- A receiving end has taken what it had taken before, or a block that is among the packets that it got.
abbrev pub TakenWasGot : Type 0
TakenWasGot = (r : Receiver) (got : List PacketView) → ((receiver_after_all r got).taken ≡ r.taken) ⊎ HasData (receiver_after_all r got).taken got

-- ---- moves

-- what the live transfer hears is in the datagram of this moment, and that belongs to the transfer
abbrev pub HeardIn : Event → Option TransferView → (from : ℕ) → PacketView → Type 0
HeardIn (Gets source to bytes) live from packet = (source ≡ from) × (packet_in bytes ≡ Some packet) × (belongs live from to ≡ true)
HeardIn event live from packet = ⊥

abbrev pub MoveHeard : Event → Option TransferView → Move → Type 0
MoveHeard event live (Hears from packet) = HeardIn event live from packet
MoveHeard event live move = ⊤

abbrev pub HearsNothing : Move → Type 0
HearsNothing (Hears from packet) = ⊥
HearsNothing move = ⊤

abbrev pub IsOneAtMost : List Move → Type 0
IsOneAtMost [] = ⊤
IsOneAtMost (move ∷ []) = HearsNothing move
IsOneAtMost (move ∷ next ∷ moves) = ⊥

-- a side makes at most two moves at an event, and hears at most one packet, before it does anything else
abbrev pub MovesHeard : Event → Option TransferView → List Move → Type 0
MovesHeard event live [] = ⊤
MovesHeard event live (move ∷ moves) = MoveHeard event live move × IsOneAtMost moves

-- Whatever moves a side makes at an event, it hears in them at most what comes now: so all packets of its transfers came.
abbrev pub MovesCame : Type 0
MovesCame = (side : Side) (event : Event) (log : List Event) (r : Reading) (moves : List Move)
    → MovesHeard event (seen r.live) moves → PacketsCame log r → PacketsCame (event ∷ log) (readings_after side r moves)

-- Where all packets came, each block that was taken came as DATA before.
abbrev pub TakenBlocksCame : Type 0
TakenBlocksCame = (log : List Event) (r : Reading) → PacketsCame log r → BlocksCame log r

-- ---- posts

-- What an acknowledgement acknowledges had come: the DATA of that number, to the port that it goes out from, from the port
-- to which it goes. ACK 0 acknowledges no block.
abbrev pub Acknowledges : List Event → (from to : ℕ) → PacketView → Type 0
Acknowledges log from to (Ack k) = (k ≡ 0) ⊎ DataCame log from (Some to) k
Acknowledges log from to packet = ⊤

-- The datagram of this side has a packet, and what that acknowledges had come.
pub record AcksWhatCame (side : Side) (log : List Event) (d : DatagramView) : Type 0 where
  pub poster : d.side ≡ side
  pub packet : PacketView
  pub bytes : d.bytes ≡ packet_bytes packet
  pub came : Acknowledges log d.from d.to packet

abbrev pub LastAcks : Side → List Event → Option DatagramView → Type 0
LastAcks side log None = ⊤
LastAcks side log (Some d) = AcksWhatCame side log d

-- Where all packets of the transfers came, and what was posted last acknowledges what came, so does each datagram that is
-- posted at the next event.
abbrev pub PostsAckWhatCame : Type 0
PostsAckWhatCame = (side : Side) (log : List Event) (r : Reading) (e : Event) (d : DatagramView)
    → PacketsCame log r → LastAcks side log r.last → IsPlaced side (end_view r) e d → AcksWhatCame side (e ∷ log) d

-- and what was posted last, after the moves of that event
abbrev pub LastStaysAcked : Type 0
LastStaysAcked = (side : Side) (event : Event) (log : List Event) (r : Reading) (moves : List Move)
    → MovesHeard event (seen r.live) moves → PacketsCame log r → LastAcks side log r.last → LastAcks side (event ∷ log) (readings_after side r moves).last

-- Whatever moves a side makes at an event, it posts at most two datagrams.
abbrev pub MovesPostTwo : Type 0
MovesPostTwo = (side : Side) (event : Event) (v : EndView) (moves : List Move) → MovesHeard event v.live moves → length (all_posts side v moves) ≤ 2
