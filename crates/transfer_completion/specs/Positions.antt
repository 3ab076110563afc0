-- How an end stands while nothing is lost, transfer by transfer: transfer i has the port own + i at the end, and peer + i at
-- the other one (docs/EXCHANGE.md, "A fault-free run completes").
use Rattle.std.specs.Prelude.{◌≡◌, ◌⊎◌, ℕ, ◌+◌, ◌<◌, ◌≤◌, List, Bool, true, Option, Some, None, Contains}
use Rattle.exchange_trace.specs.declared.trace.Side.{Side}
use Rattle.exchange_trace.specs.Happenings.{DatagramView}
use Rattle.tftp_packet.specs.Packets.{PacketView, Data, Ack, Oack}
use Rattle.tftp_link.specs.declared.phase.Phase.TheVariants.{Running}
use Rattle.transfer_end.specs.Transfers.{Role, LinkEnd, Receives, Sends, begin_of, end_packet}
use Rattle.transfer_end.specs.Views.{EndView, TransferView}
use Rattle.transfer_end.specs.Moves.{datagram, request}
use Rattle.transfer_end.specs.Packets.{packet_in}
use Rattle.transfer_completion.specs.Replies.{acknowledges}

pub data Position : Type 0 where
  Rests : Position  -- between two transfers
  HasAsked : Role → Position  -- its request isn't answered yet
  IsIn : LinkEnd → Position  -- in a transfer of which it knows the other end

-- the live transfer, of which these are the ports
abbrev pub live_at : Position → (own peer : ℕ) → Option TransferView
live_at Rests own peer = None
live_at (HasAsked role) own peer = Some (record { own = own; peer = None; end = begin_of role })
live_at (IsIn end) own peer = Some (record { own = own; peer = Some peer; end = end })

-- how many own ports were drawn, where transfer i is live or next
abbrev pub drawn : Position → (i : ℕ) → ℕ
drawn Rests i = i
drawn (HasAsked role) i = i + 1
drawn (IsIn end) i = i + 1

-- how many ports of the other end were accepted
abbrev pub heard : Position → (i : ℕ) → ℕ
heard Rests i = i
heard (HasAsked role) i = i
heard (IsIn end) i = i + 1

-- the greatest of this many ports of the other end is the mark
pub record IsMark (peer count mark : ℕ) : Type 0 where
  pub all : (j : ℕ) → j < count → peer + j ≤ mark
  pub none : mark < peer + count

-- what the end posted last in the transfer
abbrev pub last_at : Side → Position → (own peer : ℕ) → Option DatagramView
last_at side Rests own peer = None
last_at side (HasAsked role) own peer = Some (request side own role)
last_at side (IsIn end) own peer = Some (datagram side own peer (end_packet end))

abbrev pub IsLast : List DatagramView → (posted last : Option DatagramView) → Type 0
IsLast posts None last = Unit {0}
IsLast posts (Some d) last = (last ≡ Some d) × Contains posts d

-- the transfer isn't over, and there is a number for what it sends
abbrev pub IsEndRunning : LinkEnd → Type 0
IsEndRunning (Receives r) = (r.phase ≡ Running) × (r.taken < 65536)
IsEndRunning (Sends s) = s.phase ≡ Running

abbrev pub IsUnderway : Position → Type 0
IsUnderway (IsIn end) = IsEndRunning end
IsUnderway position = Unit {0}

abbrev pub IsReceiving : LinkEnd → Type 0
IsReceiving (Receives r) = Unit {0}
IsReceiving (Sends s) = ⊥

-- the kept transfer is one from before, or one of these, the last acknowledgement of which was posted
abbrev pub IsKeptTransfer : Side → List DatagramView → (own peer count : ℕ) → Option TransferView → Type 0
IsKeptTransfer side posts own peer count None = Unit {0}
IsKeptTransfer side posts own peer count (Some t) = (t.own < own) ⊎ ((j : ℕ) × (j < count) × (t.own ≡ own + j) × (t.peer ≡ Some (peer + j)) × IsReceiving t.end
    × Contains posts (datagram side (own + j) (peer + j) (end_packet t.end)) × (acknowledges (datagram side (own + j) (peer + j) (end_packet t.end)) ≡ true))

-- An end that stands so in transfer i, or before it where it rests, after these posts of both ends.
pub record StandsIn (side : Side) (posts : List DatagramView) (own peer i : ℕ) (position : Position) (v : EndView) : Type 0 where
  pub port : v.next_port ≡ own + drawn position i
  pub mark : IsMark peer (heard position i) v.mark
  pub live : v.live ≡ live_at position (own + i) (peer + i)
  pub last : IsLast posts (last_at side position (own + i) (peer + i)) v.last
  pub underway : IsUnderway position
  pub kept : IsKeptTransfer side posts own peer (drawn position i) v.kept

-- ---- what came to such an end

-- what came in the transfer before what comes next
abbrev pub IsBehind : LinkEnd → PacketView → Type 0
IsBehind (Receives r) (Data k payload) = k ≤ r.taken
IsBehind (Receives r) (Oack options) = Unit {0}
IsBehind (Sends s) (Ack k) = k < s.sent
IsBehind (Sends s) (Oack options) = Unit {0}
IsBehind end p = ⊥

-- in the transfer in which the end stands
abbrev pub IsBehindIn : Position → PacketView → Type 0
IsBehindIn (IsIn end) p = IsBehind end p
IsBehindIn position p = ⊥

-- A datagram that was posted to an end which stands so is behind it: the request of a transfer that it took up; a packet
-- of an earlier transfer; or one of this transfer. Which
-- requests it may get, at all and while it is busy, is said by two tests.
pub data IsPast (may_ask may_hurry : PacketView → Bool) (own peer i : ℕ) (position : Position) (d : DatagramView) : Type 0 where
  was_asked : (j : ℕ) (p : PacketView) → packet_in d.bytes ≡ Some p → may_ask p ≡ true → j < heard position i → d.from ≡ peer + j → d.to ≡ 59 → IsPast may_ask may_hurry own peer i position d
  earlier : (j : ℕ) (p : PacketView) → packet_in d.bytes ≡ Some p → j < i → d.from ≡ peer + j → d.to ≡ own + j → IsPast may_ask may_hurry own peer i position d
  here : (p : PacketView) → packet_in d.bytes ≡ Some p → IsBehindIn position p → d.from ≡ peer + i → d.to ≡ own + i → IsPast may_ask may_hurry own peer i position d
  -- the request of the next transfer, which comes while the end is still in this one
  too_early : (p : PacketView) → packet_in d.bytes ≡ Some p → may_hurry p ≡ true → (end : LinkEnd) → position ≡ IsIn end → d.to ≡ 59 → IsPast may_ask may_hurry own peer i position d
