-- Datagrams that change nothing, and what answers them (docs/EXCHANGE.md, "A fault-free run completes").
use Rattle.std.specs.Prelude.{◌≡◌, ℕ, ◌<◌, List, [], ◌∷◌, Bool, true, false, Option, Some, None, Contains, if◌then◌else◌}
use Rattle.exchange_trace.specs.declared.trace.Side.{Side}
use Rattle.exchange_trace.specs.Happenings.{DatagramView}
use Rattle.tftp_packet.specs.Packets.{PacketView, Ack}
use Rattle.tftp_link.specs.Answers.{Answer, Dropped, Again}
use Rattle.transfer_end.specs.Transfers.{end_answer, end_packet}
use Rattle.transfer_end.specs.Views.{EndView, TransferView}
use Rattle.transfer_end.specs.Moves.{Move, all_posts, datagram, views_after}
use Rattle.transfer_end.specs.Packets.{belongs, packet_in}

-- ---- old datagrams and their weights

-- Where an acknowledgement changes nothing, nothing answers it; other datagrams that change nothing are answered by an
-- acknowledgement, if at all. So old datagrams call forth no more than one each.
abbrev pub is_ack : Option PacketView → Bool
is_ack (Some (Ack k)) = true
is_ack p = false

abbrev pub acknowledges : DatagramView → Bool
acknowledges d = is_ack (packet_in d.bytes)

abbrev pub weight : DatagramView → ℕ
weight d = if acknowledges d then 1 else 2

-- nothing, or one of the datagrams that were posted before
abbrev pub IsOld : List DatagramView → List DatagramView → Type 0
IsOld posted [] = Unit {0}
IsOld posted (d ∷ []) = Contains posted d
IsOld posted (d ∷ e ∷ ds) = ⊥

-- what answers a datagram has less weight than it
abbrev pub IsLighter : DatagramView → List DatagramView → Type 0
IsLighter d [] = Unit {0}
IsLighter d (e ∷ ds) = weight e < weight d

abbrev pub IsReplyTo : List DatagramView → DatagramView → DatagramView → Type 0
IsReplyTo posted d reply = Contains posted reply × (weight reply < weight d)

-- ---- at an end

-- nothing, or one datagram of this kind
abbrev pub Replies : (DatagramView → Type 0) → List DatagramView → Type 0
Replies MayReply [] = Unit {0}
Replies MayReply (d ∷ []) = MayReply d
Replies MayReply (d ∷ e ∷ ds) = ⊥

-- what the packet is to the live transfer changes nothing, and is answered so
abbrev pub OldAnswer : Side → (DatagramView → Type 0) → TransferView → (from : ℕ) → Answer → Type 0
OldAnswer side MayReply t from Dropped = Unit {0}
OldAnswer side MayReply t from Again = MayReply (datagram side t.own from (end_packet t.end))
OldAnswer side MayReply t from answer = ⊥

abbrev pub OldToLive : Side → (DatagramView → Type 0) → Option TransferView → (from : ℕ) → PacketView → Type 0
OldToLive side MayReply None from p = Unit {0}
OldToLive side MayReply (Some t) from p = OldAnswer side MayReply t from (end_answer t.end p)

-- the kept transfer answers the block that it took last, and nothing else
abbrev pub OldRecall : Side → (DatagramView → Type 0) → TransferView → (from : ℕ) → Answer → Type 0
OldRecall side MayReply t from Again = MayReply (datagram side t.own from (end_packet t.end))
OldRecall side MayReply t from answer = Unit {0}

abbrev pub OldToKept : Side → (DatagramView → Type 0) → Option TransferView → (from : ℕ) → PacketView → Type 0
OldToKept side MayReply None from p = Unit {0}
OldToKept side MayReply (Some t) from p = OldRecall side MayReply t from (end_answer t.end p)

-- a packet between these ports, to another port than that of requests
pub record IsOldPacket (side : Side) (v : EndView) (MayReply : DatagramView → Type 0) (from to : ℕ) (p : PacketView) : Type 0 where
  pub live : belongs v.live from to ≡ true → OldToLive side MayReply v.live from p
  pub kept : belongs v.live from to ≡ false → belongs v.kept from to ≡ true → OldToKept side MayReply v.kept from p

-- These moves change nothing at an end, and post nothing or one datagram of this kind.
abbrev pub AreQuiet : Side → EndView → (DatagramView → Type 0) → List Move → Type 0
AreQuiet side v MayReply moves = (views_after side v moves ≡ v) × Replies MayReply (all_posts side v moves)
