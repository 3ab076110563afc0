-- What an end keeps is enough (docs/EXCHANGE.md, "Transfers").
use Rattle.std.specs.Prelude.{◌≡◌, ◌⊎◌, ℕ, ◌+◌, List, [], ◌∷◌, length, true, Option, Some, None, ⊤}
use Rattle.exchange_trace.specs.declared.trace.Side.{Side}
use Rattle.tftp_packet.specs.declared.options.Options.{Options}
use Rattle.tftp_packet.specs.Packets.{Ack, PacketView}
use Rattle.tftp_link.specs.Answers.{is_live, is_sent_by}
use Rattle.tftp_link.specs.Laws.{lent}
use Rattle.tftp_link.specs.Receiver.{Receiver, receiver_after, receiver_after_all, receiver_answer, receiver_asking, receiver_first, receiver_packet, receiver_serving}
use Rattle.tftp_link.specs.Sender.{Sender, data_of, sender_after, sender_after_all, sender_answer, sender_asking, sender_packet, sender_serving}
use Rattle.transfer_end.specs.Transfers.{Reads, Receives, Sends, ServesRead, ServesWrite, Transfer, Writes, end_in, end_of, phase_of, taken_from}
use Rattle.transfer_end.specs.Readings.{Reading}
use Rattle.transfer_end.specs.Views.{end_view}
use Rattle.transfer_end.specs.Moves.{Move, past_with, view_after, reading_after, views_after, readings_after}

-- the transfer that the log says is live isn't over
abbrev pub IsLive : Option Transfer → Type 0
IsLive None = ⊤
IsLive (Some t) = is_live (phase_of (end_in t)) ≡ true

-- after a move, what the end keeps is what is kept of the log then
abbrev pub ViewFollows : Type 0
ViewFollows = (side : Side) (r : Reading) (move : Move) → IsLive r.live
    → (view_after side (end_view r) move ≡ end_view (reading_after side r move)) × IsLive (reading_after side r move).live

-- and so after several
abbrev pub ViewsFollow : Type 0
ViewsFollow = (side : Side) (r : Reading) (moves : List Move) → IsLive r.live
    → (views_after side (end_view r) moves ≡ end_view (readings_after side r moves)) × IsLive (readings_after side r moves).live

-- What arrives of a file that a side receives are the payloads that its end of the transfer lends, so that it is what
-- arrived by the positions of the blocks among the packets (tftp_link).
abbrev pub TakenIsLent : Type 0
TakenIsLent = (r : Receiver) (got : List PacketView) → taken_from (Receives r) got ≡ lent r got

-- ---- what RFC 1350 asks of both ends, packet by packet

-- The end of a transfer is that of tftp_link after all packets of the transfer, to which the laws of tftp_link apply.
abbrev pub EndIsOfLink : Type 0
EndIsOfLink = (name file : List ℕ) (options : Options) (got : List PacketView)
    → (end_of (Reads name options) got ≡ Receives (receiver_after_all (receiver_asking name options) got))
    × (end_of (ServesWrite name options) got ≡ Receives (receiver_after_all (receiver_serving options) got))
    × (end_of (Writes name options file) got ≡ Sends (sender_after_all (sender_asking name file options) got))
    × (end_of (ServesRead name options file) got ≡ Sends (sender_after_all (sender_serving file options) got))

-- A sending end answers a packet with nothing, or with the block after the one that it sent last: so blocks go out as 1, 2,
-- 3 .. of the file, each first once, and none goes out again at a packet.
abbrev pub SendsNextBlock : Type 0
SendsNextBlock = (s : Sender) (packet : PacketView) → is_sent_by (sender_answer s packet) ≡ true
    → (sender_after s packet).sent ≡ s.sent + 1
    × (sender_packet (sender_after s packet) ≡ data_of s.file (sender_after s packet).size (s.sent + 1))

-- A receiving end acknowledges what it took last: the block that came just now, or the same block or OACK that came again.
abbrev pub AcknowledgesTaken : Type 0
AcknowledgesTaken = (r : Receiver) (packet : PacketView) → is_sent_by (receiver_answer r packet) ≡ true
    → (receiver_packet (receiver_after r packet) ≡ Ack (receiver_after r packet).taken) ⊎ (receiver_packet (receiver_after r packet) ≡ receiver_first r)

-- ---- ports

-- the own ports of these transfers, the newest first, count up from the first one, one for each transfer
abbrev pub CountUp : (first_port : ℕ) → List Transfer → Type 0
CountUp first_port [] = ⊤
CountUp first_port (t ∷ earlier) = (t.own ≡ first_port + length earlier) × CountUp first_port earlier

-- so it is with all transfers of a log: own ports strictly rise, and none serves two transfers
abbrev pub PortsCountUp : Reading → Type 0
PortsCountUp r = CountUp r.first_port (past_with r.live r.past)

abbrev pub MovesCountUp : Type 0
MovesCountUp = (side : Side) (r : Reading) (moves : List Move) → PortsCountUp r → PortsCountUp (readings_after side r moves)
