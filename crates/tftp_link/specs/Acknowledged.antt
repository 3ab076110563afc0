-- Which blocks of a file were acknowledged, by the positions of the ACKs among the packets of the transfer (RFC 1350,
-- section 2; docs/EXCHANGE.md, "The sending end").
use Rattle.std.specs.Prelude.{◌≡◌, ℕ, zero, suc, ◌+◌, List, ◌∷◌, ◌++◌, Bool, true, false, ◌==◌, ◌&&◌, MatchBool}
use Rattle.std.specs.List.{AllByRecursion}
use Rattle.tftp_packet.specs.declared.options.Options.{Options}
use Rattle.tftp_packet.specs.Packets.{PacketView, Ack, Error, Oack}
use Rattle.tftp_link.specs.Negotiation.{may_grant, fits_said}
use Rattle.tftp_link.specs.Arrival.{IsErrorPacket, BeginsWithError}

-- the packet may be the first answer to a request to write a file of this length with these options
abbrev pub answers_write : (file_length : ℕ) → Options → PacketView → Bool
answers_write file_length asked (Ack block) = block == 0
answers_write file_length asked (Oack options) = may_grant asked options && fits_said file_length options.blksize
answers_write file_length asked (Error code message) = true
answers_write file_length asked packet = false

-- the packet acknowledges block k
abbrev pub AcknowledgesBlock : (k : ℕ) → PacketView → Type 0
AcknowledgesBlock k (Ack block) = block ≡ k
AcknowledgesBlock k packet = ⊥

-- the packet neither acknowledges block k nor ends the transfer
abbrev pub PassesAck : (k : ℕ) → PacketView → Type 0
PassesAck k packet = (IsErrorPacket packet → ⊥) × (AcknowledgesBlock k packet → ⊥)

-- From block k on, this many blocks of a file with this many were acknowledged: their ACKs stand among the packets, each the
-- first of its number after the one before, up to that of the last block, an ERROR or the end.
abbrev pub AcksStand : (last k : ℕ) → List PacketView → (count : ℕ) → Type 0
AcksStand last k packets zero =
    (before : List PacketView) × (rest : List PacketView) × (packets ≡ before ++ rest) × AllByRecursion (PassesAck k) before × BeginsWithError rest
AcksStand last k packets (suc count) =
    (before : List PacketView) × (rest : List PacketView) × (packets ≡ before ++ Ack k ∷ rest) × AllByRecursion (PassesAck k) before
    × MatchBool (k == last) (count ≡ 0) (AcksStand last (k + 1) rest count)
