-- What datagrams weigh: one that nothing answers, where it changes nothing, weighs less than others.
use Rattle.std.proofs.Common.{◌≡◌, ℕ, ◌+◌, ◌<◌, ◌≤◌, Bool, true, false, cond, List, [], ◌∷◌, ◌++◌, Option, Some, refl, ap, arith}
use Rattle.field_grammar.specs.Grammar.{IsBytes}
use Rattle.exchange_trace.specs.declared.trace.Side.{Side}
use Rattle.exchange_trace.specs.Happenings.{DatagramView}
use Rattle.tftp_packet.specs.Packets.{Ack, Data, Error, Oack, PacketSpells, PacketView, Rrq, Wrq}
use Rattle.transfer_end.specs.Moves.{datagram}
use Rattle.transfer_end.specs.Packets.{packet_in}
use Rattle.transfer_end.proofs.SentPacketLemmas.{read_is_spelled, written_is_read}

-- an acknowledgement or an ERROR
abbrev pub is_reply : Option PacketView → Bool
is_reply (Some (Ack k)) = true
is_reply (Some (Error code message)) = true
is_reply p = false

abbrev pub weight_of : Option PacketView → ℕ
weight_of p = cond (is_reply p) 1 2

abbrev pub weight : DatagramView → ℕ
weight d = weight_of (packet_in d.bytes)

abbrev pub total : List DatagramView → ℕ
total [] = 0
total (d ∷ ds) = weight d + total ds

some_by : (b : Bool) → 0 < cond b 1 2
some_by true = omega arith
some_by false = omega arith

most_by : (b : Bool) → cond b 1 2 ≤ 2
most_by true = omega arith
most_by false = omega arith

pub some_weight : (p : Option PacketView) → 0 < weight_of p
some_weight p = some_by (is_reply p)

pub most_weight : (p : Option PacketView) → weight_of p ≤ 2
most_weight p = most_by (is_reply p)

pub total_more : (ds es : List DatagramView) → total (ds ++ es) ≡ total ds + total es
total_more [] es = omega arith
total_more (d ∷ ds) es = let e = total_more ds es in omega arith

pub ack_weight : (side : Side) (from to k : ℕ) → k < 65536 → weight (datagram side from to (Ack k)) ≡ 1
ack_weight side from to k small = ap weight_of (written_is_read (Ack k) (omega (arith, small)) tt)

pub error_weight : (side : Side) (from to : ℕ) → weight (datagram side from to (Error 1 [])) ≡ 1
error_weight side from to = ap weight_of (written_is_read (Error 1 []) (omega arith, λ n. omega arith) refl)

-- ---- numbers of blocks that come

-- the number of a block, where the packet has one, has two bytes
abbrev pub IsNumbered : PacketView → Type 0
IsNumbered (Ack k) = k < 65536
IsNumbered (Data k payload) = k < 65536
IsNumbered p = Unit {0}

spelled_numbered : (p : PacketView) (bytes : List ℕ) → PacketSpells p bytes → IsNumbered p
spelled_numbered (Rrq name options) bytes is = tt
spelled_numbered (Wrq name options) bytes is = tt
spelled_numbered (Data k payload) bytes is = let small = is.number in omega (arith, small)
spelled_numbered (Ack k) bytes is = let small = is.number in omega (arith, small)
spelled_numbered (Error code message) bytes is = tt
spelled_numbered (Oack options) bytes is = tt

pub read_numbered : (bytes : List ℕ) (p : PacketView) → IsBytes bytes → packet_in bytes ≡ Some p → IsNumbered p
read_numbered bytes p fit e = spelled_numbered p bytes (read_is_spelled bytes p fit e)
