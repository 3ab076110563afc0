-- What arrived of a file, by the positions of its blocks among the packets of the transfer (RFC 1350, section 2;
-- docs/EXCHANGE.md, "What arrived").
use Rattle.std.specs.Prelude.{◌≡◌, ℕ, ◌+◌, ◌<◌, List, [], ◌∷◌, ◌++◌, length, Bool, true, false, nat_lt, ◌==◌, ◌&&◌, if◌then◌else◌, MatchBool}
use Rattle.std.specs.List.{AllByRecursion, concat}
use Rattle.tftp_packet.specs.declared.options.Options.{Options}
use Rattle.tftp_packet.specs.Packets.{PacketView, Data, Error, Oack}
use Rattle.tftp_link.specs.Negotiation.{block_size_of, may_grant}
use Rattle.tftp_link.specs.Blocks.{is_block}

-- ---- which packets are those of the transfer, and the block size that holds among them

-- the packet may be the first answer to a request to read with these options
abbrev pub answers_read : Options → PacketView → Bool
answers_read asked (Data block payload) = (block == 1) && is_block 512 block payload
answers_read asked (Oack options) = may_grant asked options
answers_read asked (Error code message) = true
answers_read asked packet = false

-- the packets from the first that passes on, this one included
abbrev pub from_first : (PacketView → Bool) → List PacketView → List PacketView
from_first passes [] = []
from_first passes (packet ∷ packets) = if passes packet then packet ∷ packets else from_first passes packets

-- The block size of a transfer that was asked for: that of the OACK that answered the request, which is its first packet,
-- and 512 without one.
abbrev pub bound_size : List PacketView → ℕ
bound_size (Oack options ∷ packets) = block_size_of options
bound_size packets = 512

-- ---- what arrived

-- the packet is an ERROR
abbrev pub IsErrorPacket : PacketView → Type 0
IsErrorPacket (Error code message) = Unit {0}
IsErrorPacket packet = ⊥

-- the packet carries block k
abbrev pub IsBlock : (size k : ℕ) → PacketView → Type 0
IsBlock size k (Data block payload) = (block ≡ k) × (is_block size k payload ≡ true)
IsBlock size k packet = ⊥

-- the packet neither carries block k nor ends the transfer
abbrev pub PassesBlock : (size k : ℕ) → PacketView → Type 0
PassesBlock size k packet = (IsErrorPacket packet → ⊥) × (IsBlock size k packet → ⊥)

-- nothing follows, or an ERROR first
abbrev pub BeginsWithError : List PacketView → Type 0
BeginsWithError [] = Unit {0}
BeginsWithError (packet ∷ packets) = IsErrorPacket packet

-- From block k on, blocks with these payloads stand among the packets, each the first of its number after the one before,
-- up to a short one, an ERROR or the end.
abbrev pub Stand : (size k : ℕ) → List PacketView → List (List ℕ) → Type 0
Stand size k packets [] =
    (before : List PacketView) × (rest : List PacketView) × (packets ≡ before ++ rest) × AllByRecursion (PassesBlock size k) before × BeginsWithError rest
Stand size k packets (payload ∷ payloads) =
    (before : List PacketView) × (rest : List PacketView) × (packets ≡ before ++ Data k payload ∷ rest) × AllByRecursion (PassesBlock size k) before
    × (is_block size k payload ≡ true) × MatchBool (nat_lt (length payload) size) (payloads ≡ []) (Stand size (k + 1) rest payloads)

-- the last of these payloads is shorter than the block size
abbrev pub EndsShort : (size : ℕ) → List (List ℕ) → Type 0
EndsShort size [] = ⊥
EndsShort size (payload ∷ []) = length payload < size
EndsShort size (payload ∷ next ∷ payloads) = EndsShort size (next ∷ payloads)

-- these bytes arrived so far among the packets of a transfer with this block size
pub record ArrivedSoFar (size : ℕ) (packets : List PacketView) (bytes : List ℕ) : Type 0 where
  pub payloads : List (List ℕ)
  pub stand : Stand size 1 packets payloads
  pub joined : concat payloads ≡ bytes

-- these bytes arrived whole
pub record Arrived (size : ℕ) (packets : List PacketView) (bytes : List ℕ) : Type 0 where
  pub payloads : List (List ℕ)
  pub stand : Stand size 1 packets payloads
  pub short : EndsShort size payloads
  pub joined : concat payloads ≡ bytes
