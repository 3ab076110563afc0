-- Where datagrams go (docs/EXCHANGE.md, "Transfers").
use Rattle.std.specs.Prelude.{◌≡◌, ◌⊎◌, ℕ, List, [], true, Some}
use Rattle.std.specs.List.{AllByRecursion}
use Rattle.tftp_packet.specs.Packets.{Error, PacketView}
use Rattle.tftp_link.specs.Answers.{is_sent_by}
use Rattle.exchange_trace.specs.declared.trace.Side.{Side}
use Rattle.exchange_trace.specs.Happenings.{DatagramView}
use Rattle.exchange_trace.specs.Logs.{Event, Gets, Ticks}
use Rattle.transfer_end.specs.Moves.{datagram, request}
use Rattle.transfer_end.specs.Packets.{belongs, is_fresh, packet_in}
use Rattle.transfer_end.specs.Transfers.{Role, end_after, end_answer, end_packet, first_packet}
use Rattle.transfer_end.specs.Views.{EndView, TransferView}

-- A datagram that a side posts at an event, where it keeps this, is one of these and no other.
pub data IsPlaced (side : Side) (v : EndView) (e : Event) (d : DatagramView) : Type 0 where
  -- a request, from the next own port to port 59
  is_request : (role : Role) → d ≡ request side v.next_port role → IsPlaced side v e d
  -- an answer to a packet of the live or the kept transfer, back to where that came from: what its end sends at the packet
  is_answer : (t : TransferView) (p : PacketView) (from to : ℕ) (bytes : List ℕ) → e ≡ Gets from to bytes → packet_in bytes ≡ Some p
      → (v.live ≡ Some t) ⊎ (v.kept ≡ Some t) → belongs (Some t) from to ≡ true → is_sent_by (end_answer t.end p) ≡ true
      → d ≡ datagram side to from (end_packet (end_after t.end p)) → IsPlaced side v e d
  -- the answer to a request that is taken, which came from a port above the mark; from the next own port
  is_first : (role : Role) (from to : ℕ) (bytes : List ℕ) → e ≡ Gets from to bytes → to ≡ 59 → is_fresh v from ≡ true
      → d ≡ datagram side v.next_port from (first_packet role) → IsPlaced side v e d
  -- the answer to a request that is refused: ERROR 1 from port 59
  is_refusal : (from to : ℕ) (bytes : List ℕ) → e ≡ Gets from to bytes → to ≡ 59 → d ≡ datagram side 59 from (Error 1 []) → IsPlaced side v e d
  -- at a tick, what was posted last
  is_repeat : e ≡ Ticks → v.last ≡ Some d → IsPlaced side v e d

abbrev pub ArePlaced : Side → EndView → Event → List DatagramView → Type 0
ArePlaced side v e posts = AllByRecursion (IsPlaced side v e) posts
