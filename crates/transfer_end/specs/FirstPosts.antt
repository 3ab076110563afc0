-- The order in which the blocks of a file are first posted (RFC 1350, section 2; docs/EXCHANGE.md, "Transfers").
use Rattle.std.specs.Prelude.{◌≡◌, ℕ, zero, suc, ◌<◌, List, [], ◌∷◌, ◌++◌, length, map, filter, ◌==◌, Some, if◌then◌else◌}
use Rattle.std.specs.List.{AllByRecursion}
use Rattle.tftp_packet.specs.Packets.{Oack, PacketView, Wrq, packet_bytes}
use Rattle.tftp_link.specs.Negotiation.{asked_by_writer, granted_to_reader, is_empty}
use Rattle.tftp_link.specs.Sender.{data_of}
use Rattle.exchange_trace.specs.declared.trace.Side.{Side}
use Rattle.exchange_trace.specs.Happenings.{DatagramView}
use Rattle.exchange_trace.specs.Logs.{Event}
use Rattle.transfer_end.specs.Laws.{IsLive, PortsCountUp}
use Rattle.transfer_end.specs.Moves.{Move, all_posts, past_with, readings_after}
use Rattle.transfer_end.specs.OtherEnds.{Among, IsNoTick, MovesFit, file_sent, end_block_size}
use Rattle.transfer_end.specs.Readings.{Reading, kept_in, next_port_of}
use Rattle.transfer_end.specs.Transfers.{LinkEnd, Receives, Role, Sends, ServesRead, Transfer, Writes, end_in}
use Rattle.transfer_end.specs.Views.{end_view, seen}

-- the bytes of the datagrams from this port, in the order of their posts
abbrev pub posted_from : (port : ℕ) → List DatagramView → List (List ℕ)
posted_from port posts = map (λ (d : DatagramView). d.bytes) (filter (λ (d : DatagramView). d.from == port) posts)

-- blocks 1 to n of a file
abbrev pub blocks_of : (file : List ℕ) → (size n : ℕ) → List PacketView
blocks_of file size zero = []
blocks_of file size (suc n) = blocks_of file size n ++ data_of file size (suc n) ∷ []

-- what a side that sends a file sends before its first block: its request, or the OACK that answers one
abbrev pub opening : Role → List PacketView
opening (Writes name options file) = Wrq name (asked_by_writer (length file) options) ∷ []
opening (ServesRead name options file) = if is_empty (granted_to_reader (length file) options) then [] else Oack (granted_to_reader (length file) options) ∷ []
opening role = []

-- the number of the block that an end sent last, 0 before the first
abbrev pub sent_by : LinkEnd → ℕ
sent_by (Receives r) = 0
sent_by (Sends s) = s.sent

-- Where these were posted, ticks aside: what a sending side posted from its own port of the transfer are its request or
-- OACK, if it has one, and then blocks 1, 2, 3 .. of its file in their order, each once.
abbrev pub PostsInOrder : List DatagramView → Transfer → Type 0
PostsInOrder posts t = (file : List ℕ) → file_sent t.role ≡ Some file
    → posted_from t.own posts ≡ map packet_bytes (opening t.role ++ blocks_of file (end_block_size (end_in t)) (sent_by (end_in t)))

-- so it is of all transfers of a log, and no datagram came from a port that was not drawn yet
pub record AllInOrder (r : Reading) (posts : List DatagramView) : Type 0 where
  pub each : (t : Transfer) → Among t (past_with r.live r.past) → PostsInOrder posts t
  pub below : AllByRecursion (λ (d : DatagramView). d.from < next_port_of r) posts

-- Whatever moves a side makes at an event that is no tick, its blocks go out in their order.
abbrev pub MovesPostInOrder : Type 0
MovesPostInOrder = (side : Side) (e : Event) (r : Reading) (moves : List Move) (posts : List DatagramView) → IsNoTick e → MovesFit e (seen r.live) (seen (kept_in r.past)) moves → IsLive r.live → PortsCountUp r → 59 < r.first_port
    → AllInOrder r posts → AllInOrder (readings_after side r moves) (posts ++ all_posts side (end_view r) moves)
