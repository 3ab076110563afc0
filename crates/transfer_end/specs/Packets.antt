-- To which transfer a packet belongs, and what else an end's rules ask (docs/EXCHANGE.md, "Transfers").
use Rattle.std.specs.Prelude.{ℕ, List, [], ◌∷◌, Bool, true, false, nat_lt, nat_le, ◌==◌, ◌&&◌, Option, Some, None, if◌then◌else◌}
use Rattle.std.specs.Result.{result_ok}
use Rattle.field_grammar.specs.Answers.{answer}
use Rattle.tftp_packet.specs.declared.options.Options.{Options}
use Rattle.tftp_packet.specs.Packets.{PacketView, packet}
use Rattle.tftp_link.specs.Negotiation.{no_options}
use Rattle.tftp_link.specs.Answers.{Answer, Dropped}
use Rattle.transfer_end.specs.Transfers.{end_answer}
use Rattle.transfer_end.specs.Views.{EndView, TransferView}
use Rattle.transfer_end.specs.Moves.{Move, Hears, Recalls}

-- the packet that bytes spell, if they spell one
unfoldable pub packet_in : List ℕ → Option PacketView
packet_in bytes = result_ok (answer packet bytes)

-- the port is that of the transfer's other end, or that isn't known yet
abbrev pub is_peer : Option ℕ → (from : ℕ) → Bool
is_peer None from = true
is_peer (Some peer) from = peer == from

-- A transfer is named by the ports of both ends.
abbrev pub belongs : Option TransferView → (from to : ℕ) → Bool
belongs None from to = false
belongs (Some t) from to = (to == t.own) && is_peer t.peer from

abbrev pub answer_of : Option TransferView → PacketView → Answer
answer_of None p = Dropped
answer_of (Some t) p = end_answer t.end p

-- what a packet between these ports is to the live transfer
abbrev pub heard_answer : EndView → (from to : ℕ) → PacketView → Answer
heard_answer v from to p = if belongs v.live from to then answer_of v.live p else Dropped

-- the packet comes to the live transfer, or to the kept one, or is dropped
abbrev pub transfer_moves : EndView → (from to : ℕ) → PacketView → List Move
transfer_moves v from to p =
    if belongs v.live from to then Hears from p ∷ []
    else if belongs v.kept from to then Recalls from p ∷ []
    else []

-- a transfer is live
abbrev pub is_busy : EndView → Bool
is_busy v = live_is v.live
  where
    live_is : Option TransferView → Bool
    live_is None = false
    live_is (Some t) = true

-- a port is left to draw
abbrev pub has_port : EndView → Bool
has_port v = nat_lt v.next_port 65536

-- the port was never accepted as that of another end, nor any greater one
abbrev pub is_fresh : EndView → (from : ℕ) → Bool
is_fresh v from = nat_lt v.mark from

-- the next tick repeats; after five retries it gives up
abbrev pub may_repeat : EndView → Bool
may_repeat v = nat_lt v.retries 5

-- what a request asks for where this block size was told: the size, and the length of a file that it sends, or 0
abbrev pub wanted_options : Option ℕ → (file_length : ℕ) → Options
wanted_options None file_length = no_options
wanted_options (Some size) file_length =
    if nat_le 8 size && nat_le size 65464 then record { blksize = Some size; timeout = None; tsize = Some file_length } else no_options
