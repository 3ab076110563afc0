-- What the code's types mean, and what a call does (docs/EXCHANGE.md, "Transfers").
use Rattle.std.specs.Prelude.{◌≡◌, ℕ, ◌+◌, max, List, [], ◌∷◌, ◌++◌, Bool, true, false, Option, Some, None, if◌then◌else◌}
use Rattle.exchange_trace.specs.declared.trace.Datagram.{Datagram}
use Rattle.exchange_trace.specs.declared.trace.Side.{Side}
use Rattle.exchange_trace.specs.Happenings.{DatagramView, datagram_view}
use Rattle.tftp_packet.specs.Packets.{PacketView}
use Rattle.tftp_link.specs.Answers.{NewsView, Last, Done, PeerError}
use Rattle.transfer_end.specs.declared.file_end.FileEnd.{FileEnd}
use Rattle.transfer_end.specs.declared.file_end.FileEnd.TheVariants.{Receiving, Sending}
use Rattle.transfer_end.specs.declared.posts.Posts.{Posts}
use Rattle.transfer_end.specs.declared.transfer.Transfer as declared
use Rattle.transfer_end.specs.Moves.{Move, Recalls, all_posts, bound, kept_after, last_of, mark_bound, recalled_post, views_after}
use Rattle.transfer_end.specs.Packets.{belongs}
use Rattle.transfer_end.specs.Transfers.{LinkEnd, Receives, Sends, end_answer, is_received}
use Rattle.transfer_end.specs.Views.{EndView, TransferView}

abbrev pub end_seen : FileEnd → LinkEnd
end_seen (Receiving r) = Receives r
end_seen (Sending s) = Sends s

abbrev pub transfer_seen : declared.Transfer → TransferView
transfer_seen t = record { own = t.own; peer = t.peer; end = end_seen t.end }

-- a file was received whole in the transfer that is kept
abbrev pub is_whole : Option declared.Transfer → Bool
is_whole None = true
is_whole (Some t) = is_received (end_seen t.end)

-- the datagram that a call posts, if it posts one
abbrev pub posted : Option Datagram → List DatagramView
posted None = []
posted (Some d) = datagram_view d ∷ []

-- what a side posts in a step
abbrev pub posts_view : Posts → List DatagramView
posts_view posts = posted posts.first ++ posted posts.second

-- A call makes these moves and no others: what the end keeps then, and all that it posts.
pub record Makes (side : Side) (moves : List Move) (before after : EndView) (sent : List DatagramView) : Type 0 where
  pub keeps : after ≡ views_after side before moves
  pub posts : sent ≡ all_posts side before moves

-- what is told of a packet that ends its transfer
abbrev pub ends_transfer : NewsView → Bool
ends_transfer (Last payload) = true
ends_transfer Done = true
ends_transfer (PeerError code) = true
ends_transfer news = false

-- ---- a packet for the live transfer

abbrev pub with_live : EndView → Option TransferView → EndView
with_live v live = record { next_port = v.next_port; mark = v.mark; live = live; kept = v.kept; retries = v.retries; last = v.last; asks_size = v.asks_size }

-- the transfer, where this is what its end knows
abbrev pub with_end : TransferView → LinkEnd → TransferView
with_end t end = record { own = t.own; peer = t.peer; end = end }

-- What is kept after a packet that was awaited, where the transfer is this one then, and over or not, and these were posted.
abbrev pub view_awaited : EndView → (t : TransferView) → (from : ℕ) → (over : Bool) → List DatagramView → EndView
view_awaited v t from over posts = record {
  next_port = v.next_port;
  mark = mark_bound v.mark t.peer from;
  live = if over then None else Some (bound t from t.end);
  kept = if over then kept_after t.end (bound t from t.end) v.kept else v.kept;
  retries = 0;
  last = last_of v.last posts;
  asks_size = v.asks_size;
}

abbrev pub with_last : EndView → Option DatagramView → EndView
with_last v last = record { next_port = v.next_port; mark = v.mark; live = v.live; kept = v.kept; retries = v.retries; last = last; asks_size = v.asks_size }

-- the move at a packet that isn't one of the live transfer
abbrev pub recalling : EndView → (from to : ℕ) → PacketView → List Move
recalling v from to p = if belongs v.kept from to then Recalls from p ∷ [] else []

-- what the kept transfer posts at a packet between these ports
abbrev pub recalled : Side → TransferView → (from to : ℕ) → PacketView → List DatagramView
recalled side t from to p = if belongs (Some t) from to then recalled_post side t from (end_answer t.end p) else []

-- ---- a transfer that begins

-- the port of a request that is taken is marked, and ticks are counted anew
abbrev pub marked : EndView → (from : ℕ) → EndView
marked v from = record { next_port = v.next_port; mark = max v.mark from; live = v.live; kept = v.kept; retries = 0; last = v.last; asks_size = v.asks_size }

-- A transfer began at the next port, in which this was posted first.
abbrev pub view_opened : EndView → Option ℕ → LinkEnd → DatagramView → EndView
view_opened v peer end first = record {
  next_port = v.next_port + 1;
  mark = v.mark;
  live = Some (record { own = v.next_port; peer = peer; end = end });
  kept = v.kept;
  retries = v.retries;
  last = Some first;
  asks_size = v.asks_size;
}
