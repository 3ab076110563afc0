-- How an end stands after each move, where nothing is lost (docs/EXCHANGE.md, "A fault-free run completes").
use Rattle.std.specs.Prelude.{◌≡◌, ℕ, ◌+◌, List, ◌++◌, true, Option}
use Rattle.exchange_trace.specs.declared.trace.Side.{Side}
use Rattle.exchange_trace.specs.Happenings.{DatagramView}
use Rattle.tftp_packet.specs.declared.options.Options.{Options}
use Rattle.tftp_packet.specs.Packets.{PacketView}
use Rattle.tftp_link.specs.Answers.{Answer, Grants, TakesBlock, TakesLast, Proceeds, Completes}
use Rattle.tftp_link.specs.Receiver.{Receiver, receiver_answer, receiver_moved, receiver_packet}
use Rattle.tftp_link.specs.Sender.{Sender, sender_answer}
use Rattle.transfer_end.specs.Transfers.{Role, Reads, LinkEnd, Receives, Sends, begin_of, end_answer, end_moved, end_packet}
use Rattle.transfer_end.specs.Views.{EndView, TransferView}
use Rattle.transfer_end.specs.Moves.{Hears, Asks, Serves, datagram, posts_of, view_after}
use Rattle.transfer_completion.specs.Positions.{Position, Rests, HasAsked, IsIn, live_at, IsEndRunning, StandsIn}
use Rattle.transfer_completion.specs.Replies.{acknowledges}

-- the transfer goes on at the packet
abbrev pub IsGoing : Answer → Type 0
IsGoing (Grants options) = Unit {0}
IsGoing (TakesBlock payload) = Unit {0}
IsGoing Proceeds = Unit {0}
IsGoing answer = ⊥

abbrev pub with_live : EndView → Option TransferView → EndView
with_live v live = record { next_port = v.next_port; mark = v.mark; live = live; kept = v.kept; retries = v.retries; last = v.last; asks_size = v.asks_size }

-- the end, with the live transfer that it has where it stands so
abbrev pub placed : EndView → Position → (own peer i : ℕ) → EndView
placed v position own peer i = with_live v (live_at position (own + i) (peer + i))

-- After more posts it stands as it did.
abbrev pub MorePosts : Type 0
MorePosts = (side : Side) (posts new : List DatagramView) (own peer i : ℕ) (position : Position) (v : EndView)
    → StandsIn side posts own peer i position v → StandsIn side (posts ++ new) own peer i position v

-- An end at rest asks.
abbrev pub AsksFromRest : Type 0
AsksFromRest = (side : Side) (posts : List DatagramView) (own peer i : ℕ) (v : EndView) (role : Role) → StandsIn side posts own peer i Rests v
    → StandsIn side (posts ++ posts_of side v (Asks role)) own peer i (HasAsked role) (view_after side v (Asks role))

-- An end at rest takes a request.
abbrev pub ServesFromRest : Type 0
ServesFromRest = (side : Side) (posts : List DatagramView) (own peer i : ℕ) (v : EndView) (role : Role) → StandsIn side posts own peer i Rests v → IsEndRunning (begin_of role)
    → StandsIn side (posts ++ posts_of side v (Serves (peer + i) role)) own peer i (IsIn (begin_of role)) (view_after side v (Serves (peer + i) role))

-- The first answer to its request binds its transfer.
abbrev pub Binds : Type 0
Binds = (side : Side) (posts : List DatagramView) (own peer i : ℕ) (role : Role) (v : EndView) (p : PacketView)
    → IsGoing (end_answer (begin_of role) p) → IsEndRunning (end_moved (begin_of role) (end_answer (begin_of role) p)) → StandsIn side posts own peer i (HasAsked role) v
    → StandsIn side (posts ++ posts_of side (placed v (HasAsked role) own peer i) (Hears (peer + i) p)) own peer i (IsIn (end_moved (begin_of role) (end_answer (begin_of role) p)))
    (view_after side (placed v (HasAsked role) own peer i) (Hears (peer + i) p))

-- A packet moves its transfer.
abbrev pub MovesItsTransfer : Type 0
MovesItsTransfer = (side : Side) (posts : List DatagramView) (own peer i : ℕ) (end : LinkEnd) (v : EndView) (p : PacketView)
    → IsGoing (end_answer end p) → IsEndRunning (end_moved end (end_answer end p)) → StandsIn side posts own peer i (IsIn end) v
    → StandsIn side (posts ++ posts_of side (placed v (IsIn end) own peer i) (Hears (peer + i) p)) own peer i (IsIn (end_moved end (end_answer end p)))
    (view_after side (placed v (IsIn end) own peer i) (Hears (peer + i) p))

-- With the last block the end rests, and keeps the transfer.
abbrev pub TakesTheLast : Type 0
TakesTheLast = (side : Side) (posts : List DatagramView) (own peer i : ℕ) (r : Receiver) (payload : List ℕ) (v : EndView) (p : PacketView)
    → receiver_answer r p ≡ TakesLast payload → acknowledges (datagram side (own + i) (peer + i) (receiver_packet (receiver_moved r (TakesLast payload)))) ≡ true
    → StandsIn side posts own peer i (IsIn (Receives r)) v
    → StandsIn side (posts ++ posts_of side (placed v (IsIn (Receives r)) own peer i) (Hears (peer + i) p)) own peer (i + 1) Rests
    (view_after side (placed v (IsIn (Receives r)) own peer i) (Hears (peer + i) p))

-- The last block may be the first answer to a request.
abbrev pub BindsWithTheLast : Type 0
BindsWithTheLast = (side : Side) (posts : List DatagramView) (own peer i : ℕ) (name : List ℕ) (options : Options) (payload : List ℕ) (v : EndView) (p : PacketView)
    → end_answer (begin_of (Reads name options)) p ≡ TakesLast payload
    → acknowledges (datagram side (own + i) (peer + i) (end_packet (end_moved (begin_of (Reads name options)) (TakesLast payload)))) ≡ true
    → StandsIn side posts own peer i (HasAsked (Reads name options)) v
    → StandsIn side (posts ++ posts_of side (placed v (HasAsked (Reads name options)) own peer i) (Hears (peer + i) p)) own peer (i + 1) Rests
    (view_after side (placed v (HasAsked (Reads name options)) own peer i) (Hears (peer + i) p))

-- With the acknowledgement of its last block the end rests.
abbrev pub LastIsAcknowledged : Type 0
LastIsAcknowledged = (side : Side) (posts : List DatagramView) (own peer i : ℕ) (s : Sender) (v : EndView) (p : PacketView)
    → sender_answer s p ≡ Completes → StandsIn side posts own peer i (IsIn (Sends s)) v
    → StandsIn side (posts ++ posts_of side (placed v (IsIn (Sends s)) own peer i) (Hears (peer + i) p)) own peer (i + 1) Rests
    (view_after side (placed v (IsIn (Sends s)) own peer i) (Hears (peer + i) p))
