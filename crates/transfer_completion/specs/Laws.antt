-- What holds of a transfer of which nothing is lost (docs/EXCHANGE.md, "A fault-free run completes").
use Rattle.std.specs.Prelude.{◌≡◌, ◌⊎◌, ℕ, ◌+◌, ◌*◌, ◌<◌, ◌≤◌, List, [], ◌++◌, length, Bool, true, false, ◌==◌, Option, Some}
use Rattle.field_grammar.specs.Grammar.{IsBytes}
use Rattle.exchange_trace.specs.declared.trace.Side.{Side}
use Rattle.exchange_trace.specs.Happenings.{DatagramView}
use Rattle.tftp_packet.specs.Packets.{PacketView, Ack, packet_bytes, Rrq, Wrq}
use Rattle.tftp_link.specs.declared.phase.Phase.TheVariants.{Finished, Running}
use Rattle.tftp_link.specs.Answers.{Answer, Dropped, Again, Grants, TakesBlock, TakesLast, Proceeds, Completes}
use Rattle.tftp_link.specs.Negotiation.{block_count}
use Rattle.tftp_link.specs.Receiver.{Receiver, receiver_asking, receiver_serving, receiver_answer, receiver_moved, receiver_packet}
use Rattle.tftp_link.specs.Sender.{Sender, sender_asking, sender_serving, sender_answer, sender_moved, sender_packet}
use Rattle.transfer_end.specs.Moves.{datagram}
use Rattle.transfer_end.specs.Packets.{is_busy, is_fresh, packet_in, transfer_moves, wanted_options}
use Rattle.transfer_end.specs.Transfers.{LinkEnd, Receives, Sends, end_answer, end_packet}
use Rattle.transfer_end.specs.Views.{EndView}
use Rattle.transfer_completion.specs.Positions.{IsBehind, IsPast, IsEndRunning, Position, StandsIn}
use Rattle.transfer_completion.specs.Replies.{AreQuiet, IsOldPacket, IsReplyTo, acknowledges}
use Rattle.transfer_completion.specs.Talks.{FitsBlocks, Talk, left_down, left_up, taken_of}
use Rattle.load_base.specs.Name.{IsName}

-- ---- the packet that is on its way

-- A packet moved the receiving end: what that end sends then is on its way, the payload goes on with what was taken, and
-- the packet is behind it.
pub record MovesReceiver (file : List ℕ) (s : Sender) (r next : Receiver) (p : PacketView) (payload : List ℕ) : Type 0 where
  pub talk : Talk file s next false (receiver_packet next)
  pub taken : taken_of file next ≡ taken_of file r ++ payload
  pub later : r.taken ≤ next.taken
  pub behind : IsBehind (Receives next) p
  pub left : left_up file next < left_down file r p

abbrev pub GoesOnAtReceiver : List ℕ → Sender → Receiver → PacketView → Answer → Type 0
GoesOnAtReceiver file s r p (Grants options) = MovesReceiver file s r (receiver_moved r (Grants options)) p []
GoesOnAtReceiver file s r p (TakesBlock payload) = MovesReceiver file s r (receiver_moved r (TakesBlock payload)) p payload
GoesOnAtReceiver file s r p (TakesLast payload) = MovesReceiver file s r (receiver_moved r (TakesLast payload)) p payload
GoesOnAtReceiver file s r p answer = ⊥

-- It moves the receiving end.
abbrev pub ReceiverGoesOn : Type 0
ReceiverGoesOn = (file : List ℕ) (s : Sender) (r : Receiver) (p : PacketView) → Talk file s r true p → GoesOnAtReceiver file s r p (receiver_answer r p)

-- A packet moved the sending end: what that end sends then is on its way, and the packet is behind it.
pub record MovesSender (file : List ℕ) (s next : Sender) (r : Receiver) (p : PacketView) : Type 0 where
  pub talk : Talk file next r true (sender_packet next)
  pub later : s.sent ≤ next.sent
  pub behind : IsBehind (Sends next) p
  pub left : left_down file r (sender_packet next) < left_up file r

abbrev pub GoesOnAtSender : List ℕ → Sender → Receiver → PacketView → Answer → Type 0
GoesOnAtSender file s r p (Grants options) = MovesSender file s (sender_moved s (Grants options)) r p
GoesOnAtSender file s r p Proceeds = MovesSender file s (sender_moved s Proceeds) r p
GoesOnAtSender file s r p Completes = r.phase ≡ Finished
GoesOnAtSender file s r p answer = ⊥

-- It moves the sending end, or acknowledges the last block to it.
abbrev pub SenderGoesOn : Type 0
SenderGoesOn = (file : List ℕ) (s : Sender) (r : Receiver) (p : PacketView) → Talk file s r false p → GoesOnAtSender file s r p (sender_answer s p)

-- ---- where the transfer stands

-- The receiving end took the last block, and acknowledges it.
pub record TookLastBlock (file : List ℕ) (s : Sender) (r : Receiver) (p : PacketView) : Type 0 where
  pub running : s.phase ≡ Running
  pub of_file : s.file ≡ file
  pub size : r.size ≡ s.size
  pub fits : FitsBlocks file s.size
  pub sent : r.taken ≡ s.sent
  pub last : s.sent ≡ block_count (length file) s.size
  pub packet : p ≡ Ack s.sent
  pub taken : taken_of file r ≡ file

abbrev pub FinishedIsWhole : Type 0
FinishedIsWhole = (file : List ℕ) (s : Sender) (r : Receiver) (p : PacketView) → Talk file s r false p → r.phase ≡ Finished → TookLastBlock file s r p

-- The numbers of blocks fit their two bytes, and what is on its way is read as what was sent.
abbrev pub TakenIsSmall : Type 0
TakenIsSmall = (file : List ℕ) (s : Sender) (r : Receiver) (to_receiver : Bool) (p : PacketView) → Talk file s r to_receiver p → r.taken < 65536

abbrev pub TalkIsRead : Type 0
TalkIsRead = (file : List ℕ) (s : Sender) (r : Receiver) (to_receiver : Bool) (p : PacketView) → Talk file s r to_receiver p → IsBytes file
    → packet_in (packet_bytes p) ≡ Some p

-- ---- how a transfer begins

-- A request to read is answered with a packet that is on its way then, whatever block size was told.
abbrev pub ReadingBegins : Type 0
ReadingBegins = (name file : List ℕ) (told : Option ℕ) → FitsBlocks file 512
    → Talk file (sender_serving file (wanted_options told 0)) (receiver_asking name (wanted_options told 0)) true (sender_packet (sender_serving file (wanted_options told 0)))
    × (left_down file (receiver_asking name (wanted_options told 0)) (sender_packet (sender_serving file (wanted_options told 0))) < 2 * length file + 5)

-- and so is a request to write
abbrev pub WritingBegins : Type 0
WritingBegins = (name file : List ℕ) (told : Option ℕ) → FitsBlocks file 512
    → Talk file (sender_asking name file (wanted_options told (length file))) (receiver_serving (sender_asking name file (wanted_options told (length file))).options) false
    (receiver_packet (receiver_serving (sender_asking name file (wanted_options told (length file))).options))
    × (left_up file (receiver_serving (sender_asking name file (wanted_options told (length file))).options) < 2 * length file + 5)

-- ---- what came before

abbrev pub IsNoAck : PacketView → Type 0
IsNoAck (Ack k) = ⊥
IsNoAck p = Unit {0}

-- A packet that is this to an end is dropped, or is no acknowledgement and answered with the one that was sent last.
abbrev pub IsStale : Side → (own peer : ℕ) → LinkEnd → PacketView → Answer → Type 0
IsStale side own peer end p a = (a ≡ Dropped) ⊎ ((a ≡ Again) × IsNoAck p × (acknowledges (datagram side own peer (end_packet end)) ≡ true))

-- What came in a transfer before what comes next is stale in it.
abbrev pub BehindIsStale : Type 0
BehindIsStale = (side : Side) (own peer : ℕ) (end : LinkEnd) (p : PacketView) → IsEndRunning end → IsBehind end p → IsStale side own peer end p (end_answer end p)

-- ---- what was posted to an end before

-- What is behind an end is old there, to the live transfer and to the kept one.
abbrev pub PastIsOld : Type 0
PastIsOld = (may_ask may_hurry : PacketView → Bool) (side : Side) (posts : List DatagramView) (own peer i : ℕ) (position : Position) (v : EndView) (d : DatagramView) (p : PacketView)
    → StandsIn side posts own peer i position v → packet_in d.bytes ≡ Some p → IsPast may_ask may_hurry own peer i position d → (d.to == 59) ≡ false
    → IsOldPacket side v (IsReplyTo posts d) d.from d.to p

-- So it changes nothing there, and is answered by nothing, or by one datagram that was posted before and has less weight.
abbrev pub PastIsQuiet : Type 0
PastIsQuiet = (may_ask may_hurry : PacketView → Bool) (side : Side) (posts : List DatagramView) (own peer i : ℕ) (position : Position) (v : EndView) (d : DatagramView) (p : PacketView)
    → StandsIn side posts own peer i position v → packet_in d.bytes ≡ Some p → IsPast may_ask may_hurry own peer i position d → (d.to == 59) ≡ false
    → AreQuiet side v (IsReplyTo posts d) (transfer_moves v d.from d.to p)

-- A request that is behind an end came from a port that it has accepted, or comes while the end is busy.
abbrev pub PastRequestIsSpent : Type 0
PastRequestIsSpent = (may_ask may_hurry : PacketView → Bool) (side : Side) (posts : List DatagramView) (own peer i : ℕ) (position : Position) (v : EndView) (d : DatagramView) (p : PacketView)
    → StandsIn side posts own peer i position v → 59 < own → packet_in d.bytes ≡ Some p → IsPast may_ask may_hurry own peer i position d → (d.to == 59) ≡ true
    → ((is_fresh v d.from ≡ false) × (may_ask p ≡ true)) ⊎ ((is_busy v ≡ true) × (may_hurry p ≡ true))

-- ---- requests

-- A request of a named file is read as what was asked, whatever block size was told.
abbrev pub RequestsAreRead : Type 0
RequestsAreRead = (name file : List ℕ) (told : Option ℕ) → IsName name → FitsBlocks file 512
    → (packet_in (packet_bytes (Rrq name (wanted_options told 0))) ≡ Some (Rrq name (wanted_options told 0)))
    × (packet_in (packet_bytes (Wrq name (sender_asking name file (wanted_options told (length file))).options))
    ≡ Some (Wrq name (sender_asking name file (wanted_options told (length file))).options))
