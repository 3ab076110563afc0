-- What holds of a transfer, whatever packets come (docs/EXCHANGE.md).
use Rattle.std.specs.Prelude.{◌≡◌, ◌↔◌, ℕ, ◌+◌, ◌≤◌, ◌==◌, min, List, [], ◌∷◌, ◌++◌, length, true, if◌then◌else◌}
use Rattle.std.specs.List.{AllByRecursion, concat}
use Rattle.tftp_packet.specs.declared.options.Options.{Options}
use Rattle.tftp_packet.specs.Packets.{PacketView, Rrq, Ack, Error, Oack}
use Rattle.tftp_link.specs.declared.phase.Phase.TheVariants.{Waiting, Running, Finished}
use Rattle.tftp_link.specs.Negotiation.{block_count, block_size_of, may_grant}
use Rattle.tftp_link.specs.Blocks.{IsOfFile}
use Rattle.tftp_link.specs.Answers.{Answer, Dropped, Again, TakesLast, Completes, Fails, lent_by, is_live}
use Rattle.tftp_link.specs.Receiver.{Receiver, receiver_asking, receiver_serving, receiver_answer, receiver_after, receiver_after_all, receiver_packet, acceptance}
use Rattle.tftp_link.specs.Sender.{Sender, sender_asking, sender_granting, sender_answer, sender_after, sender_after_all, sender_packet, last_of}
use Rattle.tftp_link.specs.Arrival.{answers_read, from_first, bound_size, Stand, ArrivedSoFar, Arrived}
use Rattle.tftp_link.specs.Acknowledged.{answers_write, AcksStand}

-- ---- the receiving end

-- all payloads that a receiving end lends, packet by packet
abbrev pub lent : Receiver → List PacketView → List (List ℕ)
lent r [] = []
lent r (packet ∷ packets) = lent_by (receiver_answer r packet) ++ lent (receiver_after r packet) packets

-- some file arrived whole
abbrev pub IsWholeFile : (size : ℕ) → List PacketView → Type 0
IsWholeFile size packets = (bytes : List ℕ) × Arrived size packets bytes

-- After these packets a receiving end lent what arrived among those of the transfer, and knows how many blocks that are,
-- the block size, and whether the file is whole.
pub record ReceivesArrived (begin : Receiver) (got : List PacketView) (size : ℕ) (packets : List PacketView) : Type 0 where
  pub arrived : ArrivedSoFar size packets (concat (lent begin got))
  pub counted : (payloads : List (List ℕ)) → Stand size 1 packets payloads → (receiver_after_all begin got).taken ≡ length payloads
  pub sized : (receiver_after_all begin got).size ≡ size
  pub whole : ((receiver_after_all begin got).phase ≡ Finished) ↔ IsWholeFile size packets

-- of one that took a request to write
abbrev pub ServedWriteArrives : Type 0
ServedWriteArrives = (asked : Options) (got : List PacketView) → ReceivesArrived (receiver_serving asked) got (block_size_of asked) got

-- Of one that asked to read: the packets of its transfer are those from the first valid answer on.
abbrev pub AskedReadArrives : Type 0
AskedReadArrives = (name : List ℕ) (asked : Options) (got : List PacketView)
    → ReceivesArrived (receiver_asking name asked) got (bound_size (from_first (answers_read asked) got)) (from_first (answers_read asked) got)

-- the packet brings the last block
abbrev pub BringsLastBlock : Answer → Type 0
BringsLastBlock (TakesLast payload) = Unit {0}
BringsLastBlock answer = ⊥

-- Last comes exactly with the packet that makes the file whole: to one that took a request,
abbrev pub ServedLastMakesWhole : Type 0
ServedLastMakesWhole = (asked : Options) (got : List PacketView) (packet : PacketView)
    → BringsLastBlock (receiver_answer (receiver_after_all (receiver_serving asked) got) packet)
    ↔ ((IsWholeFile (block_size_of asked) got → ⊥) × IsWholeFile (block_size_of asked) (got ++ packet ∷ []))

-- the packets that were got make the file whole that was asked for
abbrev pub IsReadWhole : Options → List PacketView → Type 0
IsReadWhole asked got = IsWholeFile (bound_size (from_first (answers_read asked) got)) (from_first (answers_read asked) got)

-- and to one that asked.
abbrev pub AskedLastMakesWhole : Type 0
AskedLastMakesWhole = (name : List ℕ) (asked : Options) (got : List PacketView) (packet : PacketView)
    → BringsLastBlock (receiver_answer (receiver_after_all (receiver_asking name asked) got) packet)
    ↔ ((IsReadWhole asked got → ⊥) × IsReadWhole asked (got ++ packet ∷ []))

-- What one that took a request sent last: the ACK of the last block that arrived, and before the first its answer.
abbrev pub ServedWriteAcknowledges : Type 0
ServedWriteAcknowledges = (asked : Options) (got : List PacketView) (payloads : List (List ℕ)) → Stand (block_size_of asked) 1 got payloads
    → receiver_packet (receiver_after_all (receiver_serving asked) got) ≡ (if length payloads == 0 then acceptance asked else Ack (length payloads))

-- What one that asked sent last, where this many blocks arrived among these packets of its transfer: their ACK, ACK 0 to an
-- OACK, and its request while it isn't answered, or where an ERROR answers it.
abbrev pub asked_read_sent : List ℕ → Options → List PacketView → (count : ℕ) → PacketView
asked_read_sent name asked [] count = Rrq name asked
asked_read_sent name asked (Error code message ∷ packets) count = Rrq name asked
asked_read_sent name asked (packet ∷ packets) count = Ack count

abbrev pub AskedReadAcknowledges : Type 0
AskedReadAcknowledges = (name : List ℕ) (asked : Options) (got : List PacketView) (payloads : List (List ℕ))
    → Stand (bound_size (from_first (answers_read asked) got)) 1 (from_first (answers_read asked) got) payloads
    → receiver_packet (receiver_after_all (receiver_asking name asked) got) ≡ asked_read_sent name asked (from_first (answers_read asked) got) (length payloads)

-- Only one list of payloads stands among packets.
abbrev pub OneStands : Type 0
OneStands = (size k : ℕ) (packets : List PacketView) (one other : List (List ℕ)) → Stand size k packets one → Stand size k packets other → one ≡ other

-- ---- the file

-- Where each DATA k that was got is block k of a file, what arrived so far is a prefix of that file.
abbrev pub ArrivesAsPrefix : Type 0
ArrivesAsPrefix = (file : List ℕ) (size : ℕ) (packets : List PacketView) (bytes : List ℕ) → AllByRecursion (IsOfFile file size) packets
    → ArrivedSoFar size packets bytes → (rest : List ℕ) × (file ≡ bytes ++ rest)

-- And what arrived whole is the file.
abbrev pub ArrivesWhole : Type 0
ArrivesWhole = (file : List ℕ) (size : ℕ) (packets : List PacketView) (bytes : List ℕ) → AllByRecursion (IsOfFile file size) packets
    → Arrived size packets bytes → bytes ≡ file

-- ---- the sending end

-- After packets among which this many blocks from this one on were acknowledged, the sending end sent the next one last, or
-- the last of the file; and it is done exactly where all were acknowledged.
pub record SendsAcknowledged (s : Sender) (last first : ℕ) (packets : List PacketView) : Type 0 where
  pub count : ℕ
  pub stand : AcksStand last first packets count
  pub sent : s.sent ≡ min (first + count) last
  pub done : (s.phase ≡ Finished) ↔ (first + count ≡ last + 1)

-- of one that took a request to read and granted these options
abbrev pub ServedReadSends : Type 0
ServedReadSends = (file : List ℕ) (granted : Options) (got : List PacketView)
    → SendsAcknowledged (sender_after_all (sender_granting file granted) got) (last_of (sender_granting file granted)) (sender_granting file granted).sent got

-- of one whose request was answered, or not yet
abbrev pub AfterAnswer : Sender → List ℕ → List PacketView → Type 0
AfterAnswer s file [] = s.sent ≡ 0
AfterAnswer s file (Error code message ∷ packets) = s.sent ≡ 0
AfterAnswer s file (packet ∷ packets) =
    (s.size ≡ bound_size (packet ∷ packets)) × SendsAcknowledged s (block_count (length file) (bound_size (packet ∷ packets))) 1 packets

-- Of one that asked to write: its first valid answer has it send block 1.
abbrev pub AskedWriteSends : Type 0
AskedWriteSends = (name file : List ℕ) (wanted : Options) (got : List PacketView)
    → AfterAnswer (sender_after_all (sender_asking name file wanted) got) file (from_first (answers_write (length file) (sender_asking name file wanted).options) got)

-- Only one count of blocks stands among packets.
abbrev pub OneCountStands : Type 0
OneCountStands = (last k : ℕ) (packets : List PacketView) (one other : ℕ) → AcksStand last k packets one → AcksStand last k packets other → one ≡ other

-- Each DATA that an end sends is the block of its number of its file.
abbrev pub SendsItsFile : Type 0
SendsItsFile = (s : Sender) → IsOfFile s.file s.size (sender_packet s)

-- the packet is the ACK of the last block
abbrev pub IsLastAck : Answer → Type 0
IsLastAck Completes = Unit {0}
IsLastAck answer = ⊥

-- Done comes exactly with the packet with which the transfer is done, and so with the ACK of the last block.
abbrev pub DoneWithTheLastAck : Type 0
DoneWithTheLastAck = (begin : Sender) (got : List PacketView) (packet : PacketView)
    → IsLastAck (sender_answer (sender_after_all begin got) packet)
    ↔ (((sender_after_all begin got).phase ≡ Finished → ⊥) × ((sender_after_all begin (got ++ packet ∷ [])).phase ≡ Finished))

-- ---- what comes again, early or late

-- A duplicate ACK never makes an end send DATA again (RFC 1123, section 4.2.3.1): whatever an ACK was to it, the same ACK
-- right after it is dropped.
abbrev pub DuplicateAckIsDropped : Type 0
DuplicateAckIsDropped = (s : Sender) (k : ℕ) → sender_answer (sender_after s (Ack k)) (Ack k) ≡ Dropped

-- So is an ACK of another block than the one sent last, earlier or later.
abbrev pub OtherAckIsDropped : Type 0
OtherAckIsDropped = (s : Sender) (k : ℕ) → s.phase ≡ Running → (k ≡ s.sent → ⊥) → sender_answer s (Ack k) ≡ Dropped

-- The OACK that answered a request, again, is acknowledged again while no block was taken,
abbrev pub OackIsAcknowledgedAgain : Type 0
OackIsAcknowledgedAgain = (name : List ℕ) (asked granted : Options) → may_grant asked granted ≡ true
    → receiver_answer (receiver_after (receiver_asking name asked) (Oack granted)) (Oack granted) ≡ Again

-- and never after one.
abbrev pub LateOackIsDropped : Type 0
LateOackIsDropped = (r : Receiver) (options : Options) → (r.phase ≡ Waiting → ⊥) → 1 ≤ r.taken → receiver_answer r (Oack options) ≡ Dropped

-- ---- errors

-- an ERROR with this code
abbrev pub IsErrorOf : (code : ℕ) → PacketView → Type 0
IsErrorOf code (Error found message) = found ≡ code
IsErrorOf code packet = ⊥

-- the transfer fails with this code
abbrev pub FailsWith : (code : ℕ) → Answer → Type 0
FailsWith code (Fails found) = found ≡ code
FailsWith code answer = ⊥

-- PeerError comes exactly at an ERROR that comes before the transfer is over, at either end.
abbrev pub ReceiverFailsAtError : Type 0
ReceiverFailsAtError = (r : Receiver) (packet : PacketView) (code : ℕ)
    → FailsWith code (receiver_answer r packet) ↔ ((is_live r.phase ≡ true) × IsErrorOf code packet)

abbrev pub SenderFailsAtError : Type 0
SenderFailsAtError = (s : Sender) (packet : PacketView) (code : ℕ)
    → FailsWith code (sender_answer s packet) ↔ ((is_live s.phase ≡ true) × IsErrorOf code packet)
