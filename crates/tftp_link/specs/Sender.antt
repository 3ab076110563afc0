-- The sending end of a transfer (RFC 1350, section 2; RFC 1123, section 4.2.3.1; docs/EXCHANGE.md, "The sending end").
use Rattle.std.specs.Prelude.{◌≡◌, ℕ, ◌+◌, ◌≤◌, List, length, fold, ◌==◌, ◌&&◌, Option, Some, None, if◌then◌else◌}
use Rattle.tftp_packet.specs.declared.options.Options.{Options}
use Rattle.tftp_packet.specs.Options.{AreInRange}
use Rattle.tftp_packet.specs.Packets.{PacketView, Wrq, Data, Ack, Error, Oack}
use Rattle.tftp_link.specs.declared.file_bytes.FileBytes.{FileBytes}
use Rattle.tftp_link.specs.declared.file_bytes.FileBytes.TheVariants.{Owned, Lent}
use Rattle.tftp_link.specs.declared.phase.Phase.{Phase}
use Rattle.tftp_link.specs.declared.phase.Phase.TheVariants.{Waiting, Running, Finished, Failed}
use Rattle.tftp_link.specs.Negotiation.{block_size_of, may_grant, granted_to_reader, asked_by_writer, fits_said, block_count, is_empty}
use Rattle.tftp_link.specs.Blocks.{block_of}
use Rattle.tftp_link.specs.Answers.{Answer, Dropped, Grants, Proceeds, Completes, Fails, error_answer}

-- the bytes of a file that is sent
abbrev pub contents : FileBytes → List ℕ
contents (Owned bytes) = bytes.items
contents (Lent bytes) = bytes.now

-- what it knows
pub record Sender : Type 0 where
  pub name : Option (List ℕ)  -- of the file, where the request is its own
  pub file : List ℕ
  pub options : Options  -- those that its request asks for, or that it granted
  pub size : ℕ  -- of a block
  pub sent : ℕ  -- the number of the block sent last, 0 before the first
  pub phase : Phase

-- the end that asks to write, where these options are wanted
abbrev pub sender_asking : List ℕ → List ℕ → Options → Sender
sender_asking name file wanted = record { name = Some name; file = file; options = asked_by_writer (length file) wanted; size = 512; sent = 0; phase = Waiting }

-- the end that grants these options to a request to read: block 1 is its answer where there are none
abbrev pub sender_granting : List ℕ → Options → Sender
sender_granting file granted = record { name = None; file = file; options = granted; size = block_size_of granted; sent = (if is_empty granted then 1 else 0); phase = Running }

-- the end that takes a request to read
abbrev pub sender_serving : List ℕ → Options → Sender
sender_serving file asked = sender_granting file (granted_to_reader (length file) asked)

-- the number of the file's last block
abbrev pub last_of : Sender → ℕ
last_of s = block_count (length s.file) s.size

-- What holds of it at every moment: each block of the file has a number, and is no longer than a payload may be.
pub record IsSending (s : Sender) : Type 0 where
  pub file : length s.file ≤ 16777215
  pub options : AreInRange s.options
  pub size : (1 ≤ s.size) × (s.size ≤ 65464)
  pub last : last_of s ≤ 65535
  pub sent : s.sent ≤ last_of s
  pub waiting : s.phase ≡ Waiting → s.sent ≡ 0

-- ---- what a packet is to it

-- the ACK of what was sent last
abbrev pub awaited_answer : Sender → Answer
awaited_answer s = if s.sent == last_of s then Completes else Proceeds

-- what an ACK is
abbrev pub ack_answer : Phase → Sender → ℕ → Answer
ack_answer Waiting s k = if k == 0 then Proceeds else Dropped
ack_answer Running s k = if k == s.sent then awaited_answer s else Dropped
ack_answer Finished s k = Dropped
ack_answer (Failed code) s k = Dropped

-- what an OACK is: it answers a request to write, unless the file has too many blocks of the size that it grants
abbrev pub sender_oack_answer : Phase → Sender → Options → Answer
sender_oack_answer Waiting s options = if may_grant s.options options && fits_said (length s.file) options.blksize then Grants options else Dropped
sender_oack_answer phase s options = Dropped

-- what a packet is
abbrev pub sender_answer : Sender → PacketView → Answer
sender_answer s (Ack k) = ack_answer s.phase s k
sender_answer s (Oack options) = sender_oack_answer s.phase s options
sender_answer s (Error code message) = error_answer s.phase code
sender_answer s packet = Dropped

-- ---- what it knows then

-- the next block was sent, in this block size
abbrev pub with_next : Sender → (size : ℕ) → Sender
with_next s size = record { name = s.name; file = s.file; options = s.options; size = size; sent = s.sent + 1; phase = Running }

abbrev pub in_phase : Sender → Phase → Sender
in_phase s phase = record { name = s.name; file = s.file; options = s.options; size = s.size; sent = s.sent; phase = phase }

abbrev pub sender_moved : Sender → Answer → Sender
sender_moved s (Grants options) = with_next s (block_size_of options)
sender_moved s Proceeds = with_next s s.size
sender_moved s Completes = in_phase s Finished
sender_moved s (Fails code) = in_phase s (Failed code)
sender_moved s answer = s

-- after a packet
abbrev pub sender_after : Sender → PacketView → Sender
sender_after s packet = sender_moved s (sender_answer s packet)

-- after these packets
abbrev pub sender_after_all : Sender → List PacketView → Sender
sender_after_all s packets = fold sender_after s packets

-- ---- what it sends

-- block k of the file goes as DATA k
abbrev pub data_of : List ℕ → (size k : ℕ) → PacketView
data_of file size k = Data k (block_of file size k)

abbrev pub sender_opens : Option (List ℕ) → Sender → PacketView
sender_opens None s = if is_empty s.options then data_of s.file s.size 1 else Oack s.options
sender_opens (Some name) s = Wrq name s.options

-- its first packet: its request, or what answers one
abbrev pub sender_first : Sender → PacketView
sender_first s = sender_opens s.name s

-- what it sent last: a block, and before that its first packet
abbrev pub sender_packet : Sender → PacketView
sender_packet s = if s.sent == 0 then sender_first s else data_of s.file s.size s.sent
