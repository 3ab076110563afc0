-- The receiving end of a transfer (RFC 1350, section 2; docs/EXCHANGE.md, "The receiving end").
use Rattle.std.specs.Prelude.{ℕ, ◌+◌, List, length, fold, Bool, false, nat_lt, nat_le, ◌==◌, ◌&&◌, Option, Some, None, is_none, if◌then◌else◌}
use Rattle.tftp_packet.specs.declared.options.Options.{Options}
use Rattle.tftp_packet.specs.Packets.{PacketView, Rrq, Data, Ack, Error, Oack}
use Rattle.tftp_link.specs.declared.phase.Phase.{Phase}
use Rattle.tftp_link.specs.declared.phase.Phase.TheVariants.{Waiting, Running, Finished, Failed}
use Rattle.tftp_link.specs.Negotiation.{block_size_of, may_grant, same_options, is_empty}
use Rattle.tftp_link.specs.Blocks.{is_block}
use Rattle.tftp_link.specs.Answers.{Answer, Dropped, Again, Grants, TakesBlock, TakesLast, Fails, error_answer}

-- what it knows
pub record Receiver : Type 0 where
  pub name : Option (List ℕ)  -- of the file, where the request is its own
  pub asked : Options  -- of the request
  pub granted : Option Options  -- those of the OACK that answered its request
  pub size : ℕ  -- of a block
  pub taken : ℕ  -- the number of the block taken last, 0 before the first
  pub phase : Phase

-- the end that asks to read
abbrev pub receiver_asking : List ℕ → Options → Receiver
receiver_asking name asked = record { name = Some name; asked = asked; granted = None; size = 512; taken = 0; phase = Waiting }

-- the end that takes a request to write
abbrev pub receiver_serving : Options → Receiver
receiver_serving asked = record { name = None; asked = asked; granted = None; size = block_size_of asked; taken = 0; phase = Running }

-- ---- what a packet is to it

-- the block after those taken
abbrev pub is_next_block : Receiver → ℕ → List ℕ → Bool
is_next_block r k payload = (k == r.taken + 1) && is_block r.size k payload

-- the block taken last
abbrev pub is_last_block : Receiver → ℕ → List ℕ → Bool
is_last_block r k payload = nat_lt 0 r.taken && ((k == r.taken) && nat_le (length payload) r.size)

-- a block shorter than the block size is the last of its file
abbrev pub taken_answer : Receiver → List ℕ → Answer
taken_answer r payload = if nat_lt (length payload) r.size then TakesLast payload else TakesBlock payload

-- what a DATA is
abbrev pub data_answer : Phase → Receiver → ℕ → List ℕ → Answer
data_answer Waiting r k payload = if is_next_block r k payload then taken_answer r payload else Dropped
data_answer Running r k payload = if is_next_block r k payload then taken_answer r payload else (if is_last_block r k payload then Again else Dropped)
data_answer Finished r k payload = if is_last_block r k payload then Again else Dropped
data_answer (Failed code) r k payload = Dropped

-- these options were granted before
abbrev pub were_granted : Option Options → Options → Bool
were_granted None options = false
were_granted (Some granted) options = same_options granted options

-- what an OACK is
abbrev pub receiver_oack_answer : Phase → Receiver → Options → Answer
receiver_oack_answer Waiting r options = if may_grant r.asked options then Grants options else Dropped
receiver_oack_answer Running r options = if (r.taken == 0) && were_granted r.granted options then Again else Dropped
receiver_oack_answer Finished r options = Dropped
receiver_oack_answer (Failed code) r options = Dropped

-- what a packet is
abbrev pub receiver_answer : Receiver → PacketView → Answer
receiver_answer r (Data k payload) = data_answer r.phase r k payload
receiver_answer r (Oack options) = receiver_oack_answer r.phase r options
receiver_answer r (Error code message) = error_answer r.phase code
receiver_answer r packet = Dropped

-- ---- what it knows then

abbrev pub with_block : Receiver → Phase → Receiver
with_block r phase = record { name = r.name; asked = r.asked; granted = r.granted; size = r.size; taken = r.taken + 1; phase = phase }

abbrev pub receiver_moved : Receiver → Answer → Receiver
receiver_moved r (Grants options) = record { name = r.name; asked = r.asked; granted = Some options; size = block_size_of options; taken = r.taken; phase = Running }
receiver_moved r (TakesBlock payload) = with_block r Running
receiver_moved r (TakesLast payload) = with_block r Finished
receiver_moved r (Fails code) = record { name = r.name; asked = r.asked; granted = r.granted; size = r.size; taken = r.taken; phase = Failed code }
receiver_moved r answer = r

-- after a packet
abbrev pub receiver_after : Receiver → PacketView → Receiver
receiver_after r packet = receiver_moved r (receiver_answer r packet)

-- after these packets
abbrev pub receiver_after_all : Receiver → List PacketView → Receiver
receiver_after_all r packets = fold receiver_after r packets

-- ---- what it sends

-- what answers a request to write: ACK 0, or an OACK where options are asked for
abbrev pub acceptance : Options → PacketView
acceptance asked = if is_empty asked then Ack 0 else Oack asked

abbrev pub receiver_opens : Option (List ℕ) → Options → PacketView
receiver_opens None asked = acceptance asked
receiver_opens (Some name) asked = Rrq name asked

-- its first packet: its request, or what answers one
abbrev pub receiver_first : Receiver → PacketView
receiver_first r = receiver_opens r.name r.asked

-- what it sent last: the ACK of the block taken last, or of the OACK, and before that its first packet
abbrev pub receiver_packet : Receiver → PacketView
receiver_packet r = if (r.taken == 0) && is_none r.granted then receiver_first r else Ack r.taken
