-- A transfer of which nothing is lost: what its two ends know, and the packet that is on its way between them
-- (docs/EXCHANGE.md, "A fault-free run completes").
use Rattle.std.specs.Prelude.{◌≡◌, ℕ, ◌+◌, ◌-◌, ◌*◌, ◌<◌, ◌≤◌, List, length, take, Bool, true, false, ◌==◌, ◌&&◌, Option, Some, None, is_none, if◌then◌else◌}
use Rattle.tftp_packet.specs.declared.options.Options.{Options}
use Rattle.tftp_packet.specs.Options.{AreInRange}
use Rattle.tftp_packet.specs.Packets.{PacketView, Data, Ack, Oack}
use Rattle.tftp_link.specs.declared.phase.Phase.{Phase}
use Rattle.tftp_link.specs.declared.phase.Phase.TheVariants.{Waiting, Running, Finished}
use Rattle.tftp_link.specs.Negotiation.{no_options, is_empty, block_size_of, may_grant, fits_said, block_count}
use Rattle.tftp_link.specs.Blocks.{block_of}
use Rattle.tftp_link.specs.Receiver.{Receiver, receiver_asking, receiver_serving}
use Rattle.tftp_link.specs.Sender.{Sender}

abbrev pub sender : Option (List ℕ) → List ℕ → Options → (size sent : ℕ) → Phase → Sender
sender name file options size sent phase = record { name = name; file = file; options = options; size = size; sent = sent; phase = phase }

abbrev pub receiver : Option (List ℕ) → Options → Option Options → (size taken : ℕ) → Phase → Receiver
receiver name asked granted size taken phase = record { name = name; asked = asked; granted = granted; size = size; taken = taken; phase = phase }

-- each block of the file has a number
pub record FitsBlocks (file : List ℕ) (size : ℕ) : Type 0 where
  pub some : 1 ≤ size
  pub most : size ≤ 65464
  pub few : block_count (length file) size ≤ 65535

-- of a receiving end that took this block
abbrev pub phase_at : List ℕ → (size taken : ℕ) → Phase
phase_at file size taken = if taken == block_count (length file) size then Finished else Running

-- it still sends its first packet, and no acknowledgement of a block or of an OACK
abbrev pub is_opening : (granted : Option Options) → (taken : ℕ) → Bool
is_opening granted taken = (taken == 0) && is_none granted

-- The sending end of a file, the receiving one, and the packet that is on its way, to the receiving end or from it.
pub data Talk (file : List ℕ) : Sender → Receiver → (to_receiver : Bool) → PacketView → Type 0 where
  -- an OACK answers the request to read
  offers : (name : List ℕ) (asked granted : Options) → may_grant asked granted ≡ true → AreInRange granted → FitsBlocks file (block_size_of granted)
      → Talk file (sender None file granted (block_size_of granted) 0 Running) (receiver_asking name asked) true (Oack granted)
  -- DATA 1 answers it
  first : (name : List ℕ) (options asked : Options) → FitsBlocks file 512
      → Talk file (sender None file options 512 1 Running) (receiver_asking name asked) true (Data 1 (block_of file 512 1))
  -- an OACK answers the request to write
  grants : (name : List ℕ) (options : Options) → may_grant options options ≡ true → AreInRange options → is_empty options ≡ false → fits_said (length file) options.blksize ≡ true
      → FitsBlocks file (block_size_of options)
      → Talk file (sender (Some name) file options 512 0 Waiting) (receiver_serving options) false (Oack options)
  -- ACK 0 answers it
  begins : (name : List ℕ) → FitsBlocks file 512
      → Talk file (sender (Some name) file no_options 512 0 Waiting) (receiver_serving no_options) false (Ack 0)
  -- what was taken last is acknowledged
  up : (of_sender of_receiver : Option (List ℕ)) (options asked : Options) (granted : Option Options) (size taken : ℕ) → FitsBlocks file size
      → taken ≤ block_count (length file) size → is_opening granted taken ≡ false
      → Talk file (sender of_sender file options size taken Running) (receiver of_receiver asked granted size taken (phase_at file size taken)) false (Ack taken)
  -- the next block
  down : (of_sender of_receiver : Option (List ℕ)) (options asked : Options) (granted : Option Options) (size taken : ℕ) → FitsBlocks file size
      → taken < block_count (length file) size
      → Talk file (sender of_sender file options size (taken + 1) Running) (receiver of_receiver asked granted size taken Running) true (Data (taken + 1) (block_of file size (taken + 1)))

-- what the receiving end took of the file by now
abbrev pub taken_of : List ℕ → Receiver → List ℕ
taken_of file r = take (r.taken * r.size) file

-- how many packets are still to come in the transfer, the one that is on its way among them
abbrev pub left_down : List ℕ → Receiver → PacketView → ℕ
left_down file r (Oack options) = 2 * block_count (length file) (block_size_of options) + 2
left_down file r p = 2 * (block_count (length file) r.size - r.taken)

abbrev pub left_up : List ℕ → Receiver → ℕ
left_up file r = 2 * (block_count (length file) r.size - r.taken) + 1
