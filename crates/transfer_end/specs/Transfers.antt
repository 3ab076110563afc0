-- A transfer with all packets that a side got in it (docs/EXCHANGE.md, "Transfers").
use Rattle.std.specs.Prelude.{ℕ, List, [], ◌∷◌, ◌++◌, fold, Bool, true, false, Option, Some, None}
use Rattle.std.specs.List.{concat}
use Rattle.tftp_packet.specs.declared.options.Options.{Options}
use Rattle.tftp_packet.specs.Packets.{PacketView}
use Rattle.tftp_link.specs.declared.phase.Phase.{Phase}
use Rattle.tftp_link.specs.Answers.{Answer, code_of, is_finished, lent_by}
use Rattle.tftp_link.specs.Receiver.{Receiver, receiver_asking, receiver_serving, receiver_answer, receiver_moved, receiver_first, receiver_packet}
use Rattle.tftp_link.specs.Sender.{Sender, sender_asking, sender_serving, sender_answer, sender_moved, sender_first, sender_packet}

-- what a side does in a transfer: the name of the file, the options of the request, and the file if it sends one
pub data Role : Type 0 where
  Reads : (name : List ℕ) → Options → Role  -- it asked to read
  Writes : (name : List ℕ) → Options → (file : List ℕ) → Role  -- it asked to write; these options are wanted
  ServesRead : (name : List ℕ) → Options → (file : List ℕ) → Role  -- it took a request to read
  ServesWrite : (name : List ℕ) → Options → Role  -- it took a request to write

abbrev pub name_of : Role → List ℕ
name_of (Reads name options) = name
name_of (Writes name options file) = name
name_of (ServesRead name options file) = name
name_of (ServesWrite name options) = name

-- it asked to read
abbrev pub is_reading : Role → Bool
is_reading (Reads name options) = true
is_reading role = false

-- ---- the receiving or the sending end

pub data LinkEnd : Type 0 where
  Receives : Receiver → LinkEnd
  Sends : Sender → LinkEnd

-- as the transfer begins
abbrev pub begin_of : Role → LinkEnd
begin_of (Reads name options) = Receives (receiver_asking name options)
begin_of (Writes name options file) = Sends (sender_asking name file options)
begin_of (ServesRead name options file) = Sends (sender_serving file options)
begin_of (ServesWrite name options) = Receives (receiver_serving options)

-- what a packet is to it
abbrev pub end_answer : LinkEnd → PacketView → Answer
end_answer (Receives r) packet = receiver_answer r packet
end_answer (Sends s) packet = sender_answer s packet

-- what it knows then
abbrev pub end_moved : LinkEnd → Answer → LinkEnd
end_moved (Receives r) answer = Receives (receiver_moved r answer)
end_moved (Sends s) answer = Sends (sender_moved s answer)

abbrev pub end_after : LinkEnd → PacketView → LinkEnd
end_after end packet = end_moved end (end_answer end packet)

-- what it sent last, which it sends again
abbrev pub end_packet : LinkEnd → PacketView
end_packet (Receives r) = receiver_packet r
end_packet (Sends s) = sender_packet s

-- its first packet: a request, or what answers one
abbrev pub end_first : LinkEnd → PacketView
end_first (Receives r) = receiver_first r
end_first (Sends s) = sender_first s

abbrev pub first_packet : Role → PacketView
first_packet role = end_first (begin_of role)

abbrev pub phase_of : LinkEnd → Phase
phase_of (Receives r) = r.phase
phase_of (Sends s) = s.phase

-- it received a file whole, the last block of which may have to be acknowledged again
abbrev pub is_received : LinkEnd → Bool
is_received (Receives r) = is_finished r.phase
is_received (Sends s) = false

-- ---- whole transfers

-- The side's own port, the port of the other end once it is known, and all packets that came from there to the own port,
-- the oldest first. A packet that was dropped before the other end was known isn't one of them.
pub record Transfer : Type 0 where
  pub role : Role
  pub own : ℕ
  pub peer : Option ℕ
  pub got : List PacketView

-- the end after these packets
unfoldable pub end_of : Role → List PacketView → LinkEnd
end_of role got = fold end_after (begin_of role) got

abbrev pub end_in : Transfer → LinkEnd
end_in t = end_of t.role t.got

-- the payloads that were taken, packet by packet
abbrev pub taken_from : LinkEnd → List PacketView → List (List ℕ)
taken_from end [] = []
taken_from end (packet ∷ packets) = lent_by (end_answer end packet) ++ taken_from (end_after end packet) packets

-- the bytes of the file that arrived so far
unfoldable pub arrived_in : Role → List PacketView → List ℕ
arrived_in role got = concat (taken_from (begin_of role) got)

abbrev pub arrived_of : Transfer → List ℕ
arrived_of t = arrived_in t.role t.got

-- of the live transfer, if there is one
abbrev pub arriving_in : Option Transfer → List ℕ
arriving_in None = []
arriving_in (Some t) = arrived_of t

-- the code of the ERROR that ended it
abbrev pub error_of : Transfer → Option ℕ
error_of t = code_of (phase_of (end_in t))

-- the other end is the port from which the first valid answer came
abbrev pub bound_to : Option ℕ → (from : ℕ) → Option ℕ
bound_to None from = Some from
bound_to (Some peer) from = Some peer

-- a packet more, from this port
abbrev pub with_packet : Transfer → (from : ℕ) → PacketView → Transfer
with_packet t from packet = record { role = t.role; own = t.own; peer = bound_to t.peer from; got = t.got ++ packet ∷ [] }
