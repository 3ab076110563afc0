-- What the decoder and the encoder promise.
use Rattle.std.proofs.Common.{◌≡◌, ℕ, List, Result, Ok, Err, sym, ap, subst, ◌∙◌}
use Rattle.std.specs.Prelude.{IfOk, IfErr}
use Rattle.field_grammar.specs.Answers.{answer}
use Rattle.field_grammar.specs.Cursor.{Cursor, start}
use Rattle.field_grammar.specs.Grammar.{IsBytes, Fault, read, ◌then◌}
use Rattle.field_grammar.proofs.ExactLemmas.{answer-spelled, answer-fault, answer_is_spelled, answer_is_fault, spelled_at_start, spelled_whole}
use Rattle.tftp_packet.specs.declared.fault.PacketFault.{PacketFault}
use Rattle.tftp_packet.specs.declared.packet.Packet.{Packet}
use Rattle.tftp_packet.specs.Packets.{PacketView, packet_view, seen, IsInRange, IsTyped, PacketSpells, packet, packet_bytes}
use Rattle.tftp_packet.specs.Reading.{ReadsOn}
use Rattle.tftp_packet.proofs.SpelledLemmas.{packet_is, packet_from, ends-packet}
use Rattle.tftp_packet.proofs.PacketLemmas.{spelled_in_range, spelled_typed, written_spells}

abbrev to_the_end : Cursor → Result PacketView PacketFault
to_the_end c = read packet c then (λ x. Ok x.0)

-- what is read to the end is the format's answer
pub gives : (bytes : List ℕ) (r : Result Packet PacketFault) (first end : Cursor) → first ≡ start bytes → ReadsOn packet_view packet first r end → seen r ≡ answer packet bytes
gives bytes (Ok p) first end e reads = sym (ap to_the_end (sym e) ∙ ap (λ (r : Result (PacketView × Cursor) PacketFault). r then (λ x. Ok x.0)) reads)
gives bytes (Err f) first end e reads = sym (ap to_the_end (sym e) ∙ ap (λ (r : Result (PacketView × Cursor) PacketFault). r then (λ x. Ok x.0)) reads)

pub found : (bytes : List ℕ) (r : Result Packet PacketFault) → IsBytes bytes → seen r ≡ answer packet bytes → IfOk r (λ p. PacketSpells (packet_view p) bytes)
found bytes (Ok p) fit is = packet_is bytes (packet_view p) (spelled_whole packet bytes (packet_view p) ends-packet (answer_is_spelled packet bytes (packet_view p) fit (sym is)))
found bytes (Err f) fit is = tt

pub only : (bytes : List ℕ) (r : Result Packet PacketFault) → seen r ≡ answer packet bytes → (p : PacketView) → PacketSpells p bytes → seen r ≡ Ok p
only bytes r is p spells = is ∙ answer-spelled packet bytes p (spelled_at_start packet bytes p (packet_from bytes p spells))

pub refused : (bytes : List ℕ) (r : Result Packet PacketFault) → IsBytes bytes → seen r ≡ answer packet bytes → IfErr r (λ f. Fault packet bytes f)
refused bytes (Ok p) fit is = tt
refused bytes (Err f) fit is = answer_is_fault packet bytes f fit (sym is)

pub faulty : (bytes : List ℕ) (r : Result Packet PacketFault) → seen r ≡ answer packet bytes → (f : PacketFault) → Fault packet bytes f → seen r ≡ Err f
faulty bytes r is f fault = is ∙ answer-fault packet bytes f fault

pub result_in_range : (bytes : List ℕ) (r : Result Packet PacketFault) → IfOk r (λ p. PacketSpells (packet_view p) bytes) → IfOk r (λ p. IsInRange (packet_view p))
result_in_range bytes (Ok p) spells = spelled_in_range (packet_view p) bytes spells
result_in_range bytes (Err f) spells = tt

pub result_typed : (bytes : List ℕ) (r : Result Packet PacketFault) → IfOk r (λ p. PacketSpells (packet_view p) bytes) → IfOk r (λ p. IsTyped (packet_view p))
result_typed bytes (Ok p) spells = spelled_typed (packet_view p) bytes spells
result_typed bytes (Err f) spells = tt

pub written_is : (p : PacketView) (bytes : List ℕ) → bytes ≡ packet_bytes p → IsTyped p → IsInRange p → PacketSpells p bytes
written_is p bytes is typed fits = subst (λ (b : List ℕ). PacketSpells p b) (sym is) (written_spells p typed fits)
