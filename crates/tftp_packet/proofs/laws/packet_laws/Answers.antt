use Rattle.field_grammar.proofs.ExactLemmas.{decided, whole_one_value}
use Rattle.tftp_packet.specs.Packets.{packet, packet_bytes}
use Rattle.tftp_packet.proofs.PacketLemmas.{spelled_in_range, written_spells, read_again, short_requests}
use Rattle.tftp_packet.proofs.SpelledLemmas.{packet_is, packet_from, ends-packet}
use Rattle.tftp_packet.proofs.laws.packet_laws.Goals as goal

pub returns-clause-decided : goal.returns-clause-decided
returns-clause-decided c = λ bytes fit. decided packet bytes ends-packet fit

pub returns-clause-spelled : goal.returns-clause-spelled
returns-clause-spelled c = λ p bytes. (packet_is bytes p, packet_from bytes p)

pub returns-clause-one_packet : goal.returns-clause-one_packet
returns-clause-one_packet c = λ p q bytes one other. whole_one_value packet bytes p q (packet_from bytes p one) (packet_from bytes q other)

pub returns-clause-in_range : goal.returns-clause-in_range
returns-clause-in_range c = spelled_in_range

pub returns-clause-written : goal.returns-clause-written
returns-clause-written c = written_spells

pub returns-clause-read_again : goal.returns-clause-read_again
returns-clause-read_again c = λ p typed fits. read_again p (packet_bytes p) (written_spells p typed fits)

pub returns-clause-short_requests : goal.returns-clause-short_requests
returns-clause-short_requests c = short_requests
