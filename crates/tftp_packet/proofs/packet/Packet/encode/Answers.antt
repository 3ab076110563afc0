use Rattle.std.proofs.Common.{◌≡◌, rules}
use Rattle.tftp_packet.specs.Packets.{packet_view, packet_bytes}
use Rattle.tftp_packet.proofs.Decoded.{written_is}
use Rattle.tftp_packet.proofs.packet.Packet.encode.Goals as goal

pub returns-clause-spells : goal.returns-clause-spells
returns-clause-spells c =
    let is : c.finish.result.items ≡ packet_bytes (packet_view c.args.self.now) = search rules in
    written_is (packet_view c.args.self.now) c.finish.result.items is c.in_ok-put_packet.ensures.typed c.requires
