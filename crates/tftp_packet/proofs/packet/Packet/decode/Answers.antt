use Rattle.std.proofs.Common.{arith}
use Rattle.tftp_packet.proofs.Decoded as spelled
use Rattle.tftp_packet.proofs.Decoded.{result_in_range, result_typed}
use Rattle.tftp_packet.proofs.packet.Packet.decode.Goals as goal

pub returns-clause-found : goal.returns-clause-found
returns-clause-found c = spelled.found c.args.bytes.now c.take_packet.result (λ i. omega (arith, c.type_inv.bytes i)) (spelled.gives c.args.bytes.now c.take_packet.result _ _ c.new-reader.ensures c.take_packet.ensures)

pub returns-clause-only : goal.returns-clause-only
returns-clause-only c = spelled.only c.args.bytes.now c.take_packet.result (spelled.gives c.args.bytes.now c.take_packet.result _ _ c.new-reader.ensures c.take_packet.ensures)

pub returns-clause-refused : goal.returns-clause-refused
returns-clause-refused c = spelled.refused c.args.bytes.now c.take_packet.result (λ i. omega (arith, c.type_inv.bytes i)) (spelled.gives c.args.bytes.now c.take_packet.result _ _ c.new-reader.ensures c.take_packet.ensures)

pub returns-clause-faulty : goal.returns-clause-faulty
returns-clause-faulty c = spelled.faulty c.args.bytes.now c.take_packet.result (spelled.gives c.args.bytes.now c.take_packet.result _ _ c.new-reader.ensures c.take_packet.ensures)

pub returns-clause-in_range : goal.returns-clause-in_range
returns-clause-in_range c =
    result_in_range c.args.bytes.now c.take_packet.result
    (spelled.found c.args.bytes.now c.take_packet.result (λ i. omega (arith, c.type_inv.bytes i)) (spelled.gives c.args.bytes.now c.take_packet.result _ _ c.new-reader.ensures c.take_packet.ensures))

pub returns-clause-answers : goal.returns-clause-answers
returns-clause-answers c = spelled.gives c.args.bytes.now c.take_packet.result _ _ c.new-reader.ensures c.take_packet.ensures

pub returns-clause-typed : goal.returns-clause-typed
returns-clause-typed c =
    result_typed c.args.bytes.now c.take_packet.result
    (spelled.found c.args.bytes.now c.take_packet.result (λ i. omega (arith, c.type_inv.bytes i)) (spelled.gives c.args.bytes.now c.take_packet.result _ _ c.new-reader.ensures c.take_packet.ensures))
