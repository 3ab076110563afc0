use Rattle.std.proofs.Common.{ap, ◌∙◌}
use Rattle.tftp_packet.specs.Packets.{packet_view}
use Rattle.transfer_end.specs.Calls.{end_seen, ends_transfer, posted, transfer_seen}
use Rattle.transfer_end.specs.Moves.{heard_post}
use Rattle.transfer_end.specs.Transfers.{end_answer}
use Rattle.transfer_end.proofs.Answering.{goes_on, nothing_more, sends, stays}
use Rattle.transfer_end.proofs.transfer_end.TransferEnd.hear_in.Goals.{then-awaited+in_ok-proceed, else-awaited}
use Rattle.transfer_end.proofs.transfer_end.TransferEnd.hear_in.Goals as goal

-- src/transfer_end.rt:210:5
pub returns-clause-moves : goal.returns-clause-moves
returns-clause-moves c =
    let t = transfer_seen c.args.transfer in
    let answer = end_answer t.end (packet_view c.args.packet.now) in
    let end = end_seen c.on_packet-send.new.self in
    let sent = sends c.args.side t c.args.from answer c.on_packet-send.result.send end (posted c.in_ok-post.post) c.on_packet-send.ensures.state c.on_packet-send.ensures.send c.in_ok-post.ensures in
    record {
      keeps = elim c.if-awaited.branch [
        | then-awaited+in_ok-proceed w ↦
            w.self-is ∙ w.in_ok-proceed.ensures ∙ goes_on c.args.side c.args.self.now t end c.args.from answer c.on_packet-send.result.awaited w.is_end.result (posted c.in_ok-post.post)
            c.on_packet-send.ensures.state c.on_packet-send.ensures.awaited w.if-awaited.true (w.is_end.ensures ∙ ap ends_transfer c.on_packet-send.ensures.news) sent
        | else-awaited w ↦
            w.self-is ∙ w.restore.ensures ∙ stays c.args.side c.args.self.now t end c.args.from answer c.on_packet-send.result.awaited
            c.on_packet-send.ensures.state c.on_packet-send.ensures.awaited w.if-awaited.false
      ];
      posts = nothing_more (posted c.in_ok-post.post) (heard_post c.args.side t c.args.from answer) sent;
    }
