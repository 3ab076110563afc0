use Rattle.std.proofs.Common.{◌≡◌, length}
use Rattle.recovery.proofs.Ranges.{piece_more}
use Rattle.recovery.proofs.reading.add_piece.Goals as goal

pub returns-clause-sum : goal.returns-clause-sum
returns-clause-sum g c start done follows so_far =
    let size : length c.read_piece.new.buf ≡ length c.args.buffer.now = search in
    piece_more (g.K.Disk.state c.args.disk.now).reads start c.args.at done (length c.args.buffer.now) c.args.sum.now c.update.new.self
    c.read_piece.new.buf follows size c.update.ensures.joined c.in_ok-read_piece.ensures.bytes so_far
