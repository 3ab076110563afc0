use Rattle.load_header.proofs.Writes.{positions_written}
use Rattle.load_header.proofs.writing.put_positions.Goals as goal

pub returns : goal.returns
returns c =
    positions_written c.args.list.now c.args.out.now c.put_u16.new.self c.put_each_kind.new.out c.in_ok-put_u16.ensures.ok c.in_ok-put_each_kind.ensures
