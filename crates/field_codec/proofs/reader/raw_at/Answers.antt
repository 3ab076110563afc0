use Rattle.std.proofs.Common.{◌≡◌, ◌+◌, ◌-◌, ◌≤◌, length, arith}
use Rattle.field_codec.proofs.Passing.{raw_is_read}
use Rattle.field_codec.proofs.reader.raw_at.Goals as goal

pub returns-clause-reads : goal.returns-clause-reads
returns-clause-reads c =
    let fits : c.args.offset + c.args.count ≤ length c.args.bytes.now = omega arith in
    let size : c.args.offset + c.args.count - c.args.offset ≡ c.args.count = omega arith in
    (fits, rw size (raw_is_read c.args.count c.args.offset c.args.bytes.now fits))
