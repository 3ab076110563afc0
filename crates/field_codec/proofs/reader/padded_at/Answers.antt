use Rattle.std.proofs.Common.{arith}
use Rattle.field_codec.proofs.Passing.{padded_passes}
use Rattle.field_codec.proofs.reader.padded_at.Goals as goal

pub returns-clause-ok : goal.returns-clause-ok
returns-clause-ok c =
    padded_passes c.args.bytes.now c.args.offset c.in_ok-text.end c.in_ok-text.text.now (λ i. omega (arith, c.type_inv.bytes i)) c.in_ok-text.ensures.1
