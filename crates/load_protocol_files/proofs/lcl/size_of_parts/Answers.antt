use Rattle.std.proofs.Common.{arith}
use Rattle.load_protocol_files.specs.Laws.Lcl.{parts_more}
use Rattle.load_protocol_files.proofs.lcl.size_of_parts.Goals as goal

pub loop-part-preserved : goal.loop-part-preserved
loop-part-preserved c =
    let more = parts_more c.args.parts.now c.loop-part.part-index c.part-item.result c.loop-part-test.true c.part-item.is in
    rw more (omega (arith, c.saturating_add-size.ensures, c.loop-part.invariant, c.size_of_part.ensures))
