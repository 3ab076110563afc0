use Rattle.std.proofs.Common.{arith}
use Rattle.load_protocol_files.specs.Laws.Lcl.{hardware_more}
use Rattle.load_protocol_files.proofs.lcl.size_of_list.Goals as goal

pub loop-hardware-preserved : goal.loop-hardware-preserved
loop-hardware-preserved c =
    let more = hardware_more c.args.list.now c.loop-hardware.hardware-index c.hardware-item.result c.loop-hardware-test.true c.hardware-item.is in
    rw more (omega (arith, c.saturating_add-size.ensures, c.loop-hardware.invariant, c.size_of_hardware.ensures))
