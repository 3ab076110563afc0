use Rattle.std.proofs.Common.{arith}
use Rattle.recovery.proofs.DiskReads.{not_yet}
use Rattle.recovery.proofs.Ranges.{nothing_summed}
use Rattle.recovery.proofs.reading.sum_on.Goals as goal

pub loop-done-init : goal.loop-done-init
loop-done-init g c = record {
  looked = not_yet (g.K.Disk.state c.args.disk.now) c.requires.running;
  within = omega arith;
  sum = nothing_summed (g.K.Disk.state c.args.disk.now).reads c.args.at c.new-sum.result c.new-sum.ensures;
}
