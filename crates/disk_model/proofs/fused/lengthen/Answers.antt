use Rattle.std.proofs.Common.{sym}
use Rattle.disk_model.proofs.MomentLemmas.{closed_joined}
use Rattle.disk_model.proofs.fused.lengthen.Goals as goal

pub keep-requires-clause-closed : goal.keep-requires-clause-closed
keep-requires-clause-closed g c =
    closed_joined (g.K.Disk.state c.args.disk.now) _ _ c.args.at c.args.length (sym c.requires.end) (c.requires.ranges.closed c.args.index) c.requires.closed
