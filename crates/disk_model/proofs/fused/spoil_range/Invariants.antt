use Rattle.std.proofs.Common.{◌-◌, Ok}
use Rattle.disk_model.specs.Fused.{Spoils}
use Rattle.disk_model.proofs.fused.spoil_range.Given as goal

abbrev pub decreases-pieces : goal.decreases-pieces
decreases-pieces g l = l.length - l.done

abbrev pub invariant-pieces : goal.invariant-pieces
invariant-pieces g l = Spoils {T = Unit {0}} (g.K.Disk.state l.initial.disk) (g.K.Disk.state l.disk) (Ok tt)
