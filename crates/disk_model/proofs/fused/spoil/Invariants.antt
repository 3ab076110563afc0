use Rattle.std.proofs.Common.{Ok}
use Rattle.disk_model.specs.Fused.{Spoils}
use Rattle.disk_model.proofs.fused.spoil.Given as goal

abbrev pub invariant-each : goal.invariant-each
invariant-each g l = Spoils {T = Unit {0}} (g.K.Disk.state l.initial.disk) (g.K.Disk.state l.disk) (Ok tt)
