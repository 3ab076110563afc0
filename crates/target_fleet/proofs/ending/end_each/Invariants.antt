use Rattle.target_fleet.proofs.UnitEnds.{EndedSoFar}
use Rattle.target_fleet.proofs.ending.end_each.Given as goal

abbrev pub invariant-units : goal.invariant-units
invariant-units g l = EndedSoFar g.K.Disk.state g.R.Rule.may_say l.fn.drivers.items l.fn.disks l.index l.drivers.items l.ends.units.items l.ends.traces.items l.disks
