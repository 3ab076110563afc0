use Rattle.std.proofs.Common.{◌≤◌, length}
use Rattle.disk_layout.specs.Manifest.{left_in}
use Rattle.recovery.proofs.DiskReads.{Looked}
use Rattle.recovery.proofs.Outlined.{LinesSoFar}
use Rattle.recovery.proofs.listed.put_loads.Given as goal

abbrev pub invariant-loop : goal.invariant-loop
invariant-loop g l = record {
  looked : Looked (g.K.Disk.state l.fn.disk) (g.K.Disk.state l.disk);
  buffer : 1 ≤ length l.buffer;
  lines : LinesSoFar (g.K.Disk.state l.fn.disk).reads l.start (left_in l.fn.loads) l.fn.out.items l.count l.counter l.loads l.at l.out.items;
}
