use Rattle.std.proofs.Common.{◌≡◌, ◌≤◌, ◌-◌, length, take}
use Rattle.std.specs.Option.{ForSome}
use Rattle.disk_model.specs.Image.{range}
use Rattle.recovery.proofs.DiskReads.{Looked}
use Rattle.recovery.proofs.reading.read_from.Given as goal

abbrev pub invariant-loop-done : goal.invariant-loop-done
invariant-loop-done g l = record {
  looked : Looked (g.K.Disk.state l.fn.disk) (g.K.Disk.state l.disk);
  within : l.done ≤ length l.fn.buf;
  bytes : ForSome (g.K.Disk.state l.fn.disk).reads (λ image. take l.done l.buf ≡ range image l.at l.done);
}

abbrev pub decreases-loop-done : goal.decreases-loop-done
decreases-loop-done g l = length l.fn.buf - l.done
