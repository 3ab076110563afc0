use Rattle.std.proofs.Common.{◌≡◌, false, length}
use Rattle.std.specs.List.{AllWithin}
use Rattle.command_rows.proofs.running.are_restarted.Given as goal

-- the disks so far run
abbrev pub invariant-loop-unit : goal.invariant-loop-unit
invariant-loop-unit l = record {
  many : length l.disks ≡ length l.fn.disks;
  running : AllWithin (λ disk. disk.stopped ≡ false) l.disks 0 l.unit;
}
