use Rattle.std.proofs.Common.{◌≡◌, ◌+◌, ◌≤◌, drop, length}
use Rattle.media_lists.specs.Paths.{path_end, path_fault_of}
use Rattle.media_lists.proofs.paths.path_fault.Given as goal

abbrev pub invariant-loop-offset : goal.invariant-loop-offset
invariant-loop-offset l = record {
  few : l.names + l.size ≤ l.offset;
  within : l.offset ≤ length l.bytes;
  yet : path_end l.offset l.names l.size (drop l.offset l.bytes) ≡ path_fault_of l.bytes;
}
