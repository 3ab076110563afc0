use Rattle.std.proofs.Common.{◌≡◌, ◌++◌, map, take}
use Rattle.media_check.specs.HostNames.{slashed as slashed_byte}
use Rattle.media_check.proofs.names.put_slashed.Given as goal

abbrev pub invariant-loop-byte : goal.invariant-loop-byte
invariant-loop-byte l = l.out.items ≡ l.initial.out.items ++ map slashed_byte (take l.byte-index l.path)
