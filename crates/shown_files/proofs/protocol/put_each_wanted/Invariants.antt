use Rattle.std.proofs.Common.{◌≡◌, ◌++◌, take}
use Rattle.std.specs.List.{flat_map}
use Rattle.shown_files.specs.ProtocolText.{wanted_lines}
use Rattle.shown_files.proofs.protocol.put_each_wanted.Given as goal

abbrev pub invariant-loop-load : goal.invariant-loop-load
invariant-loop-load l = l.out.items ≡ l.fn.out.items ++ flat_map wanted_lines (take l.load-index l.loads)
