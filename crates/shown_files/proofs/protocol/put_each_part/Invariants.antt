use Rattle.std.proofs.Common.{◌≡◌, ◌++◌, take}
use Rattle.std.specs.List.{flat_map}
use Rattle.shown_files.specs.ProtocolText.{installed_lines}
use Rattle.shown_files.proofs.protocol.put_each_part.Given as goal

abbrev pub invariant-loop-part : goal.invariant-loop-part
invariant-loop-part l = l.out.items ≡ l.fn.out.items ++ flat_map installed_lines (take l.part-index l.parts)
