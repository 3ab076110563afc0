use Rattle.std.proofs.Common.{◌≡◌, ◌++◌, take}
use Rattle.std.specs.List.{flat_map}
use Rattle.std.specs.Prelude.{map}
use Rattle.load_protocol_files.specs.Lcl.{hardware_view}
use Rattle.shown_files.specs.ProtocolText.{hardware_lines}
use Rattle.shown_files.proofs.protocol.put_each_hardware.Given as goal

abbrev pub invariant-loop-hardware : goal.invariant-loop-hardware
invariant-loop-hardware l = l.out.items ≡ l.fn.out.items ++ flat_map hardware_lines (map hardware_view (take l.hardware-index l.list))
