use Rattle.std.proofs.Common.{◌≡◌, ◌++◌, map, take}
use Rattle.std.specs.List.{flat_map}
use Rattle.load_protocol_files.specs.Lcl.{hardware_view}
use Rattle.upload_replay.specs.Texts.{hardware_lines}
use Rattle.upload_replay.proofs.report.put_each_hardware.Given as goal

abbrev pub invariant-loop-hardware : goal.invariant-loop-hardware
invariant-loop-hardware l = l.out.items ≡ l.fn.out.items ++ flat_map hardware_lines (map hardware_view (take l.hardware-index l.list))
