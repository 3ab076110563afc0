use Rattle.std.proofs.Common.{◌≡◌, ◌-◌, ◌^◌, take, length}
use Rattle.std.specs.Prelude.{min, map}
use Rattle.std.specs.List.{concat, flat_map}
use Rattle.load_protocol_files.specs.Lcl.{hardware_fields, hardware_view}
use Rattle.load_protocol_files.proofs.lcl.size_of_list.Given as goal

abbrev pub invariant-loop-hardware : goal.invariant-loop-hardware
invariant-loop-hardware l = l.size ≡ min (length (concat (flat_map hardware_fields (map hardware_view (take l.hardware-index l.list))))) (2 ^ 64 - 1)
