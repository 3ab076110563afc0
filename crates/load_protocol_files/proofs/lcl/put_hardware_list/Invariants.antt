use Rattle.std.proofs.Common.{◌≡◌, ◌++◌, take}
use Rattle.std.specs.Prelude.{map}
use Rattle.std.specs.List.{concat, flat_map, All}
use Rattle.load_protocol_files.specs.Lcl.{hardware_fields, hardware_view, HardwareFits}
use Rattle.load_protocol_files.proofs.lcl.put_hardware_list.Given as goal

abbrev pub invariant-loop-hardware : goal.invariant-loop-hardware
invariant-loop-hardware l = record {
  written : l.out ≡ l.fn.out ++ concat (flat_map hardware_fields (map hardware_view (take l.hardware-index l.list)));
  fit : All (λ h. HardwareFits (hardware_view h)) (take l.hardware-index l.list);
}
