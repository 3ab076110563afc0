use Rattle.std.proofs.Common.{◌≡◌, ◌++◌, take}
use Rattle.std.specs.List.{flat_map}
use Rattle.shown_files.specs.ListText.{load_hardware_line}
use Rattle.shown_files.proofs.lists.put_hardware.Given as goal

abbrev pub invariant-loop-id : goal.invariant-loop-id
invariant-loop-id l = l.out.items ≡ l.fn.out.items ++ flat_map load_hardware_line (take l.id-index l.hardware)
