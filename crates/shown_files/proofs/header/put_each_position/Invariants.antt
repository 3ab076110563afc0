use Rattle.std.proofs.Common.{◌≡◌, ◌++◌, take}
use Rattle.std.specs.List.{flat_map}
use Rattle.shown_files.specs.HeaderText.{position_line}
use Rattle.shown_files.proofs.header.put_each_position.Given as goal

abbrev pub invariant-loop-position : goal.invariant-loop-position
invariant-loop-position l = l.out.items ≡ l.fn.out.items ++ flat_map (position_line l.hardware) (take l.position-index l.positions)
