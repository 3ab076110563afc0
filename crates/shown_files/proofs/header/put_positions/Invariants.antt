use Rattle.std.proofs.Common.{◌≡◌, ◌++◌, take}
use Rattle.std.specs.List.{flat_map}
use Rattle.std.specs.Prelude.{map}
use Rattle.load_header.specs.Header.{hardware_at_view}
use Rattle.shown_files.specs.HeaderText.{position_lines}
use Rattle.shown_files.proofs.header.put_positions.Given as goal

abbrev pub invariant-loop-at : goal.invariant-loop-at
invariant-loop-at l = l.out.items ≡ l.fn.out.items ++ flat_map position_lines (map hardware_at_view (take l.at-index l.positions))
