use Rattle.std.proofs.Common.{◌≡◌, ◌++◌, take}
use Rattle.std.specs.List.{flat_map}
use Rattle.std.specs.Prelude.{map}
use Rattle.media_lists.specs.Loads.{load_entry_view}
use Rattle.shown_files.specs.ListText.{listed_load_lines}
use Rattle.shown_files.proofs.lists.put_loads.Given as goal

abbrev pub invariant-loop-load : goal.invariant-loop-load
invariant-loop-load l = l.out.items ≡ l.fn.out.items ++ flat_map listed_load_lines (map load_entry_view (take l.load-index l.loads))
