use Rattle.std.proofs.Common.{◌≡◌, ◌++◌, take}
use Rattle.std.specs.Prelude.{map}
use Rattle.std.specs.List.{flat_map}
use Rattle.load_base.specs.Config.{load_view}
use Rattle.listing.specs.Listing.{load_lines}
use Rattle.listing.proofs.put_loads.Given as goal

abbrev pub invariant-loop-load : goal.invariant-loop-load
invariant-loop-load l = l.out.items ≡ l.fn.out.items ++ flat_map load_lines (map load_view (take l.load-index l.loads))
