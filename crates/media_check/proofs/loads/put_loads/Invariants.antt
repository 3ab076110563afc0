use Rattle.std.proofs.Common.{◌≡◌, ◌++◌, take}
use Rattle.std.specs.Prelude.{map}
use Rattle.std.specs.List.{flat_map}
use Rattle.media_lists.specs.Loads.{load_entry_view}
use Rattle.media_check.specs.Findings.{load_findings}
use Rattle.media_check.specs.Sets.{set_view}
use Rattle.media_check.proofs.loads.put_loads.Given as goal

abbrev pub invariant-loop-load : goal.invariant-loop-load
invariant-loop-load l =
    l.out.items ≡ l.fn.out.items ++ flat_map (load_findings (set_view l.set)) (map load_entry_view (take l.load-index l.loads))
