use Rattle.std.proofs.Common.{◌≡◌, ◌++◌, take}
use Rattle.std.specs.Prelude.{map}
use Rattle.std.specs.List.{flat_map}
use Rattle.media_lists.specs.Loads.{load_entry_view}
use Rattle.media_check.specs.Findings.{entry_findings}
use Rattle.media_check.specs.Sets.{set_view}
use Rattle.media_check.proofs.checking.put_entries.Given as goal

abbrev pub invariant-loop-entry : goal.invariant-loop-entry
invariant-loop-entry l =
    l.out.items ≡ l.fn.out.items ++ flat_map (entry_findings (set_view l.set) (map load_entry_view l.loads)) (take l.entry-index l.files)
