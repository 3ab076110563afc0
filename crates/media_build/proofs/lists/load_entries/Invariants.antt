use Rattle.std.proofs.Common.{◌≡◌, ◌++◌, length, map}
use Rattle.media_lists.specs.Loads.{load_entry_view}
use Rattle.media_build.specs.RecipeSets.{load_entry, loads_of}
use Rattle.media_build.proofs.lists.load_entries.Given as goal

abbrev pub invariant-loop-load : goal.invariant-loop-load
invariant-loop-load l = map load_entry_view l.entries.items ++ map load_entry l.loads ≡ map load_entry (loads_of l.lines)

abbrev pub decreases-loop-load : goal.decreases-loop-load
decreases-loop-load l = length l.loads
