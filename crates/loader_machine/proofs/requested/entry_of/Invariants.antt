use Rattle.std.proofs.Common.{◌≡◌, length, map}
use Rattle.media_lists.specs.Loads.{load_entry_view}
use Rattle.session_rules.specs.MediaFiles.{entry_with}
use Rattle.loader_machine.specs.Machine.{wanted_entry}
use Rattle.loader_machine.proofs.requested.entry_of.Given as goal

-- the entry is one of those that are left
abbrev pub invariant-loop-entry : goal.invariant-loop-entry
invariant-loop-entry l = entry_with l.part (map (λ e. wanted_entry (load_entry_view e)) l.entries) ≡ entry_with l.part (map (λ e. wanted_entry (load_entry_view e)) l.left)

abbrev pub decreases-loop-entry : goal.decreases-loop-entry
decreases-loop-entry l = length l.left
