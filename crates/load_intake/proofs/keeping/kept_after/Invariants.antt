use Rattle.std.proofs.Common.{◌≡◌, ◌≤◌, length, take}
use Rattle.session_rules.specs.KeptLoads.{told_loads}
use Rattle.load_intake.specs.Keeping.{entries, kept_with}
use Rattle.load_intake.proofs.keeping.kept_after.Given as goal

abbrev pub invariant-loop-load : goal.invariant-loop-load
invariant-loop-load l = (l.kept ≡ told_loads (kept_with (entries (take l.load-index l.active)) (entries l.new) l.header.type_id)) × (length l.kept ≤ l.load-index)
