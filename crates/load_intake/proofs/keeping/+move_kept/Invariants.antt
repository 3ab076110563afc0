use Rattle.std.proofs.Common.{length}
use Rattle.load_intake.proofs.keeping.+move_kept.Given as goal

abbrev pub decreases-move_kept : goal.decreases-move_kept
decreases-move_kept l = length l.from.now.items
