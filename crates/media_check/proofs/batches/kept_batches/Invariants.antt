use Rattle.std.proofs.Common.{◌≡◌, take, map}
use Rattle.media_check.specs.Batches.{batch_at, kept_view}
use Rattle.media_check.specs.Kept.{files_view}
use Rattle.media_check.proofs.batches.kept_batches.Given as goal

abbrev pub invariant-loop-entry : goal.invariant-loop-entry
invariant-loop-entry l = map kept_view l.kept.items ≡ map (batch_at (files_view l.files.entries)) (take l.entry-index l.entries)
