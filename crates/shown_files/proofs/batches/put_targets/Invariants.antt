use Rattle.std.proofs.Common.{◌≡◌, ◌++◌, take}
use Rattle.std.specs.List.{flat_map}
use Rattle.std.specs.Prelude.{map}
use Rattle.batch_lists.specs.Batch.{batch_target_view}
use Rattle.shown_files.specs.BatchText.{batch_target_lines}
use Rattle.shown_files.proofs.batches.put_targets.Given as goal

abbrev pub invariant-loop-target : goal.invariant-loop-target
invariant-loop-target l = l.out.items ≡ l.fn.out.items ++ flat_map batch_target_lines (map batch_target_view (take l.target-index l.targets))
