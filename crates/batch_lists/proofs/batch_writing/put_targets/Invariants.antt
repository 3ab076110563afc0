use Rattle.std.proofs.Common.{◌≡◌, ◌++◌, take}
use Rattle.std.specs.Prelude.{map}
use Rattle.std.specs.List.{concat, flat_map}
use Rattle.batch_lists.specs.Batch.{batch_target_view}
use Rattle.batch_lists.specs.BatchFields.{batch_target_fields}
use Rattle.batch_lists.proofs.batch_writing.put_targets.Given as goal

abbrev pub invariant-loop-target : goal.invariant-loop-target
invariant-loop-target l = l.out ≡ l.fn.out ++ concat (flat_map batch_target_fields (map batch_target_view (take l.target-index l.targets)))
