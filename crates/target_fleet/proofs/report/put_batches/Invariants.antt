use Rattle.std.proofs.Common.{◌≡◌, ◌++◌, take}
use Rattle.std.specs.List.{flat_map}
use Rattle.target_fleet.specs.FleetTexts.{batch_line}
use Rattle.target_fleet.proofs.report.put_batches.Given as goal

abbrev pub invariant-loop-batch : goal.invariant-loop-batch
invariant-loop-batch l = l.out.items ≡ l.fn.out.items ++ flat_map batch_line (take l.batch-index l.batches)
