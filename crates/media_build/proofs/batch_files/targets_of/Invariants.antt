use Rattle.std.proofs.Common.{◌≡◌, map, take}
use Rattle.std.specs.List.{flat_map}
use Rattle.batch_lists.specs.Batch.{batch_target_view}
use Rattle.media_build.specs.RecipeSets.{batch_target, targets_in}
use Rattle.media_build.proofs.batch_files.targets_of.Given as goal

abbrev pub invariant-loop-line : goal.invariant-loop-line
invariant-loop-line l = map batch_target_view l.targets.items ≡ map batch_target (flat_map (λ line. targets_in line.statement) (take l.line-index l.lines))
