use Rattle.std.proofs.Common.{◌≡◌, ◌++◌, take}
use Rattle.std.specs.Prelude.{map}
use Rattle.std.specs.List.{flat_map}
use Rattle.indexmap.specs.IndexSet.{contains}
use Rattle.load_base.specs.Bytes.{same_bytes}
use Rattle.batch_lists.specs.Batch.{batch_target_view}
use Rattle.media_check.specs.Findings.{part_findings}
use Rattle.media_check.proofs.batch_checking.put_targets.Given as goal

abbrev pub invariant-loop-target : goal.invariant-loop-target
invariant-loop-target l =
    l.out.items ≡ l.fn.out.items
    ++ flat_map (part_findings (contains same_bytes l.parts) l.member l.file) (flat_map (λ target. target.parts) (map batch_target_view (take l.target-index l.targets)))
