use Rattle.std.proofs.Common.{◌≡◌, ◌++◌, take}
use Rattle.std.specs.List.{flat_map}
use Rattle.indexmap.specs.IndexSet.{contains}
use Rattle.load_base.specs.Bytes.{same_bytes}
use Rattle.media_check.specs.Findings.{batch_findings}
use Rattle.media_check.specs.Sets.{set_view}
use Rattle.media_check.proofs.batch_checking.put_each.Given as goal

abbrev pub invariant-loop-index : goal.invariant-loop-index
invariant-loop-index l =
    l.out.items ≡ l.fn.out.items ++ flat_map (batch_findings (set_view l.set) (contains same_bytes l.parts)) (take l.index l.entries)
