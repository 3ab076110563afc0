use Rattle.std.proofs.Common.{◌≡◌, ◌++◌, take}
use Rattle.std.specs.Prelude.{map}
use Rattle.media_check.specs.Findings.{member_findings, of_members}
use Rattle.media_check.specs.Sets.{lists_view}
use Rattle.media_check.proofs.checking.put_further.Given as goal

abbrev pub invariant-loop-index : goal.invariant-loop-index
invariant-loop-index l =
    l.out.items ≡ l.fn.out.items ++ of_members (member_findings (lists_view l.set.first)) 2 (take l.index (map lists_view l.set.further.items))
