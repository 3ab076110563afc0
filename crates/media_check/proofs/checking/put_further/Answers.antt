use Rattle.std.proofs.Common.{◌++◌, List, ap, sym, ◌∙◌, append-nil}
use Rattle.media_check.specs.Findings.{member_findings}
use Rattle.media_check.specs.Sets.{lists_view}
use Rattle.media_check.specs.declared.finding.Finding.{Finding}
use Rattle.media_check.proofs.FindingLists.{members_none, members_taken}
use Rattle.media_check.proofs.checking.put_further.Goals as goal

pub loop-index-init : goal.loop-index-init
loop-index-init c = sym (ap (λ (l : List Finding). c.args.out.now.items ++ l) (members_none (member_findings (lists_view c.args.set.now.first)) 2) ∙ append-nil c.args.out.now.items)

pub loop-index-preserved : goal.loop-index-preserved
loop-index-preserved c =
    let within = rw c.as_slice-lists-items.ensures at c.loop-index-test.true in
    let is = rw c.as_slice-lists-items.ensures at c.lists-item.is in
    members_taken (member_findings (lists_view c.args.set.now.first)) c.args.out.now.items c.loop-index.out.items c.put_member.new.out.items c.args.set.now.further.items c.loop-index.index c.lists-item.result within is
    c.loop-index.invariant c.in_ok-put_member.ensures
