use Rattle.media_check.specs.Sets.{set_view}
use Rattle.media_check.proofs.FindingLists.{all_found}
use Rattle.media_check.proofs.checking.check.Goals as goal

pub returns : goal.returns
returns c =
    all_found (set_view c.args.set.now) c.new-out.result.items c.put_member.new.out.items c.put_further.new.out.items c.put_contents.new.out.items c.put_batches.new.out.items c.new-out.ensures c.in_ok-put_member.ensures
    c.in_ok-put_further.ensures c.in_ok-put_contents.ensures c.in_ok-put_batches.ensures
