use Rattle.target_fleet.proofs.SteppedSoFar.{batch_named, batch_ordered}
use Rattle.target_fleet.proofs.stepped.SteppingOrder.push_batch.Goals as goal

pub invariant_of-self-2 : goal.invariant_of-self-2
invariant_of-self-2 c =
    batch_named c.push-2.result c.args.part c.self.inside.steps.items c.push-2.new.self.items c.self.inside.batches.items c.push.new.self.items (c.push-2.ensures.has_spare c.in_ok-reserve.ensures.ok)
    c.in_ok-push.ensures.ok (rw c.reserve.ensures.items at c.push-2.ensures.ok) c.self.invariant

pub returns : goal.returns
returns c =
    batch_ordered c.push-2.result c.args.part c.self.inside.steps.items c.push-2.new.self.items c.self.inside.batches.items c.push.new.self.items c.args.self.now c.self.view_is c.in_ok-push.ensures.ok
    c.self.invariant (rw c.reserve.ensures.items at c.push-2.ensures.ok)
