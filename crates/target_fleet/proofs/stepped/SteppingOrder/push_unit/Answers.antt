use Rattle.target_fleet.proofs.SteppedSoFar.{unit_named, unit_ordered}
use Rattle.target_fleet.proofs.stepped.SteppingOrder.push_unit.Goals as goal

pub invariant_of-self : goal.invariant_of-self
invariant_of-self c =
    unit_named c.push.result c.args.asked c.args.unit c.unit_step.result c.self.inside.steps.items c.push.new.self.items c.self.inside.batches.items c.unit_step.ensures c.push.ensures.ok c.push.ensures.err
    c.self.invariant

pub returns : goal.returns
returns c =
    unit_ordered c.push.result c.args.asked c.args.unit c.unit_step.result c.self.inside.steps.items c.push.new.self.items c.self.inside.batches.items c.args.self.now c.self.view_is c.unit_step.ensures
    c.push.ensures.ok
