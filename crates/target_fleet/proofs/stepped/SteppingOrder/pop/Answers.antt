use Rattle.std.proofs.Common.{◌∙◌, refl, sym, false, true}
use Rattle.target_fleet.proofs.SteppedSoFar.{newest_batch, newest_unit, some_batch}
use Rattle.target_fleet.proofs.stepped.SteppingOrder.pop.Goals as goal

pub invariant_of-self-in-Unit : goal.invariant_of-self-in-Unit
invariant_of-self-in-Unit c = (newest_unit false c.in-Unit.unit c.self.inside.steps.items c.pop.new.self.items c.in_ok-unit.field-0 c.self.inside.batches.items c.in_ok-unit.ensures.last c.in-Unit.is c.self.invariant).1

pub returns-in-Unit-clause-newest : goal.returns-in-Unit-clause-newest
returns-in-Unit-clause-newest c = sym c.self.view_is ∙ (newest_unit false c.in-Unit.unit c.self.inside.steps.items c.pop.new.self.items c.in_ok-unit.field-0 c.self.inside.batches.items c.in_ok-unit.ensures.last c.in-Unit.is c.self.invariant).0

pub invariant_of-self-in-Asked : goal.invariant_of-self-in-Asked
invariant_of-self-in-Asked c = (newest_unit true c.in-Asked.unit c.self.inside.steps.items c.pop.new.self.items c.in_ok-unit.field-0 c.self.inside.batches.items c.in_ok-unit.ensures.last c.in-Asked.is c.self.invariant).1

pub returns-in-Asked-clause-newest : goal.returns-in-Asked-clause-newest
returns-in-Asked-clause-newest c = sym c.self.view_is ∙ (newest_unit true c.in-Asked.unit c.self.inside.steps.items c.pop.new.self.items c.in_ok-unit.field-0 c.self.inside.batches.items c.in_ok-unit.ensures.last c.in-Asked.is c.self.invariant).0

pub invariant_of-self-in_err-pop-in-Batch : goal.invariant_of-self-in_err-pop-in-Batch
invariant_of-self-in_err-pop-in-Batch c =
    absurd (some_batch c.self.inside.steps.items c.pop.new.self.items c.in_ok-unit.field-0 c.self.inside.batches.items c.in_ok-unit.ensures.last c.in-Batch.is c.self.invariant (c.in_err-pop-in-Batch.ensures.empty.0 refl))

pub returns-in_err-pop-in-Batch-clause-none : goal.returns-in_err-pop-in-Batch-clause-none
returns-in_err-pop-in-Batch-clause-none c =
    absurd (some_batch c.self.inside.steps.items c.pop.new.self.items c.in_ok-unit.field-0 c.self.inside.batches.items c.in_ok-unit.ensures.last c.in-Batch.is c.self.invariant (c.in_err-pop-in-Batch.ensures.empty.0 refl))

pub invariant_of-self-in-Batch : goal.invariant_of-self-in-Batch
invariant_of-self-in-Batch c =
    (newest_batch c.in_ok-pop-in-Batch.field-0 c.self.inside.steps.items c.pop.new.self.items c.in_ok-unit.field-0 c.self.inside.batches.items c.pop-in-Batch.new.self.items c.in_ok-unit.ensures.last c.in-Batch.is c.in_ok-pop-in-Batch.ensures.last c.self.invariant).1

pub returns-in_ok-pop-in-Batch-clause-newest : goal.returns-in_ok-pop-in-Batch-clause-newest
returns-in_ok-pop-in-Batch-clause-newest c =
    sym c.self.view_is
    ∙ (newest_batch c.in_ok-pop-in-Batch.field-0 c.self.inside.steps.items c.pop.new.self.items c.in_ok-unit.field-0 c.self.inside.batches.items c.pop-in-Batch.new.self.items c.in_ok-unit.ensures.last c.in-Batch.is c.in_ok-pop-in-Batch.ensures.last c.self.invariant).0
