use Rattle.recovery.proofs.Formers.{former_or_none, not_former_and_none, one_former, one_reason}
use Rattle.recovery.proofs.finding_former.an_image_holds_one_former.Goals as goal

pub returns-clause-one_or_other : goal.returns-clause-one_or_other
returns-clause-one_or_other c = let one = c.an_image_holds_one_configuration.ensures in former_or_none one.one_or_other one.not_both one.one_standing one.one_fault

pub returns-clause-not_both : goal.returns-clause-not_both
returns-clause-not_both c = let one = c.an_image_holds_one_configuration.ensures in not_former_and_none one.one_or_other one.not_both one.one_standing one.one_fault

pub returns-clause-one_former : goal.returns-clause-one_former
returns-clause-one_former c = let one = c.an_image_holds_one_configuration.ensures in one_former one.one_or_other one.not_both one.one_standing one.one_fault

pub returns-clause-one_fault : goal.returns-clause-one_fault
returns-clause-one_fault c = let one = c.an_image_holds_one_configuration.ensures in one_reason one.one_or_other one.not_both one.one_standing one.one_fault
