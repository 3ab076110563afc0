use Rattle.disk_layout.proofs.OneThing.{one_or_other, not_both, one_standing, one_fault}
use Rattle.disk_layout.proofs.laws.an_image_holds_one_configuration.Goals as goal

pub returns-clause-one_or_other : goal.returns-clause-one_or_other
returns-clause-one_or_other c = one_or_other

pub returns-clause-not_both : goal.returns-clause-not_both
returns-clause-not_both c = not_both

pub returns-clause-one_standing : goal.returns-clause-one_standing
returns-clause-one_standing c = one_standing

pub returns-clause-one_fault : goal.returns-clause-one_fault
returns-clause-one_fault c = one_fault
