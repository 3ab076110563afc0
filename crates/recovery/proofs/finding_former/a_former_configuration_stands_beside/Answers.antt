use Rattle.recovery.proofs.FormerLoads.{former_stands_beside}
use Rattle.recovery.proofs.finding_former.a_former_configuration_stands_beside.Goals as goal

pub returns : goal.returns
returns c = former_stands_beside
