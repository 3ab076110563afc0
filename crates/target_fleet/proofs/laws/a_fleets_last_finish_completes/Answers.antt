use Rattle.target_fleet.proofs.OwnFinish.{unit_completes}
use Rattle.target_fleet.proofs.laws.a_fleets_last_finish_completes.Goals as goal

pub returns : goal.returns
returns c = unit_completes
