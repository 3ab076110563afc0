use Rattle.target_fleet.proofs.OwnBounds.{unit_finish_ends}
use Rattle.target_fleet.proofs.laws.a_fleets_last_finish_ends.Goals as goal

pub returns : goal.returns
returns c = unit_finish_ends c.every_finish_ends.ensures.ends
