use Rattle.target_fleet.proofs.AskedInOrder.{completed_asked_all}
use Rattle.target_fleet.proofs.laws.a_completed_batch_asked_all.Goals as goal

pub returns : goal.returns
returns c = completed_asked_all
