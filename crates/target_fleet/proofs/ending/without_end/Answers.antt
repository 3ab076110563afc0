use Rattle.target_fleet.proofs.UnitEnds.{older_left}
use Rattle.target_fleet.proofs.ending.without_end.Goals as goal

pub returns : goal.returns
returns c = older_left c.args.trace.items c.pop.new.self.items c.pop.result c.pop.ensures.last c.pop.ensures.empty.0
