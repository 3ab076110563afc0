use Rattle.disk_layout.proofs.Verdict.{outline_stands}
use Rattle.disk_layout.proofs.laws.an_outline_is_filled.Goals as goal

pub returns : goal.returns
returns c = outline_stands
