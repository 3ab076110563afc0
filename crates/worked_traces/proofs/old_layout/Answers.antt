use Rattle.worked_traces.proofs.OldLayoutRun.{old_layout, parts}
use Rattle.worked_traces.proofs.old_layout.Goals as goal

pub returns-clause-worked : goal.returns-clause-worked
returns-clause-worked c = old_layout

pub returns-clause-parts : goal.returns-clause-parts
returns-clause-parts c = parts
