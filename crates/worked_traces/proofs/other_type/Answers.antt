use Rattle.worked_traces.proofs.OtherTypeRun.{other_type, parts}
use Rattle.worked_traces.proofs.other_type.Goals as goal

pub returns-clause-worked : goal.returns-clause-worked
returns-clause-worked c = other_type

pub returns-clause-parts : goal.returns-clause-parts
returns-clause-parts c = parts
