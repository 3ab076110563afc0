use Rattle.worked_traces.proofs.TwoUploadsRun.{two_uploads, parts}
use Rattle.worked_traces.proofs.two_uploads.Goals as goal

pub returns-clause-worked : goal.returns-clause-worked
returns-clause-worked c = two_uploads

pub returns-clause-parts : goal.returns-clause-parts
returns-clause-parts c = parts
