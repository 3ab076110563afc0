use Rattle.std.proofs.Common.{rules}
use Rattle.load_intake.proofs.Steps.{ended, taken_short}
use Rattle.load_intake.proofs.storing.end_file.Goals as goal

pub returns-clause-has : goal.returns-clause-has
returns-clause-has c loads load missing taken has = ended c.args.store.now c.end_file.new.self c.args.name loads load missing taken c.end_file.ensures.filling c.end_file.ensures.manifest c.end_file.ensures.body (search rules) (taken_short c.args.store.now _ _ taken c.requires.awaits has) has
