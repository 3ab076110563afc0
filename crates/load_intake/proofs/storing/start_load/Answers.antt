use Rattle.std.proofs.Common.{rules}
use Rattle.load_intake.proofs.Steps.{load_begun}
use Rattle.load_intake.proofs.storing.start_load.Goals as goal

pub returns-clause-has : goal.returns-clause-has
returns-clause-has c loads has = load_begun c.args.store.now c.start_load.new.self c.args.part c.args.type_id c.args.files loads c.start_load.ensures.filling c.start_load.ensures.manifest c.start_load.ensures.body (search rules) (search rules) c.requires.files has
