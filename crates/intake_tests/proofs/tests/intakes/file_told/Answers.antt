use Rattle.std.proofs.Common.{[]}
use Rattle.bank_store.proofs.KnownLemmas.{knows_on}
use Rattle.intake_tests.proofs.tests.intakes.file_told.Goals as goal

pub finish-requires-clause-active : goal.finish-requires-clause-active
finish-requires-clause-active c = knows_on c.args.store.now c.take_bytes.new.store [] c.in_default.ensures.in_step.goes_on.active c.requires.knows
