use Rattle.media_check.proofs.OpeningLemmas.{not_too_long, not_too_large}
use Rattle.media_check.proofs.laws.opening_laws.Goals as goal

pub returns-clause-not_too_long : goal.returns-clause-not_too_long
returns-clause-not_too_long c = not_too_long

pub returns-clause-not_too_large : goal.returns-clause-not_too_large
returns-clause-not_too_large c = not_too_large
