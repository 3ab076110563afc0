use Rattle.session_rules.proofs.SessionRowLemmas.{rows_are_of_all_transfers}
use Rattle.session_rules.proofs.laws.a_row_is_that_of_all_transfers.Goals as goal

pub returns : goal.returns
returns c = rows_are_of_all_transfers
