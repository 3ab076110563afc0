use Rattle.session_rules.proofs.LoaderRoleLemmas.{completed_lists_arrived, loader_roles_fit}
use Rattle.session_rules.proofs.laws.a_completed_session_lists_what_arrived.Goals as goal

pub returns-clause-roles : goal.returns-clause-roles
returns-clause-roles c = loader_roles_fit

pub returns-clause-listed : goal.returns-clause-listed
returns-clause-listed c = completed_lists_arrived
