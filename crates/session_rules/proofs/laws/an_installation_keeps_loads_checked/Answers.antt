use Rattle.session_rules.proofs.InstallationLemmas.{installed_are_checked, installed_have_types}
use Rattle.session_rules.proofs.laws.an_installation_keeps_loads_checked.Goals as goal

pub returns-clause-checked : goal.returns-clause-checked
returns-clause-checked c = installed_are_checked

pub returns-clause-types : goal.returns-clause-types
returns-clause-types c = installed_have_types
