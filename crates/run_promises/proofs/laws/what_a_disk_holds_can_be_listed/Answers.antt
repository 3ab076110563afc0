use Rattle.run_promises.proofs.Held.{held_fits}
use Rattle.run_promises.proofs.Listed.{fits_lists}
use Rattle.run_promises.proofs.Named.{fits_names}
use Rattle.run_promises.proofs.laws.what_a_disk_holds_can_be_listed.Goals as goal

pub returns-clause-fits : goal.returns-clause-fits
returns-clause-fits c = held_fits

pub returns-clause-names : goal.returns-clause-names
returns-clause-names c = fits_names

pub returns-clause-lists : goal.returns-clause-lists
returns-clause-lists c = fits_lists
