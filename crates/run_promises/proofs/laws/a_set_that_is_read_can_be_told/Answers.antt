use Rattle.run_promises.proofs.Tellable.{set_is_told}
use Rattle.run_promises.proofs.laws.a_set_that_is_read_can_be_told.Goals as goal

pub returns : goal.returns
returns c = set_is_told (record { decided = c.loads_list_laws.ensures.decided; spelled = c.loads_list_laws.ensures.spelled })
