use Rattle.bank_store.proofs.Premises.{loses_holds, settled_loses, still_loses, works_loses}
use Rattle.bank_store.proofs.laws.a_power_loss_takes_only_work.Goals as goal

pub returns-clause-settled : goal.returns-clause-settled
returns-clause-settled g c disk image s told holds settled = settled_loses (g.K.Disk.state disk) image s told holds settled

pub returns-clause-works : goal.returns-clause-works
returns-clause-works g c store disk image told works = works_loses store (g.K.Disk.state disk) image told works

pub returns-clause-still : goal.returns-clause-still
returns-clause-still g c old new reads none was = still_loses (g.K.Disk.state old) (g.K.Disk.state new) reads none was

pub returns-clause-holds : goal.returns-clause-holds
returns-clause-holds g c disk image s loses told holds left may =
    loses_holds c.an_image_holds_one_configuration.ensures.one_standing (g.K.Disk.state disk) image s loses told holds left may
