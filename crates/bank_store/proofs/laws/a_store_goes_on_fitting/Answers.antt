use Rattle.bank_store.proofs.Premises.{fits_read, works_read, fits_continued, works_continued}
use Rattle.bank_store.proofs.laws.a_store_goes_on_fitting.Goals as goal

pub returns-clause-read_fits : goal.returns-clause-read_fits
returns-clause-read_fits g c store old new on fits = fits_read store (g.K.Disk.state old) (g.K.Disk.state new) on fits

pub returns-clause-read_works : goal.returns-clause-read_works
returns-clause-read_works g c store old new on none works = works_read store (g.K.Disk.state old) (g.K.Disk.state new) on none works

pub returns-clause-continued_fits : goal.returns-clause-continued_fits
returns-clause-continued_fits g c before after disk continues fits = fits_continued before after (g.K.Disk.state disk) continues fits

pub returns-clause-continued_works : goal.returns-clause-continued_works
returns-clause-continued_works g c before after disk continues works = works_continued before after (g.K.Disk.state disk) continues works
