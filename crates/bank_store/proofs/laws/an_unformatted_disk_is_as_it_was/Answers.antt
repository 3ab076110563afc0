use Rattle.bank_store.proofs.Formatted.{not_begun}
use Rattle.bank_store.proofs.laws.an_unformatted_disk_is_as_it_was.Goals as goal

pub returns : goal.returns
returns g c = record { unchanged = λ disk id. not_begun id (g.K.Disk.state disk) (g.met.K.Disk.only_now disk) }
