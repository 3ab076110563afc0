use Rattle.std.proofs.Common.{inl}
use Rattle.disk_layout.specs.Holds.{HoldsConfig}
use Rattle.bank_store.specs.Keeps.{IsOldOrNew}
use Rattle.bank_store.proofs.Moments.{leaves_only}
use Rattle.bank_store.proofs.Premises.{idle_fits, idle_works, holds_now, stands_now}
use Rattle.bank_store.proofs.laws.an_idle_store_works.Goals as goal

pub returns-clause-fits : goal.returns-clause-fits
returns-clause-fits g c store disk idle running holds = idle_fits store (g.K.Disk.state disk) idle running holds

pub returns-clause-works : goal.returns-clause-works
returns-clause-works g c store disk idle loses fits = idle_works c.an_image_holds_one_configuration.ensures.one_standing store (g.K.Disk.state disk) idle loses fits

pub returns-clause-now : goal.returns-clause-now
returns-clause-now g c store disk s left beside may = holds_now store (g.K.Disk.state disk) s beside left may

pub returns-clause-since : goal.returns-clause-since
returns-clause-since g c store old new s beside adds =
    leaves_only (g.K.Disk.state old) (g.K.Disk.state new) (λ left. HoldsConfig left s) (g.met.K.Disk.only_now old) (stands_now store (g.K.Disk.state old) s beside) adds

pub returns-clause-since_either : goal.returns-clause-since_either
returns-clause-since_either g c store old new s next beside adds =
    leaves_only (g.K.Disk.state old) (g.K.Disk.state new) (IsOldOrNew s next) (g.met.K.Disk.only_now old) (λ left may. inl (stands_now store (g.K.Disk.state old) s beside left may)) adds
