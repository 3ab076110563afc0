use Rattle.bank_store.specs.Given.{nothing_given}
use Rattle.load_intake.proofs.Filling.{begin_gives, gives_failed}
use Rattle.load_intake.proofs.Steps.{begun_has}
use Rattle.load_intake.proofs.storing.begin.Goals as goal

pub returns-in-Ok-clause-has : goal.returns-in-Ok-clause-has
returns-in-Ok-clause-has g c = begun_has c.begin.new.self c.in-Ok.ensures.begins.filling c.in-Ok.ensures.begins.manifest

pub returns-in-Ok-clause-gives : goal.returns-in-Ok-clause-gives
returns-in-Ok-clause-gives g c = λ s beside.
    begin_gives c.args.store.now c.begin.new.self (g.K.Disk.state c.args.disk.now) (g.K.Disk.state c.begin.new.disk) s _ c.in-Ok.ensures.begins c.in-Ok.ensures.writes_disk.goes_on.later c.in-Ok.ensures.keeps.leaves (c.in-Ok.ensures.keeps.answered tt) beside

pub returns-in-Err-clause-gives : goal.returns-in-Err-clause-gives
returns-in-Err-clause-gives g c = λ s beside. gives_failed c.args.store.now c.begin.new.self (g.K.Disk.state c.args.disk.now) (g.K.Disk.state c.begin.new.disk) s nothing_given _ c.in-Err.ensures.writes_disk.goes_on.later c.in-Err.ensures.keeps.leaves beside
