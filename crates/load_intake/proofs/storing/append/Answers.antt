use Rattle.std.proofs.Common.{length, Err, ap}
use Rattle.load_intake.proofs.Filling.{append_gives, gives_failed}
use Rattle.load_intake.proofs.Steps.{fails, within}
use Rattle.load_intake.proofs.storing.append.Goals as goal

pub down-requires : goal.down-requires
down-requires g c =
    fails c.in-Err.fault (λ need have is. within c.args.store.now (length c.args.bytes.now) c.requires.room need have ((c.in-Err.ensures.refuses.full need have).0 (ap Err is))) (λ is. c.in-Err.ensures.refuses.not_spent (ap Err is))

pub returns-in-Ok-clause-gives : goal.returns-in-Ok-clause-gives
returns-in-Ok-clause-gives g c = λ s given is.
    append_gives c.args.store.now c.append.new.self (g.K.Disk.state c.args.disk.now) (g.K.Disk.state c.append.new.disk) s given c.args.bytes.now _ c.in-Ok.ensures.appends c.in-Ok.ensures.writes_disk.goes_on.later c.in-Ok.ensures.keeps.leaves (c.in-Ok.ensures.keeps.answered tt) is

pub returns-in-Err-clause-gives : goal.returns-in-Err-clause-gives
returns-in-Err-clause-gives g c = λ s given is.
    gives_failed c.args.store.now c.append.new.self (g.K.Disk.state c.args.disk.now) (g.K.Disk.state c.append.new.disk) s _ _ c.in-Err.ensures.writes_disk.goes_on.later c.in-Err.ensures.keeps.leaves is.beside
