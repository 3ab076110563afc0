use Rattle.std.proofs.Common.{Err, ap}
use Rattle.bank_store.specs.Store.{manifest_length}
use Rattle.load_intake.proofs.Filling.{seal_failed, seal_leaves}
use Rattle.load_intake.proofs.Steps.{fails, within}
use Rattle.load_intake.proofs.storing.seal.Goals as goal

pub down-requires : goal.down-requires
down-requires g c =
    fails c.in-Err.fault (λ need have is. within c.args.store.now (manifest_length c.args.store.now) c.requires.room need have ((c.in-Err.ensures.refuses.full need have).0 (ap Err is))) (λ is. c.in-Err.ensures.refuses.not_spent (ap Err is))

pub returns-in-Ok-clause-seals : goal.returns-in-Ok-clause-seals
returns-in-Ok-clause-seals g c = λ s given is.
    seal_leaves c.args.store.now c.seal.new.self (g.K.Disk.state c.args.disk.now) (g.K.Disk.state c.seal.new.disk) s given _ c.in-Ok.ensures.seals c.in-Ok.ensures.clock c.in-Ok.ensures.keeps.leaves (c.in-Ok.ensures.keeps.answered tt) is

pub returns-in-Err-clause-seals : goal.returns-in-Err-clause-seals
returns-in-Err-clause-seals g c = λ s given is.
    seal_failed c.args.store.now c.seal.new.self (g.K.Disk.state c.args.disk.now) (g.K.Disk.state c.seal.new.disk) s given _ c.in-Err.ensures.writes_disk.goes_on.later c.in-Err.ensures.keeps.leaves is
