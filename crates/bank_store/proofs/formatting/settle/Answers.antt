use Rattle.bank_store.proofs.Moments.{adds_first}
use Rattle.bank_store.proofs.Shutting.{shuts_none}
use Rattle.bank_store.proofs.formatting.settle.Goals as goal

pub returns-clause-shuts : goal.returns-clause-shuts
returns-clause-shuts g c =
    shuts_none (g.K.Disk.state c.args.disk.now) (g.K.Disk.state c.sync.new.self) _ c.requires.gates c.sync.ensures.elapses.tells
    c.in_ok-sync.ensures.kept c.in_ok-sync.ensures.settled (adds_first _ _ _ _ _ c.sync.ensures.elapses (λ image is. is))
