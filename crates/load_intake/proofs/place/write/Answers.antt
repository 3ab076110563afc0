use Rattle.std.proofs.Common.{ap, List, ℕ}
use Rattle.bank_store.specs.Given.{with_bytes}
use Rattle.load_intake.proofs.Filling.{gives_fails, gives_so}
use Rattle.load_intake.proofs.place.write.Goals as goal

pub returns-in_err-append-clause-gives : goal.returns-in_err-append-clause-gives
returns-in_err-append-clause-gives g c = λ s given is.
    gives_fails (g.K.Disk.state c.args.disk.now) c.append.new.store c.append.new.store (g.K.Disk.state c.append.new.disk) s _ _ c.append.result c.from_residual.result c.from_residual.ensures.0 (c.append.ensures.gives s given is)

pub returns-in_err-take-clause-gives : goal.returns-in_err-take-clause-gives
returns-in_err-take-clause-gives g c = λ s given is.
    gives_fails (g.K.Disk.state c.args.disk.now) c.append.new.store c.append.new.store (g.K.Disk.state c.append.new.disk) s _ _ _ c.from_residual-in_err-take.result c.from_residual-in_err-take.ensures.0 (c.in_ok-append.ensures.gives s given is)

pub returns-clause-gives : goal.returns-clause-gives
returns-clause-gives g c = λ s given is.
    gives_so (g.K.Disk.state c.args.disk.now) c.append.new.store (g.K.Disk.state c.append.new.disk) s _ _ _ _ (ap (λ (bytes : List ℕ). with_bytes bytes given) c.kept.ensures) (c.in_ok-append.ensures.gives s given is)
