use Rattle.std.proofs.Common.{ℕ, Option, subst, sym}
use Rattle.target_machine.specs.Decisions.{row_then}
use Rattle.target_machine.specs.Machine.{seen_at}
use Rattle.target_machine.specs.Stages.{TurnsTo}
use Rattle.target_machine.proofs.Turning.{stays_too}
use Rattle.std.proofs.Common.{Ok}
use Rattle.target_machine.specs.Disks.{TurnsDisk, whole_row_then}
use Rattle.target_machine.proofs.Holding.{error_brings, error_rests}
use Rattle.target_machine.proofs.installed.Installed.next_row.Goals as goal

pub returns-in-Some-clause-goes_on : goal.returns-in-Some-clause-goes_on
returns-in-Some-clause-goes_on g c =
    stays_too c.args.self.now.store c.args.self.now.store c.broken.new.self.store (g.K.Disk.state c.args.disk.now) (g.K.Disk.state c.args.disk.now)
    (record { running = c.requires.running; fits = λ x. x; works = λ x. x })
    (c.a_store_goes_on_fitting.ensures.continued_fits c.args.self.now.store c.broken.new.self.store c.args.disk.now c.broken.ensures.continues)
    (c.a_store_goes_on_fitting.ensures.continued_works c.args.self.now.store c.broken.new.self.store c.args.disk.now c.broken.ensures.continues)

pub returns-in-Some-clause-row : goal.returns-in-Some-clause-row
returns-in-Some-clause-row g c = λ accepts follows.
    subst (λ (x : Option ℕ). TurnsTo c.broken.result (row_then accepts c.args.self.now.active (seen_at c.args.self.now.active.loads c.args.row c.args.arriving.now) x) c.args.self.now c.broken.new.self) (sym c.in-Some.is)
    (c.broken.ensures.row c.args.arriving.now)

pub returns-in-Some-clause-brings : goal.returns-in-Some-clause-brings
returns-in-Some-clause-brings g c = λ accepts follows s x kept installs.
    subst (λ (e : Option ℕ). TurnsDisk (g.K.Disk.state c.args.disk.now) c.broken.new.self.store (g.K.Disk.state c.args.disk.now) s (whole_row_then accepts c.args.self.now.active x e) (Ok c.broken.result)) (sym c.in-Some.is)
    (record {
      brings = error_brings c.args.self.now.store c.broken.new.self.store (g.K.Disk.state c.args.disk.now) s x.row x.arrived c.in-Some.code c.broken.result c.broken.ensures.continues installs;
      rests = λ none. error_rests x.row x.arrived c.in-Some.code;
    })

pub returns-in-None-clause-brings : goal.returns-in-None-clause-brings
returns-in-None-clause-brings g c = λ accepts follows s x kept installs.
    subst (λ (e : Option ℕ). TurnsDisk (g.K.Disk.state c.args.disk.now) c.done.new.self.store (g.K.Disk.state c.done.new.disk) s (whole_row_then accepts c.args.self.now.active x e) c.done.result) (sym c.in-None.is)
    (c.done.ensures.brings accepts follows s x kept installs)
