use Rattle.std.proofs.Common.{[]}
use Rattle.bank_store.specs.Given.{nothing_given}
use Rattle.load_intake.proofs.Filling.{begin_fails, begins_upload}
use Rattle.load_intake.proofs.Beginning.{begins_in_step, new_intake}
use Rattle.load_intake.proofs.intake.Intake.begin.Goals as goal

pub invariant_of-result : goal.invariant_of-result
invariant_of-result g c = new_intake c.args.request.items c.new.result.items c.clear.new.self c.new.ensures c.requires.count.0 c.requires.count.1

pub returns-clause-in_step : goal.returns-clause-in_step
returns-clause-in_step g c = begins_in_step c.args.request.items c.new.result.items c.clear.new.self c.args.store.now c.begin.new.store _ _ c.new.ensures c.requires.count.1 c.in_ok-begin.ensures.has c.in_ok-begin.ensures.goes_on

pub returns-in_err-begin-clause-brings : goal.returns-in_err-begin-clause-brings
returns-in_err-begin-clause-brings g c = λ s beside.
    begin_fails (g.K.Disk.state c.args.disk.now) c.begin.new.store c.begin.new.store (g.K.Disk.state c.begin.new.disk) s s nothing_given _ [] c.begin.result c.from_residual.result c.from_residual.ensures.0 (c.begin.ensures.gives s beside)

pub returns-clause-brings : goal.returns-clause-brings
returns-clause-brings g c = λ s beside. begins_upload (g.K.Disk.state c.args.disk.now) c.begin.new.store (g.K.Disk.state c.begin.new.disk) s c.args.request.items _ _ (c.in_ok-begin.ensures.gives s beside)
