use Rattle.std.proofs.Common.{Ok, ap}
use Rattle.session_rules.specs.Target.{TargetView, tick_decision}
use Rattle.target_machine.proofs.Bringing.{keeps_disk, quiet_brings, quiet_tick}
use Rattle.target_machine.proofs.Holding.{fails_here}
use Rattle.target_machine.proofs.target.Target.on_tick.Goals as goal

pub returns-in_err-tick-clause-keeps_disk : goal.returns-in_err-tick-clause-keeps_disk
returns-in_err-tick-clause-keeps_disk g c = λ accepts x kept holds.
    keeps_disk c.args.self.now.store (g.K.Disk.state c.args._disk.now) c.tick.new.self.store (g.K.Disk.state c.args._disk.now) x _ c.from_residual.result
    (λ left may. c.an_idle_store_works.ensures.now c.args.self.now.store c.args._disk.now x.active left holds.beside may) (λ s left beside may. c.an_idle_store_works.ensures.now c.tick.new.self.store c.args._disk.now s left beside may)
    (fails_here c.tick.new.self.store (g.K.Disk.state c.args._disk.now) x.active _ _ _ c.from_residual.result c.from_residual.ensures.0)

pub returns-clause-keeps_disk : goal.returns-clause-keeps_disk
returns-clause-keeps_disk g c = λ accepts x kept holds.
    let v = c.args.self.now.view in
    keeps_disk c.args.self.now.store (g.K.Disk.state c.args._disk.now) c.tick.new.self.store (g.K.Disk.state c.args._disk.now) x _ (Ok c.in_ok-tick.field-0)
    (λ left may. c.an_idle_store_works.ensures.now c.args.self.now.store c.args._disk.now x.active left holds.beside may) (λ s left beside may. c.an_idle_store_works.ensures.now c.tick.new.self.store c.args._disk.now s left beside may)
    (quiet_brings c.args.self.now.store c.tick.new.self.store (g.K.Disk.state c.args._disk.now) v x c.tick.new.self.view.live _ (tick_decision v.end v.live).change c.in_ok-tick.field-0 (quiet_tick v.end v.live) kept
    (ap (λ (y : TargetView). y.live) c.in_ok-tick.ensures.does.keeps) c.in_ok-tick.ensures.store c.in_ok-tick.ensures.work holds)
