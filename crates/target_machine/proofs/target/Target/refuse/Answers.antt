use Rattle.transfer_end.specs.Calls.{posts_view}
use Rattle.target_machine.proofs.Calm.{calm}
use Rattle.target_machine.proofs.Serving.{makes_so, refuses_so}
use Rattle.target_machine.proofs.target.Target.refuse.Goals as goal

pub returns : goal.returns
returns g c =
    refuses_so _ c.args.self.now c.args.from (posts_view c.of.result) c.is_busy.result c.self.view_is (calm c.self.inside.installed.active.loads c.self.inside.live c.self.inside.installed.store c.self.invariant)
    c.is_busy.ensures c.if-is_busy.false (makes_so _ _ _ _ _ c.of.ensures c.in_ok-refusal.ensures)
