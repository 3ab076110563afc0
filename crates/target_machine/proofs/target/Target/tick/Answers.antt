use Rattle.std.proofs.Common.{rules, refl, sym, ◌∙◌}
use Rattle.exchange_trace.specs.declared.trace.Side.TheVariants as sides
use Rattle.transfer_end.specs.Calls.{posted, posts_view}
use Rattle.target_machine.proofs.Calm.{calm, none_seen}
use Rattle.target_machine.proofs.Following.{ticks_so}
use Rattle.target_machine.proofs.target.Target.tick.Goals as goal

pub returns-clause-does : goal.returns-clause-does
returns-clause-does g c =
    ticks_so _ c.args.self.now _ c.repeat.new.self (posted c.in_ok-post.post) (posts_view c.of.result) c.self.view_is (calm c.self.inside.installed.active.loads c.self.inside.live c.self.inside.installed.store c.self.invariant)
    (none_seen c.self.inside.installed.active.loads c.self.inside.live (search rules)) (sym c.may_repeat.ensures ∙ c.if-not-may_repeat.false) (c.in_ok-post.ensures sides.Target) refl refl c.of.ensures
