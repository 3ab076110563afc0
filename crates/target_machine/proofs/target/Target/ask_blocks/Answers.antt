use Rattle.std.proofs.Common.{[], ◌∷◌, refl}
use Rattle.exchange_trace.specs.declared.trace.Side.TheVariants as sides
use Rattle.transfer_end.specs.Moves.{Asks_size}
use Rattle.target_machine.proofs.Calm.{calm}
use Rattle.target_machine.proofs.Following.{does_so}
use Rattle.target_machine.proofs.target.Target.ask_blocks.Goals as goal

pub returns-clause-takes : goal.returns-clause-takes
returns-clause-takes g c = λ accepts.
    does_so _ c.args.self.now _ (Asks_size c.args.size ∷ []) c.ask_size.new.self [] c.self.view_is (calm c.self.inside.installed.active.loads c.self.inside.live c.self.inside.installed.store c.self.invariant) (c.ask_size.ensures sides.Target) refl refl
