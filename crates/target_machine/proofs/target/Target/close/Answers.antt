use Rattle.std.proofs.Common.{ap, option_map, refl}
use Rattle.exchange_trace.specs.declared.trace.Side.TheVariants as sides
use Rattle.target_machine.specs.Machine.{session_seen}
use Rattle.target_machine.proofs.Following.{closes}
use Rattle.target_machine.proofs.target.Target.close.Goals as goal

pub returns-clause-closes : goal.returns-clause-closes
returns-clause-closes g c =
    closes _ c.args.self.now _ c.self.view_is refl (ap (option_map (session_seen c.abandon.new.self.active.loads)) c.take.ensures.after) c.abandon.ensures.active refl (c.stop.ensures sides.Target)
