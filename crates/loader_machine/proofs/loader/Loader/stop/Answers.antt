use Rattle.exchange_trace.specs.declared.trace.Side.TheVariants as sides
use Rattle.loader_machine.proofs.Closing.{stops}
use Rattle.loader_machine.proofs.loader.Loader.stop.Goals as goal

pub returns : goal.returns
returns c = stops _ c.args.self.now c.stop.new.self c.self.view_is (c.stop.ensures sides.Loader).keeps
