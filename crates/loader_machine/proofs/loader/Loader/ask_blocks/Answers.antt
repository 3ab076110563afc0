use Rattle.std.proofs.Common.{[], ◌∷◌}
use Rattle.exchange_trace.specs.declared.trace.Side.TheVariants as sides
use Rattle.transfer_end.specs.Moves.{Asks_size}
use Rattle.loader_machine.proofs.Following.{does_so}
use Rattle.loader_machine.proofs.loader.Loader.ask_blocks.Goals as goal

pub returns : goal.returns
returns c = does_so _ c.args.self.now (Asks_size c.args.size ∷ []) c.ask_size.new.self [] c.self.view_is (c.ask_size.ensures sides.Loader)
