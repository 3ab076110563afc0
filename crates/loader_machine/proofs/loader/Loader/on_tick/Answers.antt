use Rattle.std.proofs.Common.{rules}
use Rattle.exchange_trace.specs.declared.trace.Side.TheVariants as sides
use Rattle.transfer_end.specs.Calls.{posted, posts_view}
use Rattle.loader_machine.proofs.Following.{ticks}
use Rattle.loader_machine.proofs.loader.Loader.on_tick.Goals as goal

pub returns : goal.returns
returns c =
    ticks _ c.args.self.now c.repeat.new.self (posted c.in_ok-post.post) (posts_view c.of.result) c.self.view_is (search rules) (search rules) (c.in_ok-post.ensures sides.Loader) c.of.ensures
