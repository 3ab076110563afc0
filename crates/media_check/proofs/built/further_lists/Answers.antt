use Rattle.std.proofs.Common.{ap, arith, length, length-append}
use Rattle.media_check.proofs.Bodies.{lists_more}
use Rattle.media_check.proofs.built.further_lists.Goals as goal

pub loop-index-preserved : goal.loop-index-preserved
loop-index-preserved c = record {
  few = omega (arith, c.loop-index.invariant.few, simp length-append at (ap length c.in_ok-push.ensures.ok));
  read =
      lists_more c.args.loads.now c.args.files.now c.args.batches.now c.loop-index.index c.loop-index.further.items c.push.new.self.items c.in_ok-lists.lists c.loop-index.invariant.read c.in_ok-lists.ensures.lists
      c.in_ok-push.ensures.ok;
}
