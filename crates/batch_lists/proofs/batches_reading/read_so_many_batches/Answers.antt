use Rattle.std.proofs.Common.{arith, length-append}
use Rattle.field_grammar.proofs.LoopLemmas.{list_goes_on}
use Rattle.media_lists.specs.Entries.{entry_after}
use Rattle.batch_lists.specs.Batches.{batch_body, batch_file}
use Rattle.media_lists.proofs.FitLemmas.{order_pushed}
use Rattle.batch_lists.proofs.batches_reading.read_so_many_batches.Goals as goal

pub loop-preserved : goal.loop-preserved
loop-preserved c = record {
  so_many = rw (c.in_ok-push.ensures.ok, length-append) (omega (arith, c.loop.invariant.so_many));
  order = order_pushed batch_file c.loop.batches.items c.push.new.self.items c.in_ok-batch.batch c.read_new_batch.new.order.items c.in_ok-push.ensures.ok c.in_ok-batch.ensures.order;
  yet = rw c.in_ok-push.ensures.ok
      (list_goes_on (entry_after (batch_body c.args.members) batch_file c.args.count) c.loop.batches.items c.args.count c.loop.counter c.loop.reader c.read_new_batch.new.reader c.in_ok-batch.batch _
      c.loop.invariant.yet c.loop-test.true c.in_ok-batch.ensures.read);
}
