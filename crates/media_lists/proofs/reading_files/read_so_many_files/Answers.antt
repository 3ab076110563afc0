use Rattle.std.proofs.Common.{arith, length-append}
use Rattle.field_grammar.proofs.LoopLemmas.{list_goes_on}
use Rattle.media_lists.specs.Entries.{entry_after}
use Rattle.media_lists.specs.Files.{file_body, file_name}
use Rattle.media_lists.proofs.FitLemmas.{order_pushed}
use Rattle.media_lists.proofs.reading_files.read_so_many_files.Goals as goal

pub loop-preserved : goal.loop-preserved
loop-preserved c = record {
  so_many = rw (c.in_ok-push.ensures.ok, length-append) (omega (arith, c.loop.invariant.so_many));
  order = order_pushed file_name c.loop.files.items c.push.new.self.items c.in_ok-file.file c.read_new_file.new.order.items c.in_ok-push.ensures.ok c.in_ok-file.ensures.order;
  yet = rw c.in_ok-push.ensures.ok
      (list_goes_on (entry_after (file_body c.args.members) file_name c.args.count) c.loop.files.items c.args.count c.loop.counter c.loop.reader c.read_new_file.new.reader c.in_ok-file.file _
      c.loop.invariant.yet c.loop-test.true c.in_ok-file.ensures.read);
}
