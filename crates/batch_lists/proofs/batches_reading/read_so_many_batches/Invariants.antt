use Rattle.std.proofs.Common.{◌≡◌, ◌-◌, length, []}
use Rattle.field_grammar.specs.Grammar.{listed, read}
use Rattle.std.specs.Prelude.{map}
use Rattle.media_lists.specs.NameOrder.{IsOrder}
use Rattle.media_lists.specs.Entries.{entry_after}
use Rattle.batch_lists.specs.Batches.{batch_body, batch_file}
use Rattle.batch_lists.proofs.batches_reading.read_so_many_batches.Given as goal

abbrev pub invariant-loop : goal.invariant-loop
invariant-loop l = record {
  so_many : length l.batches.items ≡ l.counter;
  order : IsOrder (map batch_file l.batches.items) l.order.items;
  yet : read (listed (l.count - l.counter) (entry_after (batch_body l.members) batch_file l.count) l.batches.items) l.reader ≡ read (listed l.count (entry_after (batch_body l.members) batch_file l.count) []) l.fn.reader;
}
