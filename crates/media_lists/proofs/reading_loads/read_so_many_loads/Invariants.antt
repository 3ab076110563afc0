use Rattle.std.proofs.Common.{◌≡◌, ◌-◌, length, []}
use Rattle.std.specs.Prelude.{map}
use Rattle.field_grammar.specs.Grammar.{listed, read}
use Rattle.media_lists.specs.NameOrder.{IsOrder}
use Rattle.media_lists.specs.Entries.{entry_after}
use Rattle.media_lists.specs.Loads.{load_body, load_name, load_entry_view}
use Rattle.media_lists.proofs.reading_loads.read_so_many_loads.Given as goal

abbrev pub invariant-loop : goal.invariant-loop
invariant-loop l = record {
  so_many : length l.loads.items ≡ l.counter;
  order : IsOrder (map load_name (map load_entry_view l.loads.items)) l.order.items;
  yet : read (listed (l.count - l.counter) (entry_after (load_body l.members) load_name l.count) (map load_entry_view l.loads.items)) l.reader ≡ read (listed l.count (entry_after (load_body l.members) load_name l.count) []) l.fn.reader;
}
