use Rattle.std.proofs.Common.{◌≡◌, ◌-◌, length, []}
use Rattle.field_grammar.specs.Grammar.{listed, read}
use Rattle.std.specs.Prelude.{map}
use Rattle.media_lists.specs.NameOrder.{IsOrder}
use Rattle.media_lists.specs.Entries.{entry_after}
use Rattle.media_lists.specs.Files.{file_body, file_name}
use Rattle.media_lists.proofs.reading_files.read_so_many_files.Given as goal

abbrev pub invariant-loop : goal.invariant-loop
invariant-loop l = record {
  so_many : length l.files.items ≡ l.counter;
  order : IsOrder (map file_name l.files.items) l.order.items;
  yet : read (listed (l.count - l.counter) (entry_after (file_body l.members) file_name l.count) l.files.items) l.reader ≡ read (listed l.count (entry_after (file_body l.members) file_name l.count) []) l.fn.reader;
}
