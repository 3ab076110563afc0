use Rattle.std.proofs.Common.{◌≡◌, ◌-◌, length, []}
use Rattle.field_grammar.specs.Grammar.{listed, read}
use Rattle.load_header.specs.Header.{entry_after}
use Rattle.load_header.proofs.reading.read_entries.Given as goal

abbrev pub invariant-loop-index : goal.invariant-loop-index
invariant-loop-index l = record {
  so_many : length l.files.items ≡ l.index;
  yet : read (listed (l.count - l.index) (entry_after l.others l.count) l.files.items) l.reader ≡ read (listed l.count (entry_after l.others l.count) []) l.fn.reader;
}
