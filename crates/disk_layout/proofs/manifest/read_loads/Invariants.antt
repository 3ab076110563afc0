use Rattle.std.proofs.Common.{◌≡◌, ◌-◌}
use Rattle.std.specs.Prelude.{map}
use Rattle.field_grammar.specs.Grammar.{times, read}
use Rattle.field_grammar.proofs.LoopLemmas.{with_prefix}
use Rattle.disk_layout.specs.Manifest.{load_entry, entry_view}
use Rattle.disk_layout.proofs.manifest.read_loads.Given as goal

abbrev pub invariant-loop : goal.invariant-loop
invariant-loop l = with_prefix (map entry_view l.loads.items) (read (times (l.count - l.counter) (load_entry l.layout)) l.reader) ≡ read (times l.count (load_entry l.layout)) l.fn.reader
