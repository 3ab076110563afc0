use Rattle.std.proofs.Common.{◌≡◌, ◌-◌}
use Rattle.std.specs.Prelude.{map}
use Rattle.field_grammar.specs.Grammar.{times, read}
use Rattle.field_grammar.proofs.LoopLemmas.{with_prefix}
use Rattle.load_header.specs.Header.{hardware_at, hardware_at_view}
use Rattle.load_header.proofs.reading.read_so_many_positions.Given as goal

abbrev pub invariant-loop : goal.invariant-loop
invariant-loop l = with_prefix (map hardware_at_view l.positions.items) (read (times (l.count - l.counter) hardware_at) l.reader) ≡ read (times l.count hardware_at) l.fn.reader
