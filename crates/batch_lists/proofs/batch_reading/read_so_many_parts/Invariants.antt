use Rattle.std.proofs.Common.{◌≡◌, ◌-◌}
use Rattle.field_grammar.specs.Grammar.{times, read}
use Rattle.field_grammar.proofs.LoopLemmas.{with_prefix}
use Rattle.batch_lists.specs.Batch.{one_part}
use Rattle.batch_lists.proofs.batch_reading.read_so_many_parts.Given as goal

abbrev pub invariant-loop : goal.invariant-loop
invariant-loop l = with_prefix l.parts.items (read (times (l.count - l.counter) one_part) l.reader) ≡ read (times l.count one_part) l.fn.reader
