use Rattle.std.proofs.Common.{◌≡◌, ◌-◌}
use Rattle.std.specs.Prelude.{map}
use Rattle.field_grammar.specs.Grammar.{times, read}
use Rattle.field_grammar.proofs.LoopLemmas.{with_prefix}
use Rattle.batch_lists.specs.Batch.{batch_target, batch_target_view}
use Rattle.batch_lists.proofs.batch_reading.read_so_many_targets.Given as goal

abbrev pub invariant-loop : goal.invariant-loop
invariant-loop l = with_prefix (map batch_target_view l.targets.items) (read (times (l.count - l.counter) batch_target) l.reader) ≡ read (times l.count batch_target) l.fn.reader
