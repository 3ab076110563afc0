use Rattle.std.proofs.Common.{◌≡◌, ◌-◌}
use Rattle.field_grammar.specs.Grammar.{times, read}
use Rattle.field_grammar.proofs.LoopLemmas.{with_prefix}
use Rattle.load_protocol_files.specs.Lur.{wanted}
use Rattle.load_protocol_files.proofs.lur.loads_of.Given as goal

abbrev pub invariant-loop : goal.invariant-loop
invariant-loop l = with_prefix l.loads.items (read (times (l.count - l.counter) wanted) l.reader) ≡ read (times l.count wanted) l.fn.reader
