use Rattle.std.proofs.Common.{◌≡◌, ◌-◌}
use Rattle.field_grammar.specs.Grammar.{times, read}
use Rattle.field_grammar.proofs.LoopLemmas.{with_prefix}
use Rattle.load_protocol_files.specs.Lus.{load_status}
use Rattle.load_protocol_files.proofs.lus.loads_of.Given as goal

abbrev pub invariant-loop : goal.invariant-loop
invariant-loop l = with_prefix l.loads.items (read (times (l.count - l.counter) load_status) l.reader) ≡ read (times l.count load_status) l.fn.reader
