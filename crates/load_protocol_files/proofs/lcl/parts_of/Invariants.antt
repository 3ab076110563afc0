use Rattle.std.proofs.Common.{◌≡◌, ◌-◌}
use Rattle.field_grammar.specs.Grammar.{times, read}
use Rattle.field_grammar.proofs.LoopLemmas.{with_prefix}
use Rattle.load_protocol_files.specs.Lcl.{installed}
use Rattle.load_protocol_files.proofs.lcl.parts_of.Given as goal

abbrev pub invariant-loop : goal.invariant-loop
invariant-loop l = with_prefix l.parts.items (read (times (l.count - l.counter) installed) l.reader) ≡ read (times l.count installed) l.fn.reader
