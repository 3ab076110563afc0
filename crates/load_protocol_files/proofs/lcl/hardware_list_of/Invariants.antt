use Rattle.std.proofs.Common.{◌≡◌, ◌-◌}
use Rattle.std.specs.Prelude.{map}
use Rattle.field_grammar.specs.Grammar.{times, read}
use Rattle.field_grammar.proofs.LoopLemmas.{with_prefix}
use Rattle.load_protocol_files.specs.Lcl.{hardware, hardware_view}
use Rattle.load_protocol_files.proofs.lcl.hardware_list_of.Given as goal

abbrev pub invariant-loop : goal.invariant-loop
invariant-loop l = with_prefix (map hardware_view l.list.items) (read (times (l.count - l.counter) hardware) l.reader) ≡ read (times l.count hardware) l.fn.reader
