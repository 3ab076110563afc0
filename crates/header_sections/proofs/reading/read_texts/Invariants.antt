use Rattle.std.proofs.Common.{◌≡◌, ◌-◌}
use Rattle.field_grammar.specs.Grammar.{times, read}
use Rattle.field_grammar.proofs.LoopLemmas.{with_prefix}
use Rattle.header_sections.specs.Sections.{text}
use Rattle.header_sections.proofs.reading.read_texts.Given as goal

abbrev pub invariant-loop : goal.invariant-loop
invariant-loop l = with_prefix l.texts.items (read (times (l.count - l.counter) text) l.reader) ≡ read (times l.count text) l.fn.reader
