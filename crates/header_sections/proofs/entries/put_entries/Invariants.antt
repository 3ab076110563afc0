use Rattle.std.proofs.Common.{◌≡◌, ◌++◌, length}
use Rattle.field_grammar.specs.Fields.{number_bytes}
use Rattle.header_sections.proofs.WrittenLemmas.{entries_to}
use Rattle.header_sections.proofs.entries.put_entries.Given as goal

abbrev pub invariant-loop-index : goal.invariant-loop-index
invariant-loop-index g l = l.out ≡ (l.fn.out ++ number_bytes 2 (length l.entries)) ++ entries_to g.E.Entry.body_fields l.entries l.index
