use Rattle.std.proofs.Common.{◌≡◌, ◌++◌, take}
use Rattle.std.specs.List.{concat, flat_map}
use Rattle.field_grammar.specs.Fields.{padded_fields}
use Rattle.header_sections.proofs.writing.put_each_text.Given as goal

abbrev pub invariant-loop-text : goal.invariant-loop-text
invariant-loop-text l = l.out ≡ l.fn.out ++ concat (flat_map padded_fields (take l.text-index l.texts))
