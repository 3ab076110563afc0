use Rattle.std.proofs.Common.{◌≡◌, ◌++◌, take}
use Rattle.std.specs.List.{concat, flat_map}
use Rattle.field_grammar.specs.Fields.{padded_fields}
use Rattle.batch_lists.proofs.batch_writing.put_parts.Given as goal

abbrev pub invariant-loop-part : goal.invariant-loop-part
invariant-loop-part l = l.out ≡ l.fn.out ++ concat (flat_map padded_fields (take l.part-index l.parts))
