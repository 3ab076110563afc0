use Rattle.std.proofs.Common.{◌≡◌, ◌+◌, ◌*◌, ◌≤◌, take}
use Rattle.std.specs.List.{flat_map, AllByRecursion}
use Rattle.load_base.specs.Text.{IsText}
use Rattle.field_grammar.specs.Fields.{padded_fields}
use Rattle.field_grammar.specs.Spelling.{spelled_length}
use Rattle.header_sections.proofs.measuring.texts_size.Given as goal

abbrev pub invariant-loop-text : goal.invariant-loop-text
invariant-loop-text l = record {
  so_far : l.size ≡ 2 + spelled_length (flat_map padded_fields (take l.text-index l.texts));
  small : l.size ≤ 2 + 258 * l.text-index;
  all : AllByRecursion IsText (take l.text-index l.texts);
}
