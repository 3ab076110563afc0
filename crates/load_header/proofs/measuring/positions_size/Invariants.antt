use Rattle.std.proofs.Common.{◌≡◌, ◌+◌, ◌*◌, ◌≤◌, take}
use Rattle.std.specs.List.{flat_map, AllByRecursion}
use Rattle.field_grammar.specs.Spelling.{spelled_length}
use Rattle.load_header.specs.Encoding.{kind_fields, IsKind}
use Rattle.load_header.proofs.measuring.positions_size.Given as goal

abbrev pub invariant-loop-at : goal.invariant-loop-at
invariant-loop-at l = record {
  so_far : l.size ≡ 2 + spelled_length (flat_map kind_fields (take l.at-index l.list));
  small : l.size ≤ 2 + 17000000 * l.at-index;
  all : AllByRecursion IsKind (take l.at-index l.list);
}
