use Rattle.std.proofs.Common.{◌≡◌, ◌++◌, take}
use Rattle.std.specs.List.{concat, flat_map}
use Rattle.load_header.specs.Encoding.{kind_fields}
use Rattle.load_header.proofs.writing.put_each_kind.Given as goal

abbrev pub invariant-loop-at : goal.invariant-loop-at
invariant-loop-at l = l.out ≡ l.fn.out ++ concat (flat_map kind_fields (take l.at-index l.list))
