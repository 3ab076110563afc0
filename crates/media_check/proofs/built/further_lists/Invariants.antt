use Rattle.std.proofs.Common.{◌≡◌, length, map}
use Rattle.std.specs.List.{range_with_len}
use Rattle.media_check.specs.BuiltSets.{built_lists}
use Rattle.media_check.specs.Sets.{lists_view}
use Rattle.media_check.proofs.built.further_lists.Given as goal

abbrev pub invariant-loop-index : goal.invariant-loop-index
invariant-loop-index l = record {
  few : length l.further.items ≡ l.index;
  read : map lists_view l.further.items ≡ map (built_lists l.loads l.files l.batches) (range_with_len 2 l.index);
}
