use Rattle.std.proofs.Common.{◌≡◌, map}
use Rattle.std.specs.List.{range_with_len}
use Rattle.batch_lists.specs.Batches.{batches_list_view}
use Rattle.media_build.specs.Building.{batches_bytes, of_member}
use Rattle.media_build.proofs.lists.each_batches_list.Given as goal

-- the lists so far, of which each differs in its member alone
abbrev pub invariant-loop-index : goal.invariant-loop-index
invariant-loop-index l = record {
  same : of_member (batches_list_view l.list) 1 ≡ of_member (batches_list_view l.fn.list) 1;
  items : map (λ bytes. bytes.items) l.all.items ≡ map (λ member. batches_bytes (of_member (batches_list_view l.fn.list) member)) (range_with_len 1 l.index);
}
