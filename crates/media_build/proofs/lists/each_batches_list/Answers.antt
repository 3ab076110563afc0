use Rattle.std.proofs.Common.{ℕ, ◌+◌, ap, sym, subst, ◌∙◌, arith}
use Rattle.batch_lists.specs.Batches.{BatchesListView, IsBatchesList, batches_list_view}
use Rattle.media_build.specs.Building.{batches_bytes, of_member}
use Rattle.media_build.proofs.MemberLists.{lists_more}
use Rattle.media_build.proofs.lists.each_batches_list.Goals as goal

pub encode-requires : goal.encode-requires
encode-requires c =
    let member = 1 + c.loop-index.index in
    let same = ap (λ (list : BatchesListView). of_member list member) c.loop-index.invariant.same in
    subst IsBatchesList (sym same) (c.requires member (omega arith) (omega arith))

pub loop-index-preserved : goal.loop-index-preserved
loop-index-preserved c =
    let same = ap (λ (list : BatchesListView). of_member list (1 + c.loop-index.index)) c.loop-index.invariant.same in
    record {
      same = c.loop-index.invariant.same;
      items = lists_more (λ (m : ℕ). batches_bytes (of_member (batches_list_view c.args.list) m)) c.loop-index.all.items c.push.new.self.items c.in_ok-encode.field-0 c.loop-index.index c.loop-index.invariant.items
          (c.in_ok-encode.ensures.1 ∙ ap (λ (list : BatchesListView). batches_bytes list) same) c.in_ok-push.ensures.ok;
    }
