use Rattle.std.proofs.Common.{ℕ, ◌+◌, ap, sym, subst, ◌∙◌, arith}
use Rattle.media_lists.specs.Files.{FilesListView, IsFilesList, files_list_view}
use Rattle.media_build.specs.Building.{files_bytes, of_member}
use Rattle.media_build.proofs.MemberLists.{lists_more}
use Rattle.media_build.proofs.lists.files_lists.Goals as goal

pub encode-requires : goal.encode-requires
encode-requires c =
    let member = 1 + c.loop-index.index in
    let same = ap (λ (list : FilesListView). of_member list member) c.loop-index.invariant.same in
    subst IsFilesList (sym same) (c.requires member (omega arith) (omega arith))

pub loop-index-preserved : goal.loop-index-preserved
loop-index-preserved c =
    let same = ap (λ (list : FilesListView). of_member list (1 + c.loop-index.index)) c.loop-index.invariant.same in
    record {
      same = c.loop-index.invariant.same;
      items = lists_more (λ (m : ℕ). files_bytes (of_member (files_list_view c.args.list) m)) c.loop-index.all.items c.push.new.self.items c.in_ok-encode.field-0 c.loop-index.index c.loop-index.invariant.items
          (c.in_ok-encode.ensures.1 ∙ ap (λ (list : FilesListView). files_bytes list) same) c.in_ok-push.ensures.ok;
    }
