use Rattle.std.proofs.Common.{◌≡◌, refl, ap, sym, subst, ◌∙◌, arith}
use Rattle.std.specs.Prelude.{map}
use Rattle.std.specs.List.{range_with_len}
use Rattle.batch_lists.specs.Batches.{BatchesListView, IsBatchesList, batches_list_view}
use Rattle.media_lists.specs.Files.{FilesListView, IsFilesList, files_list_view}
use Rattle.media_lists.specs.Loads.{loads_list_view}
use Rattle.media_build.specs.Building.{batches_beside, files_beside, files_bytes, of_member}
use Rattle.media_build.specs.RecipeSets.{batches_of}
use Rattle.media_build.proofs.BuildAnswers.{lists_beside}
use Rattle.media_build.proofs.building.with_lists.Goals as goal

pub files_lists-requires : goal.files_lists-requires
files_lists-requires c =
    let is : files_list_view c.in_ok-files.files ≡ files_beside (loads_list_view c.args.loads) c.args.bodies.items 1 = rw c.as_slice.ensures at c.in_ok-files.ensures in
    let members = ap (λ (list : FilesListView). list.members) is in
    λ member first last. subst IsFilesList (sym (ap (λ (list : FilesListView). of_member list member) is)) (c.requires.files member first (omega (arith, last, members)))

pub batches_lists-requires : goal.batches_lists-requires
batches_lists-requires c =
    let is : batches_list_view c.in_ok-batches.batches ≡ batches_beside (loads_list_view c.args.loads) (batches_of c.args.lines.now) 1 = c.in_ok-batches.ensures in
    let members = ap (λ (list : BatchesListView). list.members) is in
    λ member first last. subst IsBatchesList (sym (ap (λ (list : BatchesListView). of_member list member) is)) (c.requires.batches member first (omega (arith, last, members)))

pub returns : goal.returns
returns c =
    let files : files_list_view c.in_ok-files.files ≡ files_beside (loads_list_view c.args.loads) c.args.bodies.items 1 = rw c.as_slice.ensures at c.in_ok-files.ensures in
    record {
      loads_are = c.in_ok-loads_lists.ensures;
      files_are = c.in_ok-files_lists.ensures ∙ ap (λ (list : FilesListView). map (λ member. files_bytes (of_member list member)) (range_with_len 1 list.members)) files;
      batches_are = lists_beside (loads_list_view c.args.loads) (batches_of c.args.lines.now) (batches_list_view c.in_ok-batches.batches) _ c.in_ok-batches.ensures c.in_ok-batches_lists.ensures;
      bodies_are = refl;
    }
