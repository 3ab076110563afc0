use Rattle.batch_lists.specs.Batches.{batches_list_view}
use Rattle.media_check.specs.Kept.{entries_of, files_view, found_view}
use Rattle.media_check.proofs.set.MediaSet.batch.Goals as goal

pub returns : goal.returns
returns c =
    let set = c.args.self.now in
    c.find.ensures (files_view set.files.entries) (entries_of (found_view batches_list_view set.first.batches)) set.kept set.known
