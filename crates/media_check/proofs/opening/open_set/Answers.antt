use Rattle.std.proofs.Common.{[], ◌∷◌, refl}
use Rattle.std.proofs.lemmas.Result.{err_from_is_err_and}
use Rattle.batch_lists.specs.Batches.{batches_list, batches_list_view}
use Rattle.media_lists.specs.Files.{files_list, files_list_view}
use Rattle.media_lists.specs.Loads.{loads_list, loads_list_view}
use Rattle.media_check.specs.HostNames.{batches_name, files_name, loads_name}
use Rattle.media_check.proofs.HostReads.{more_short, none_short}
use Rattle.media_check.proofs.Opened.{whole_read, list_unread_in_whole}
use Rattle.media_check.proofs.opening.open_set.Goals as goal

pub returns-in_err-loads-clause-opens : goal.returns-in_err-loads-clause-opens
returns-in_err-loads-clause-opens g c =
    let p = err_from_is_err_and c.from_residual.result c.from_residual.ensures.1 in
    let o = g.H.Host.files c.args.host.now in
    let folder = c.args.folder.now in
    rw (p.1, p.2)
    (list_unread_in_whole o folder [] (files_name folder 1 ∷ batches_name folder 1 ∷ []) (loads_name folder 1) loads_list_view loads_list c.in_err-loads.field-0.0 refl (none_short o) c.in_err-loads.ensures.reads)

pub returns-in_err-files-clause-opens : goal.returns-in_err-files-clause-opens
returns-in_err-files-clause-opens g c =
    let p = err_from_is_err_and c.from_residual-in_err-files.result c.from_residual-in_err-files.ensures.1 in
    let o = g.H.Host.files c.args.host.now in
    let folder = c.args.folder.now in
    let first = more_short o [] (loads_name folder 1) loads_list_view loads_list c.in_ok-loads.loads (none_short o) c.in_ok-loads.ensures.reads in
    rw (p.1, p.2)
    (list_unread_in_whole o folder (loads_name folder 1 ∷ []) (batches_name folder 1 ∷ []) (files_name folder 1) files_list_view files_list c.in_err-files.field-0.0 refl first
    (rw c.in_ok-loads.ensures.kept at c.in_err-files.ensures.reads))

pub returns-in_err-batches-clause-opens : goal.returns-in_err-batches-clause-opens
returns-in_err-batches-clause-opens g c =
    let p = err_from_is_err_and c.from_residual-in_err-batches.result c.from_residual-in_err-batches.ensures.1 in
    let o = g.H.Host.files c.args.host.now in
    let folder = c.args.folder.now in
    let first = more_short o [] (loads_name folder 1) loads_list_view loads_list c.in_ok-loads.loads (none_short o) c.in_ok-loads.ensures.reads in
    let second = more_short o (loads_name folder 1 ∷ []) (files_name folder 1) files_list_view files_list c.in_ok-files.files first (rw c.in_ok-loads.ensures.kept at c.in_ok-files.ensures.reads) in
    rw (p.1, p.2)
    (list_unread_in_whole o folder (loads_name folder 1 ∷ files_name folder 1 ∷ []) [] (batches_name folder 1) batches_list_view batches_list c.in_err-batches.field-0.0 refl second
    (rw (c.in_ok-files.ensures.kept, c.in_ok-loads.ensures.kept) at c.in_err-batches.ensures.reads))

pub returns-clause-opens : goal.returns-clause-opens
returns-clause-opens g c =
    whole_read (g.H.Host.files c.args.host.now) c.args.folder.now c.in_ok-loads.loads c.in_ok-files.files c.in_ok-batches.batches c.open_rest.result c.in_ok-loads.ensures.reads
    (rw c.in_ok-loads.ensures.kept at c.in_ok-files.ensures.reads) (rw (c.in_ok-files.ensures.kept, c.in_ok-loads.ensures.kept) at c.in_ok-batches.ensures.reads)
    (rw (c.in_ok-batches.ensures.kept, c.in_ok-files.ensures.kept, c.in_ok-loads.ensures.kept) at c.open_rest.ensures.opens)
