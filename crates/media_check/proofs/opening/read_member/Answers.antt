use Rattle.std.proofs.Common.{[], ◌∷◌}
use Rattle.std.proofs.lemmas.Result.{err_from_is_err_and}
use Rattle.batch_lists.specs.Batches.{batches_list, batches_list_view}
use Rattle.media_lists.specs.Files.{files_list, files_list_view}
use Rattle.media_lists.specs.Loads.{loads_list, loads_list_view}
use Rattle.media_check.specs.HostNames.{batches_name, files_name, loads_name}
use Rattle.media_check.proofs.HostReads.{AreListsOf, list_unread_after, member_read, more_short, none_short}
use Rattle.media_check.proofs.opening.read_member.Goals as goal

pub returns-in_err-loads-clause-reads : goal.returns-in_err-loads-clause-reads
returns-in_err-loads-clause-reads g c =
    let p = err_from_is_err_and c.from_residual.result c.from_residual.ensures.1 in
    let o = g.H.Host.files c.args.host.now in
    let folder = c.args.folder.now in
    let member = c.args.member in
    rw (p.1, p.2)
    (list_unread_after o [] (files_name folder member ∷ batches_name folder member ∷ []) (loads_name folder member) loads_list_view loads_list (AreListsOf folder member) c.in_err-loads.field-0.0
    (none_short o) c.in_err-loads.ensures.reads)

pub returns-in_err-files-clause-reads : goal.returns-in_err-files-clause-reads
returns-in_err-files-clause-reads g c =
    let p = err_from_is_err_and c.from_residual-in_err-files.result c.from_residual-in_err-files.ensures.1 in
    let o = g.H.Host.files c.args.host.now in
    let folder = c.args.folder.now in
    let member = c.args.member in
    let first = more_short o [] (loads_name folder member) loads_list_view loads_list c.in_ok-loads.loads (none_short o) c.in_ok-loads.ensures.reads in
    rw (p.1, p.2)
    (list_unread_after o (loads_name folder member ∷ []) (batches_name folder member ∷ []) (files_name folder member) files_list_view files_list (AreListsOf folder member) c.in_err-files.field-0.0 first
    (rw c.in_ok-loads.ensures.kept at c.in_err-files.ensures.reads))

pub returns-in_err-batches-clause-reads : goal.returns-in_err-batches-clause-reads
returns-in_err-batches-clause-reads g c =
    let p = err_from_is_err_and c.from_residual-in_err-batches.result c.from_residual-in_err-batches.ensures.1 in
    let o = g.H.Host.files c.args.host.now in
    let folder = c.args.folder.now in
    let member = c.args.member in
    let first = more_short o [] (loads_name folder member) loads_list_view loads_list c.in_ok-loads.loads (none_short o) c.in_ok-loads.ensures.reads in
    let second = more_short o (loads_name folder member ∷ []) (files_name folder member) files_list_view files_list c.in_ok-files.files first (rw c.in_ok-loads.ensures.kept at c.in_ok-files.ensures.reads) in
    rw (p.1, p.2)
    (list_unread_after o (loads_name folder member ∷ files_name folder member ∷ []) [] (batches_name folder member) batches_list_view batches_list (AreListsOf folder member) c.in_err-batches.field-0.0 second
    (rw (c.in_ok-files.ensures.kept, c.in_ok-loads.ensures.kept) at c.in_err-batches.ensures.reads))

pub returns-clause-reads : goal.returns-clause-reads
returns-clause-reads g c =
    member_read (g.H.Host.files c.args.host.now) c.args.folder.now c.args.member c.in_ok-loads.loads c.in_ok-files.files c.in_ok-batches.batches c.in_ok-loads.ensures.reads
    (rw c.in_ok-loads.ensures.kept at c.in_ok-files.ensures.reads) (rw (c.in_ok-files.ensures.kept, c.in_ok-loads.ensures.kept) at c.in_ok-batches.ensures.reads)
