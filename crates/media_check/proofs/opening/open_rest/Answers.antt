use Rattle.std.proofs.Common.{List, ℕ, Ok, Err, subst}
use Rattle.std.specs.Option.{ForSome}
use Rattle.std.proofs.lemmas.Result.{err_from_is_err_and}
use Rattle.batch_lists.specs.Batches.{batches_list_view}
use Rattle.media_lists.specs.Files.{files_list_view}
use Rattle.media_lists.specs.Loads.{loads_list_view}
use Rattle.media_check.specs.Sets.{MemberView, found_view, further_members}
use Rattle.media_check.proofs.HostReads.{AreLists, ReadsMembers}
use Rattle.media_check.proofs.Opened.{rest_read, lists_unread, files_unread}
use Rattle.media_check.proofs.opening.open_rest.Goals as goal

pub returns-in_err-further-clause-opens : goal.returns-in_err-further-clause-opens
returns-in_err-further-clause-opens g c =
    let p = err_from_is_err_and c.from_residual.result c.from_residual.ensures.1 in
    let first : MemberView = record { loads = found_view loads_list_view c.args.loads; files = found_view files_list_view c.args.files; batches = found_view batches_list_view c.args.batches } in
    let fault = c.in_err-further.field-0.0 in
    let o = g.H.Host.files c.args.host.now in
    let folder = c.args.folder.now in
    rw (p.1, p.2)
    (lists_unread o folder first (AreLists folder (further_members first.loads)) fault
    (subst (λ (members : List ℕ). ForSome o (ReadsMembers folder members (Err fault))) c.count_further.ensures.members c.in_err-further.ensures.reads))

pub returns-in_err-kept-clause-opens : goal.returns-in_err-kept-clause-opens
returns-in_err-kept-clause-opens g c =
    let p = err_from_is_err_and c.from_residual-in_err-kept.result c.from_residual-in_err-kept.ensures.1 in
    let first : MemberView = record { loads = found_view loads_list_view c.args.loads; files = found_view files_list_view c.args.files; batches = found_view batches_list_view c.args.batches } in
    let o = g.H.Host.files c.args.host.now in
    let folder = c.args.folder.now in
    rw (p.1, p.2)
    (files_unread o c.read_bodies.result (λ kept. kept.entries) folder first c.in_ok-further.further c.in_err-kept.field-0.0
    (subst (λ (members : List ℕ). ForSome o (ReadsMembers folder members (Ok c.in_ok-further.further))) c.count_further.ensures.members c.in_ok-further.ensures.reads)
    (rw c.in_ok-further.ensures.kept at c.in_err-kept.ensures.keeps))

pub returns-clause-opens : goal.returns-clause-opens
returns-clause-opens g c =
    let first : MemberView = record { loads = found_view loads_list_view c.args.loads; files = found_view files_list_view c.args.files; batches = found_view batches_list_view c.args.batches } in
    let o = g.H.Host.files c.args.host.now in
    let folder = c.args.folder.now in
    rest_read o c.in_ok-kept.kept (λ kept. kept.entries) folder first c.in_ok-further.further
    (subst (λ (members : List ℕ). ForSome o (ReadsMembers folder members (Ok c.in_ok-further.further))) c.count_further.ensures.members c.in_ok-further.ensures.reads)
    (rw c.in_ok-further.ensures.kept at c.in_ok-kept.ensures.keeps)
