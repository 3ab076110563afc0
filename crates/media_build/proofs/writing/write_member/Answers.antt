use Rattle.std.proofs.lemmas.Result.{err_from_is_err_and}
use Rattle.media_build.specs.HostWrites.{written_member}
use Rattle.media_build.proofs.HostFiles.{writes_then, writes_stop}
use Rattle.media_build.proofs.writing.write_member.Goals as goal

pub returns-in_err-write_list-clause-files : goal.returns-in_err-write_list-clause-files
unfolding written_member
returns-in_err-write_list-clause-files g c =
    let p = err_from_is_err_and c.from_residual.result c.from_residual.ensures.1 in
    let loads = rw (c.list_of-loads.ensures, c.as_slice.ensures) at c.in_err-write_list.ensures.files in
    rw (p.1, p.2) (writes_stop _ _ _ _ _ loads)

pub returns-in_err-write_list-2-clause-files : goal.returns-in_err-write_list-2-clause-files
unfolding written_member
returns-in_err-write_list-2-clause-files g c =
    let p = err_from_is_err_and c.from_residual-in_err-write_list-2.result c.from_residual-in_err-write_list-2.ensures.1 in
    let loads = rw (c.list_of-loads.ensures, c.as_slice.ensures) at c.in_ok-write_list.ensures.files in
    let files = rw (c.list_of-files.ensures, c.as_slice-2.ensures) at c.in_err-write_list-2.ensures.files in
    rw (p.1, p.2) (writes_then _ _ _ _ _ _ _ loads (writes_stop _ _ _ _ _ files))

pub returns-in_err-write_list-3-clause-files : goal.returns-in_err-write_list-3-clause-files
unfolding written_member
returns-in_err-write_list-3-clause-files g c =
    let p = err_from_is_err_and c.from_residual-in_err-write_list-3.result c.from_residual-in_err-write_list-3.ensures.1 in
    let loads = rw (c.list_of-loads.ensures, c.as_slice.ensures) at c.in_ok-write_list.ensures.files in
    let files = rw (c.list_of-files.ensures, c.as_slice-2.ensures) at c.in_ok-write_list-2.ensures.files in
    let batches = rw (c.list_of-batches.ensures, c.as_slice-3.ensures) at c.in_err-write_list-3.ensures.files in
    rw (p.1, p.2) (writes_then _ _ _ _ _ _ _ loads (writes_then _ _ _ _ _ _ _ files (writes_stop _ _ _ _ _ batches)))

pub returns-clause-files : goal.returns-clause-files
unfolding written_member
returns-clause-files g c =
    let loads = rw (c.list_of-loads.ensures, c.as_slice.ensures) at c.in_ok-write_list.ensures.files in
    let files = rw (c.list_of-files.ensures, c.as_slice-2.ensures) at c.in_ok-write_list-2.ensures.files in
    let batches = rw (c.list_of-batches.ensures, c.as_slice-3.ensures) at c.in_ok-write_list-3.ensures.files in
    let bodies = rw c.as_slice-4.ensures at c.write_bodies.ensures.files in
    writes_then _ _ _ _ _ _ _ loads (writes_then _ _ _ _ _ _ _ files (writes_then _ _ _ _ _ _ _ batches bodies))
