use Rattle.std.proofs.Common.{Some, None, ap, sym, append-nil}
use Rattle.media_lists.specs.Loads.{load_entry_view}
use Rattle.media_check.specs.Kept.{bytes_view}
use Rattle.media_check.specs.Sets.{set_view, file_view}
use Rattle.media_check.proofs.LoadFindings.{load_unlisted, load_absent, load_listed}
use Rattle.media_check.proofs.Lookups.{found_as_seen}
use Rattle.media_check.proofs.loads.put_load.Goals as goal

pub returns-in-None : goal.returns-in-None
returns-in-None c =
    let found = sym (found_as_seen c.args.set.now.files.entries c.args.load.now.header_name None c.in-None.ensures.value) in
    rw (load_unlisted (set_view c.args.set.now) (load_entry_view c.args.load.now) found) c.put.ensures

pub returns-in-Some-bytes : goal.returns-in-Some-bytes
returns-in-Some-bytes c =
    let file = c.in-Some.file.now in
    let found = sym (found_as_seen c.args.set.now.files.entries c.args.load.now.header_name (Some file) c.in-Some.ensures.value) in
    rw (load_listed (set_view c.args.set.now) (load_entry_view c.args.load.now) (file_view file) _ found (ap bytes_view c.in-Some-bytes.is)) (rw c.as_slice.ensures at c.put_read.ensures)

pub returns-in-None-bytes : goal.returns-in-None-bytes
returns-in-None-bytes c =
    let file = c.in-Some.file.now in
    let found = sym (found_as_seen c.args.set.now.files.entries c.args.load.now.header_name (Some file) c.in-Some.ensures.value) in
    rw (load_absent (set_view c.args.set.now) (load_entry_view c.args.load.now) (file_view file) found (ap bytes_view c.in-None-bytes.is)) (sym (append-nil c.args.out.now.items))
