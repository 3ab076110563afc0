use Rattle.std.proofs.Common.{◌≡◌, arith}
use Rattle.std.proofs.lemmas.Result.{err_from_is_err_and}
use Rattle.media_check.specs.HostNames.{listed_name}
use Rattle.media_check.proofs.KeptFiles.{next_unread, short_more}
use Rattle.media_check.proofs.opening.keep_next.Goals as goal

pub returns-in_err-bytes-clause-keeps : goal.returns-in_err-bytes-clause-keeps
returns-in_err-bytes-clause-keeps g c =
    let p = err_from_is_err_and c.from_residual-in_err-bytes.result c.from_residual-in_err-bytes.ensures.1 in
    let name : c.in_ok-name.name.items ≡ listed_name c.args.folder.now c.args.entry.now = rw (c.as_slice.ensures.bytes, c.as_slice-2.ensures.bytes) at c.in_ok-name.ensures in
    rw (p.1, p.2)
    (next_unread (g.H.Host.files c.args.host.now) c.args.folder.now c.args.entry.now c.in_ok-name.name.items c.args.total c.args.kept.now.entries c.args.kept.now.entries c.in_err-bytes.field-0.0 name
    c.in_err-bytes.ensures.reads)

pub returns-clause-in_range : goal.returns-clause-in_range
returns-clause-in_range g c = record {
  short = short_more c.args.kept.now.entries c.keep.new.kept.entries c.args.entry.now.name _ c.in_ok-keep.ensures c.requires.in_range.short c.in_ok-bytes.ensures.short;
  together = omega arith;
}
