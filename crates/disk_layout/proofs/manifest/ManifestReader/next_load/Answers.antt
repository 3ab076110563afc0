use Rattle.std.proofs.Common.{◌-◌, arith}
use Rattle.std.proofs.lemmas.Result.{err_from_is_err_and}
use Rattle.disk_layout.specs.Manifest.{entry_view}
use Rattle.disk_layout.proofs.LoadReads.{first_is, load_refused}
use Rattle.disk_layout.proofs.manifest.ManifestReader.next_load.Goals as goal

pub returns-in_err-load-clause-refused : goal.returns-in_err-load-clause-refused
returns-in_err-load-clause-refused c =
    let p = err_from_is_err_and c.from_residual.result c.from_residual.ensures.1 in
    rw (p.1, p.2) (load_refused c.args.self.now.layout c.args.self.now.left (c.args.self.now.left - 1) c.args.self.now.reader _ (omega (arith, c.requires)) c.in_err-load.ensures)

pub returns-clause-first : goal.returns-clause-first
returns-clause-first c =
    first_is c.args.self.now.layout c.args.self.now.left (c.args.self.now.left - 1) c.args.self.now.reader c.read_load.new.reader (entry_view c.in_ok-load.load) (omega (arith, c.requires)) c.in_ok-load.ensures
