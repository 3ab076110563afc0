use Rattle.std.proofs.Common.{Err, ap}
use Rattle.std.proofs.lemmas.Result.{err_from_is_err_and}
use Rattle.disk_layout.specs.declared.manifest.ManifestFault.{ManifestFault}
use Rattle.disk_layout.specs.Manifest.{in_layout}
use Rattle.disk_layout.proofs.LoadReads.{begun, begin_refused}
use Rattle.disk_layout.proofs.manifest.ManifestReader.new.Goals as goal

pub returns-in_err-head-clause-refused : goal.returns-in_err-head-clause-refused
returns-in_err-head-clause-refused c =
    let p = err_from_is_err_and c.from_residual.result c.from_residual.ensures.1 in
    rw (p.1, p.2) (begin_refused c.args.bytes.now c.new-reader.result c.in_err-head.field-0.0 c.new-reader.ensures (λ wants. c.in_err-head.ensures.no_want (ap (λ (f : ManifestFault). Err f) wants)) c.in_err-head.ensures.reads)

pub returns-clause-begun : goal.returns-clause-begun
returns-clause-begun c = begun c.args.bytes.now (in_layout c.in_ok-head.head.layout c.in_ok-head.head.loads) c.new-reader.result c.read_head.new.reader c.new-reader.ensures c.in_ok-head.ensures.reads
