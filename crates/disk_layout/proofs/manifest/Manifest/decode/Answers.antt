use Rattle.std.proofs.Common.{arith}
use Rattle.disk_layout.proofs.ManifestReads.{is_spelled, is_fitting, is_refused}
use Rattle.disk_layout.proofs.manifest.Manifest.decode.Goals as goal

pub returns-clause-found : goal.returns-clause-found
returns-clause-found c = is_spelled c.args.bytes.now c.read_manifest.result (λ i. omega (arith, c.type_inv.bytes i)) c.read_manifest.ensures

pub returns-clause-fits : goal.returns-clause-fits
returns-clause-fits c = is_fitting c.args.bytes.now c.read_manifest.result (λ i. omega (arith, c.type_inv.bytes i)) c.read_manifest.ensures

pub returns-clause-refused : goal.returns-clause-refused
returns-clause-refused c = is_refused c.args.bytes.now c.read_manifest.result (λ i. omega (arith, c.type_inv.bytes i)) c.read_manifest.ensures
