use Rattle.disk_layout.proofs.LoadReads.{counted}
use Rattle.disk_layout.proofs.manifest.ManifestReader.left.Goals as goal

pub returns-clause-counts : goal.returns-clause-counts
returns-clause-counts c = counted c.args.self.now.layout c.args.self.now.left c.args.self.now.reader
