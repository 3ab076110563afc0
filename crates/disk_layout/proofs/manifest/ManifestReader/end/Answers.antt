use Rattle.disk_layout.proofs.LoadReads.{end_is, end_refused}
use Rattle.disk_layout.proofs.manifest.ManifestReader.end.Goals as goal

pub returns-clause-ended : goal.returns-clause-ended
returns-clause-ended c = end_is c.args.self.now.layout c.args.self.now.left c.args.self.now.reader c.read_end.new.reader c.read_end.result c.requires c.read_end.ensures.reads

pub returns-clause-refused : goal.returns-clause-refused
returns-clause-refused c = end_refused c.args.self.now.layout c.args.self.now.left c.args.self.now.reader c.read_end.new.reader c.read_end.result c.requires c.read_end.ensures.reads c.read_end.ensures.no_want
