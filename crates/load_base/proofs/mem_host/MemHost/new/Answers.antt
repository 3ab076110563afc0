use Rattle.load_base.proofs.WrittenFiles.{no_files_yet}
use Rattle.load_base.proofs.mem_host.MemHost.new.Goals as goal

pub returns-clause-files : goal.returns-clause-files
returns-clause-files c = rw c.new.ensures no_files_yet
