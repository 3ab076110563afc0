use Rattle.std.proofs.Common.{refl}
use Rattle.loader_cli.specs.Runs.ShowsBytes.{faulty}
use Rattle.loader_cli.proofs.show.show_bytes.Goals as goal

pub returns-in-Fault : goal.returns-in-Fault
returns-in-Fault c = faulty c.in-Fault.fault (rw c.in-Fault.is at c.in_ok-text.ensures) refl refl
