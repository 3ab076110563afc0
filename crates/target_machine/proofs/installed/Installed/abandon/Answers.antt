use Rattle.target_machine.proofs.Turning.{still_active}
use Rattle.target_machine.proofs.installed.Installed.abandon.Goals as goal

pub returns-clause-active : goal.returns-clause-active
returns-clause-active c = still_active c.args.self.now c.self.inside.identity c.self.inside.manifest c.self.inside.store c.abandon.new.self c.self.view_is c.abandon.ensures.continues.active
