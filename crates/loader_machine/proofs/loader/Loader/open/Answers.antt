use Rattle.std.proofs.Common.{None}
use Rattle.session_rules.specs.declared.outcome.Outcome.TheVariants.{Open}
use Rattle.loader_machine.proofs.Sessions.{stands_last}
use Rattle.loader_machine.proofs.loader.Loader.open.Goals as goal

pub invariant_of-self-2 : goal.invariant_of-self-2
invariant_of-self-2 c = stands_last c.self.inside.sessions.items c.push.new.self.items (record { kind = c.args.start.kind; outcome = Open; listed = None }) c.in_ok-push.ensures.ok
