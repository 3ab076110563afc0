use Rattle.std.proofs.Common.{◌∙◌, ap}
use Rattle.session_rules.specs.Loader.{LoaderSession}
use Rattle.session_rules.specs.LoaderRows.{row_after}
use Rattle.loader_machine.specs.Machine.{row_seen}
use Rattle.loader_machine.proofs.Following.{port_so}
use Rattle.loader_machine.proofs.loader.Loader.enter_next.Goals as goal

pub request-requires : goal.request-requires
request-requires c = λ asks.
    port_so _ c.args.self.now c.in-Some.session (row_seen c.next-row.result) c.self.view_is c.in-Some.is (c.next-row.ensures ∙ ap (λ (s : LoaderSession). row_after s.row) c.session.view_is) c.requires asks
