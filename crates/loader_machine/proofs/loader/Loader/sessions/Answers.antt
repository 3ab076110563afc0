use Rattle.std.proofs.Common.{ap, ◌∙◌}
use Rattle.loader_machine.specs.Machine.{LoaderState, all_sessions}
use Rattle.loader_machine.proofs.Sessions.{all_of}
use Rattle.loader_machine.proofs.loader.Loader.sessions.Goals as goal

pub returns : goal.returns
returns c = all_of c.self.inside.live c.self.inside.sessions.items c.self.invariant ∙ ap (λ (st : LoaderState). all_sessions st.view) c.self.view_is
