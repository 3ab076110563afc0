use Rattle.std.proofs.Common.{◌≡◌, [], sym, subst, option_map}
use Rattle.load_protocol_files.specs.Lcl.{lcl_view}
use Rattle.session_rules.specs.Loader.{turn_decision}
use Rattle.loader_machine.specs.Machine.{LoaderDoes, listed_at, listed_in, turn_seen}
use Rattle.loader_machine.proofs.Following.{comes_to}
use Rattle.loader_machine.proofs.loader.Loader.turn.Goals as goal

pub returns-in_ok-close-in-ComesTo-clause-session : goal.returns-in_ok-close-in-ComesTo-clause-session
returns-in_ok-close-in-ComesTo-clause-session c = λ x live.
    subst (λ turn. LoaderDoes (turn_decision c.args.self.now.view.end x [] [] (turn_seen turn)) c.args.self.now c.close.new.self []) (sym c.in-ComesTo.is)
    (comes_to c.args.self.now c.close.new.self x c.in-ComesTo.outcome (option_map lcl_view c.in-ComesTo.listed) c.stop.new.self live
    (subst (λ turn. listed_in turn ≡ listed_at x.start.kind (turn_seen turn) x.arriving.prefix) c.in-ComesTo.is (c.requires x live)) c.stop.ensures c.in_ok-close-in-ComesTo.ensures)
