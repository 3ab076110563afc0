use Rattle.std.proofs.Common.{IfOk, [], sym, subst}
use Rattle.tftp_link.specs.Answers.{news_view}
use Rattle.transfer_end.specs.Calls.{posted}
use Rattle.session_rules.specs.Loader.{turn_decision}
use Rattle.loader_machine.specs.Machine.{LoaderDoes, following, turn_seen}
use Rattle.loader_machine.proofs.Following.{ends_with_last}
use Rattle.loader_machine.proofs.loader.Loader.follow.Goals as goal

pub returns-in_ok-turn-in-Last-clause-session : goal.returns-in_ok-turn-in-Last-clause-session
returns-in_ok-turn-in-Last-clause-session c = λ x live.
    subst (λ news. IfOk c.turn.result (λ post. LoaderDoes (following c.args.self.now.view.end x (news_view news)) c.args.self.now c.turn.new.self (posted post))) (sym c.in-Last.is)
    (ends_with_last c.args.self.now c.add_payload-in-Last.new.self c.turn.new.self x c.in-Last.payload.now (turn_seen c.in_ok-turn-in-Last.turn) c.turn.result live
    c.in_ok-add_payload-in-Last.ensures c.in_ok-turn-in-Last.ensures.is c.turn.ensures.session)

pub returns-in-PeerError-clause-session : goal.returns-in-PeerError-clause-session
returns-in-PeerError-clause-session c = λ x live.
    subst (λ news. IfOk c.turn-in-PeerError.result (λ post. LoaderDoes (following c.args.self.now.view.end x (news_view news)) c.args.self.now c.turn-in-PeerError.new.self (posted post))) (sym c.in-PeerError.is)
    (subst (λ turn. IfOk c.turn-in-PeerError.result (λ post. LoaderDoes (turn_decision c.args.self.now.view.end x [] [] turn) c.args.self.now c.turn-in-PeerError.new.self (posted post))) c.end.ensures.is
    (c.turn-in-PeerError.ensures.session x live))
