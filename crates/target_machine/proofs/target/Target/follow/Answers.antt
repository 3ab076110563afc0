use Rattle.std.proofs.Common.{IfOk, None, Ok, Option, sym, subst}
use Rattle.exchange_trace.specs.declared.trace.Datagram.{Datagram}
use Rattle.load_intake.specs.declared.down.Down.{Down}
use Rattle.session_rules.specs.Contents.{contents_changed}
use Rattle.target_machine.specs.Disks.{BringsContents, change_heard}
use Rattle.target_machine.proofs.Bringing.{hears_block, hears_done, hears_error, hears_last, hears_nothing, last_fails}
use Rattle.target_machine.proofs.Holding.{answers_so, fails_so}
use Rattle.accept_rules.specs.Interlocks.{FollowsAccepts}
use Rattle.tftp_link.specs.Answers.{news_view}
use Rattle.transfer_end.specs.Calls.{posted}
use Rattle.target_machine.specs.Decisions.{TargetDoes, following}
use Rattle.target_machine.proofs.Following.{ends_with_last}
use Rattle.target_machine.proofs.Turning.{stays_on_ok}
use Rattle.target_machine.proofs.target.Target.follow.Goals as goal

pub returns-in_ok-add_payload-in-Last-clause-session : goal.returns-in_ok-add_payload-in-Last-clause-session
returns-in_ok-add_payload-in-Last-clause-session g c = λ accepts follows x live.
    subst (λ news. IfOk c.turn.result (λ post. TargetDoes (following accepts c.args.self.now.view x (news_view news)) c.args.self.now c.turn.new.self (posted post))) (sym c.in-Last.is)
    (ends_with_last accepts c.args.self.now c.add_payload-in-Last.new.self c.turn.new.self x c.in-Last.payload.now c.turn.result live c.in_ok-add_payload-in-Last.ensures.takes c.in_ok-add_payload-in-Last.ensures.calm
    (λ t e. c.turn.ensures.session accepts (subst (λ rule. FollowsAccepts g.R.Rule.may_say rule accepts) (sym c.in_ok-add_payload-in-Last.ensures.takes.rule) follows) t e))

pub returns-in_ok-add_payload-in-Last-clause-stays_on : goal.returns-in_ok-add_payload-in-Last-clause-stays_on
returns-in_ok-add_payload-in-Last-clause-stays_on g c =
    stays_on_ok c.args.self.now.store c.add_payload-in-Last.new.self.store c.turn.new.self.store (g.K.Disk.state c.args.disk.now) (g.K.Disk.state c.add_payload-in-Last.new.disk) (g.K.Disk.state c.turn.new.disk) c.turn.result c.in_ok-add_payload-in-Last.ensures.stays_on c.turn.ensures.stays_on

pub returns-in-PeerError-clause-session : goal.returns-in-PeerError-clause-session
returns-in-PeerError-clause-session g c = λ accepts follows x live.
    subst (λ news. IfOk c.turn-in-PeerError.result (λ post. TargetDoes (following accepts c.args.self.now.view x (news_view news)) c.args.self.now c.turn-in-PeerError.new.self (posted post))) (sym c.in-PeerError.is)
    (c.turn-in-PeerError.ensures.session accepts follows x live)

pub returns-in-Nothing-clause-brings : goal.returns-in-Nothing-clause-brings
returns-in-Nothing-clause-brings g c = λ accepts follows x kept holds.
    subst (λ news. BringsContents {E = Down} (g.K.Disk.state c.args.disk.now) c.args.self.now.store (g.K.Disk.state c.args.disk.now) x (contents_changed x (change_heard accepts c.args.self.now.view c.args.self.now.view.live (news_view news))) (Ok c.nothing_follows.result)) (sym c.in-Nothing.is)
    (hears_nothing accepts c.args.self.now.store (g.K.Disk.state c.args.disk.now) x c.args.self.now.view _ holds)

pub returns-in_ok-add_payload-in-Block-clause-brings : goal.returns-in_ok-add_payload-in-Block-clause-brings
returns-in_ok-add_payload-in-Block-clause-brings g c = λ accepts follows x kept holds.
    subst (λ news. BringsContents {T = Option Datagram} {E = Down} (g.K.Disk.state c.args.disk.now) c.add_payload.new.self.store (g.K.Disk.state c.add_payload.new.disk) x (contents_changed x (change_heard accepts c.args.self.now.view c.args.self.now.view.live (news_view news))) (Ok None)) (sym c.in-Block.is)
    (hears_block accepts (g.K.Disk.state c.args.disk.now) c.add_payload.new.self.store (g.K.Disk.state c.add_payload.new.disk) x c.args.self.now.view c.in-Block.payload.now (Ok None) kept
    (answers_so (g.K.Disk.state c.args.disk.now) c.add_payload.new.self.store (g.K.Disk.state c.add_payload.new.disk) x.active _ _ _ _ None (c.in_ok-add_payload-in-Block.ensures.brings x kept holds)))

pub returns-in_ok-add_payload-in-Last-clause-brings : goal.returns-in_ok-add_payload-in-Last-clause-brings
returns-in_ok-add_payload-in-Last-clause-brings g c = λ accepts follows x kept holds.
    let takes = c.in_ok-add_payload-in-Last.ensures.takes in
    let still = subst (λ rule. FollowsAccepts g.R.Rule.may_say rule accepts) (sym takes.rule) follows in
    subst (λ news. BringsContents (g.K.Disk.state c.args.disk.now) c.turn.new.self.store (g.K.Disk.state c.turn.new.disk) x (contents_changed x (change_heard accepts c.args.self.now.view c.args.self.now.view.live (news_view news))) c.turn.result) (sym c.in-Last.is)
    (hears_last c.contents_follow_their_log.ensures.kept accepts c.args.self.now.view c.add_payload-in-Last.new.self.view x c.in-Last.payload.now (g.K.Disk.state c.args.disk.now) c.add_payload-in-Last.new.self.store (g.K.Disk.state c.add_payload-in-Last.new.disk) c.turn.new.self.store (g.K.Disk.state c.turn.new.disk) _ c.turn.result kept
    takes.view_is (c.in_ok-add_payload-in-Last.ensures.brings x kept holds) (λ then_kept then_holds. c.turn.ensures.brings accepts still _ then_kept then_holds))

pub returns-in-Done-clause-brings : goal.returns-in-Done-clause-brings
returns-in-Done-clause-brings g c = λ accepts follows x kept holds.
    subst (λ news. BringsContents (g.K.Disk.state c.args.disk.now) c.turn-in-Done.new.self.store (g.K.Disk.state c.turn-in-Done.new.disk) x (contents_changed x (change_heard accepts c.args.self.now.view c.args.self.now.view.live (news_view news))) c.turn-in-Done.result) (sym c.in-Done.is)
    (hears_done accepts (g.K.Disk.state c.args.disk.now) c.turn-in-Done.new.self.store (g.K.Disk.state c.turn-in-Done.new.disk) x c.args.self.now.view c.turn-in-Done.result (c.turn-in-Done.ensures.brings accepts follows x kept holds))

pub returns-in-PeerError-clause-brings : goal.returns-in-PeerError-clause-brings
returns-in-PeerError-clause-brings g c = λ accepts follows x kept holds.
    subst (λ news. BringsContents (g.K.Disk.state c.args.disk.now) c.turn-in-PeerError.new.self.store (g.K.Disk.state c.turn-in-PeerError.new.disk) x (contents_changed x (change_heard accepts c.args.self.now.view c.args.self.now.view.live (news_view news))) c.turn-in-PeerError.result) (sym c.in-PeerError.is)
    (hears_error accepts (g.K.Disk.state c.args.disk.now) c.turn-in-PeerError.new.self.store (g.K.Disk.state c.turn-in-PeerError.new.disk) x c.args.self.now.view c.in-PeerError.code c.turn-in-PeerError.result (c.turn-in-PeerError.ensures.brings accepts follows x kept holds))

pub returns-in_err-add_payload-in-Block-clause-brings : goal.returns-in_err-add_payload-in-Block-clause-brings
returns-in_err-add_payload-in-Block-clause-brings g c = λ accepts follows x kept holds.
    subst (λ news. BringsContents (g.K.Disk.state c.args.disk.now) c.add_payload.new.self.store (g.K.Disk.state c.add_payload.new.disk) x (contents_changed x (change_heard accepts c.args.self.now.view c.args.self.now.view.live (news_view news))) c.from_residual.result) (sym c.in-Block.is)
    (hears_block accepts (g.K.Disk.state c.args.disk.now) c.add_payload.new.self.store (g.K.Disk.state c.add_payload.new.disk) x c.args.self.now.view c.in-Block.payload.now c.from_residual.result kept
    (fails_so (g.K.Disk.state c.args.disk.now) c.add_payload.new.self.store c.add_payload.new.self.store (g.K.Disk.state c.add_payload.new.disk) x.active _ _ _ c.add_payload.result c.from_residual.result c.from_residual.ensures.0 (c.add_payload.ensures.brings x kept holds)))

pub returns-in_err-add_payload-in-Last-clause-brings : goal.returns-in_err-add_payload-in-Last-clause-brings
returns-in_err-add_payload-in-Last-clause-brings g c = λ accepts follows x kept holds.
    last_fails (g.K.Disk.state c.args.disk.now) c.add_payload-in-Last.new.self.store c.add_payload-in-Last.new.self.store (g.K.Disk.state c.add_payload-in-Last.new.disk) x
    (contents_changed x (change_heard accepts c.args.self.now.view c.args.self.now.view.live (news_view c.args.news.now))) c.in-Last.payload.now c.add_payload-in-Last.result
    c.from_residual-in_err-add_payload-in-Last.result c.from_residual-in_err-add_payload-in-Last.ensures.0 (c.add_payload-in-Last.ensures.brings x kept holds)
