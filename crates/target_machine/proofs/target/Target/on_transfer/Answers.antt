use Rattle.std.proofs.Common.{refl, subst, sym}
use Rattle.accept_rules.specs.Interlocks.{FollowsAccepts}
use Rattle.target_machine.specs.Decisions.{TargetState}
use Rattle.tftp_link.specs.Answers.{news_view}
use Rattle.tftp_packet.specs.Packets.{packet_view}
use Rattle.transfer_end.specs.Calls.{posted, posts_view}
use Rattle.target_machine.proofs.Following.{hears_so}
use Rattle.std.proofs.Common.{Ok, option_map}
use Rattle.target_machine.specs.Machine.{session_seen}
use Rattle.load_intake.specs.declared.down.Down.{Down}
use Rattle.session_rules.specs.Contents.{AreKept, contents_changed}
use Rattle.session_rules.specs.Target.{transfer_decision}
use Rattle.target_machine.specs.Disks.{BringsContents, HoldsContents}
use Rattle.target_machine.proofs.Bringing.{kept_end, transfer_brings}
use Rattle.target_machine.proofs.Holding.{answers_so, fails_so}
use Rattle.target_machine.proofs.target.Target.on_transfer.Goals as goal

pub returns-clause-does : goal.returns-clause-does
returns-clause-does g c = λ accepts follows.
    hears_so accepts _ c.args.self.now _ c.follow.new.self c.args.from c.args.to (packet_view c.args.packet.now) (news_view c.in_ok-post.field-0.news) (posted c.in_ok-post.field-0.post) (posted c.in_ok-next.next) (posts_view c.of.result)
    c.self.view_is c.in_ok-post.ensures.moves refl refl c.in_ok-post.ensures.news (c.in_ok-next.ensures.session accepts (subst (λ (x : TargetState g.row.R.Denot). FollowsAccepts g.R.Rule.may_say x.rule accepts) (sym c.self.view_is) follows)) c.in_ok-next.ensures.idle c.of.ensures

pub returns-clause-brings : goal.returns-clause-brings
returns-clause-brings g c = λ accepts follows x kept holds.
    subst (λ (y : TargetState g.row.R.Denot). FollowsAccepts g.R.Rule.may_say y.rule accepts → AreKept x y.view → HoldsContents y.store (g.K.Disk.state c.args.disk.now) x
    → BringsContents {E = Down} (g.K.Disk.state c.args.disk.now) c.follow.new.self.store (g.K.Disk.state c.follow.new.disk) x (contents_changed x (transfer_decision accepts y.view y.view.live c.args.from c.args.to (packet_view c.args.packet.now)).change) (Ok c.of.result)) c.self.view_is
    (λ f k h. transfer_brings accepts (record { end = c.self.inside.end; live = option_map (session_seen c.self.inside.installed.active.loads) c.self.inside.live; active = c.self.inside.installed.active; reason = c.self.inside.reason }) (record { end = c.on_packet.new.self; live = option_map (session_seen c.self.inside.installed.active.loads) c.self.inside.live; active = c.self.inside.installed.active; reason = c.self.inside.reason }) c.args.from c.args.to (packet_view c.args.packet.now) (news_view c.in_ok-post.field-0.news) (posted c.in_ok-post.field-0.post) (g.K.Disk.state c.args.disk.now) c.follow.new.self.store (g.K.Disk.state c.follow.new.disk) x (Ok c.of.result)
    refl c.in_ok-post.ensures.moves c.in_ok-post.ensures.news
    (answers_so (g.K.Disk.state c.args.disk.now) c.follow.new.self.store (g.K.Disk.state c.follow.new.disk) x.active _ _ _ _ c.of.result (c.in_ok-next.ensures.brings accepts f x (kept_end x _ _ _ k refl) h))) follows kept holds

pub returns-in_err-next-clause-brings : goal.returns-in_err-next-clause-brings
returns-in_err-next-clause-brings g c = λ accepts follows x kept holds.
    subst (λ (y : TargetState g.row.R.Denot). FollowsAccepts g.R.Rule.may_say y.rule accepts → AreKept x y.view → HoldsContents y.store (g.K.Disk.state c.args.disk.now) x
    → BringsContents (g.K.Disk.state c.args.disk.now) c.follow.new.self.store (g.K.Disk.state c.follow.new.disk) x (contents_changed x (transfer_decision accepts y.view y.view.live c.args.from c.args.to (packet_view c.args.packet.now)).change) c.from_residual-in_err-next.result) c.self.view_is
    (λ f k h. transfer_brings accepts (record { end = c.self.inside.end; live = option_map (session_seen c.self.inside.installed.active.loads) c.self.inside.live; active = c.self.inside.installed.active; reason = c.self.inside.reason }) (record { end = c.on_packet.new.self; live = option_map (session_seen c.self.inside.installed.active.loads) c.self.inside.live; active = c.self.inside.installed.active; reason = c.self.inside.reason }) c.args.from c.args.to (packet_view c.args.packet.now) (news_view c.in_ok-post.field-0.news) (posted c.in_ok-post.field-0.post) (g.K.Disk.state c.args.disk.now) c.follow.new.self.store (g.K.Disk.state c.follow.new.disk) x c.from_residual-in_err-next.result
    refl c.in_ok-post.ensures.moves c.in_ok-post.ensures.news
    (fails_so (g.K.Disk.state c.args.disk.now) c.follow.new.self.store c.follow.new.self.store (g.K.Disk.state c.follow.new.disk) x.active _ _ _ c.follow.result c.from_residual-in_err-next.result c.from_residual-in_err-next.ensures.0 (c.follow.ensures.brings accepts f x (kept_end x _ _ _ k refl) h))) follows kept holds
