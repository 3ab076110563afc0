use Rattle.tftp_link.specs.Answers.{news_view}
use Rattle.tftp_packet.specs.Packets.{packet_view}
use Rattle.transfer_end.specs.Calls.{posted, posts_view}
use Rattle.loader_machine.proofs.Following.{hears}
use Rattle.loader_machine.proofs.loader.Loader.on_transfer.Goals as goal

pub returns : goal.returns
returns c =
    hears _ c.args.self.now c.args.from c.args.to (packet_view c.args.packet.now) c.on_packet.new.self (news_view c.in_ok-post.field-0.news) c.follow.new.self
    (posted c.in_ok-post.field-0.post) (posted c.in_ok-next.next) (posts_view c.of.result) c.self.view_is c.requires.port c.in_ok-post.ensures.moves c.in_ok-post.ensures.news
    c.in_ok-next.ensures.session c.in_ok-next.ensures.idle c.of.ensures
