use Rattle.transfer_end.specs.Calls.{posted}
use Rattle.upload_replay.proofs.Posted.{parts_of_first, parts_on}
use Rattle.upload_replay.proofs.posting.post_all.Goals as goal

pub returns-in-Ok-clause-in_part : goal.returns-in-Ok-clause-in_part
returns-in-Ok-clause-in_part g c =
    parts_on (posted c.args.posts.first) (posted c.args.posts.second) (g.L.Link.state c.args.link.now) (g.L.Link.state c.post.new.link) (g.L.Link.state c.post-in-Ok.new.link) c.in-Ok.ensures.posts c.post-in-Ok.ensures.in_part

pub returns-in-Err-clause-in_part : goal.returns-in-Err-clause-in_part
returns-in-Err-clause-in_part g c = parts_of_first (posted c.args.posts.first) (posted c.args.posts.second) (g.L.Link.state c.args.link.now) (g.L.Link.state c.post.new.link) c.post.ensures.in_part
